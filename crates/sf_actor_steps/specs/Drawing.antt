-- What a step does that draws, that waits for a timeline, or that takes a buffer out of its queue behind its fence.
use Rattle.std.specs.Prelude.{◌≡◌, ℕ, true, Option, Some, None, Ok, Err, get_or}
use Rattle.sf_base.specs.declared.fences.Seen.{Seen}
use Rattle.sf_actor.specs.sf_picture.declared.picture.Picture.{Picture}
use Rattle.sf_actor.specs.sf_surface.declared.drawing.DrawFault.TheVariants.{NotYet as Waits}
use Rattle.sf_actor.specs.sf_surface.Drawing.{DrawsLease, PaysOwing}
use Rattle.sf_actor.specs.sf_surface.Tokens.{WriteLeaseOf, is_size_of}
use Rattle.sf_actor.specs.sf_turns.Views.{SeatView}
use Rattle.sf_actor.specs.declared.holding.Holding.{Holding}
use Rattle.sf_actor.specs.declared.holding.Holding.TheVariants as holding
use Rattle.sf_actor.specs.Desks.{ChangesTimes, ChangesTurns, DeskHome, DeskView}
use Rattle.sf_actor.specs.Tries.{Sees}
use Rattle.sf_actor_steps.specs.Calling.{with_held}
use Rattle.sf_actor_steps.specs.declared.bindings.Bindings.{Bindings}
use Rattle.sf_actor_steps.specs.declared.tried.Tried.{Tried}
use Rattle.sf_actor_steps.specs.declared.tried.Tried.TheVariants as tried

module _ {B : Type 0} where
  -- the picture can be drawn in what a name holds
  abbrev pub TakesPicture : Picture → Option (Holding B) → Type 0
  TakesPicture picture (Some (holding.Lends lease)) = is_size_of picture lease.held ≡ true
  TakesPicture picture (Some (holding.Owes owing held)) = picture ≡ owing.turn.promises
  TakesPicture picture other = ⊥

  -- what is drawn leaves this under the name
  abbrev pub DrawsHolding : Picture → Seen → Holding B → Option (Holding B) → SeatView → SeatView → Type 0
  DrawsHolding picture seen (holding.Lends lease) after old new =
      (given : WriteLeaseOf) × DrawsLease lease picture seen old new (Ok given) × (after ≡ Some (holding.Lends given))
  DrawsHolding picture seen (holding.Owes owing held) after old new = PaysOwing owing picture seen old new (Ok tt) × (after ≡ None)
  DrawsHolding picture seen other after old new = ⊥

  -- it can't be drawn yet
  abbrev pub WaitsToDraw : Picture → Seen → Holding B → SeatView → SeatView → Type 0
  WaitsToDraw picture seen (holding.Lends lease) old new = DrawsLease lease picture seen old new (Err (Waits lease))
  WaitsToDraw picture seen (holding.Owes owing held) old new = PaysOwing owing picture seen old new (Err (Waits owing))
  WaitsToDraw picture seen other old new = ⊥

  -- a name that holds nothing holds this now
  abbrev pub filled : Bindings B → ℕ → Option (Holding B) → Bindings B
  filled taken name None = taken
  filled taken name (Some held) = with_held taken name (Some held)

  abbrev pub TriesDraw : ℕ → Picture → Seen → Holding B → Bindings B → Bindings B → DeskView B → DeskView B → Tried → Type 0
  TriesDraw name picture seen held taken after old new (tried.Own status) =
      (status ≡ 0) × (left : Option (Holding B)) × DrawsHolding picture seen held left old.turns new.turns × (after ≡ filled taken name left)
  TriesDraw name picture seen held taken after old new tried.NotYet = WaitsToDraw picture seen held old.turns new.turns × (after ≡ filled taken name (Some held))
  TriesDraw name picture seen held taken after old new other = ⊥

  -- a look at the timelines, and then a try of drawing in what the name holds
  pub record Draws (home : DeskHome) (name : ℕ) (picture : Picture) (before after : Bindings B) (old new : DeskView B) (tried : Tried) : Type 0 where
    pub seen : Seen
    pub looked : DeskView B
    pub sees : Sees home old looked seen
    pub times : ChangesTimes old looked
    pub held : Holding B
    pub there : get_or before.names name None ≡ Some held
    pub tries : TriesDraw name picture seen held (with_held before name None) after looked new tried
    pub turns : ChangesTurns looked new
