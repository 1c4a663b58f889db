-- Which drawings are owed before a turn, and which frames are written before a draw.
use Rattle.std.specs.Prelude.{◌≡◌, ℕ, ◌<◌, List, Contains, Some}
use Rattle.sf_slots.specs.declared.slot.Held.{Held}
use Rattle.sf_actor_set.specs.sf_surface.Tokens.{OwingOf}
use Rattle.sf_actor_set.specs.sf_actor.declared.holding.Holding.{Holding}
use Rattle.sf_actor_set.specs.sf_actor.declared.holding.Holding.TheVariants as holding
use Rattle.sf_actor_set.specs.sf_actor.Desks.{DeskHome, DeskView, known_of}
use Rattle.sf_actor_set.specs.sf_actor.Known.{share_of}
use Rattle.sf_actor_set.specs.sf_actor.Holdings.{turn_held}
use Rattle.sf_actor_set.specs.sf_actor.Rights.{Turn, WasGivenAt, issued_turn}
use Rattle.sf_actor_set.specs.sf_actor.Tries.{ActorOf}
use Rattle.sf_actor_set.specs.sf_actor.Written.{FrameNumber}
use Rattle.law_rights.specs.Ledgers.{Write}
use Rattle.law_rights.specs.States.{all_writes}

module _ {B : Type 0} where
  -- a name of an actor owes the drawing of this turn
  pub record IsOwedIn (ofs : List (ActorOf B)) (turn : Turn) : Type 0 where
    pub of : ActorOf B
    pub there : Contains ofs of
    pub owing : OwingOf
    pub held : Held
    pub named : Contains of.parts.names (Some (holding.Owes owing held))
    pub owes : issued_turn owing.turn ≡ turn

  -- an earlier turn at the pixels of what a name holds is owed
  pub record HasEarlier (ofs : List (ActorOf B)) (held : Holding B) : Type 0 where
    pub number : ℕ
    pub earlier : number < (turn_held held).1
    pub owed : IsOwedIn ofs ((turn_held held).0, number)

  -- what can be drawn in: a lease, or what is owed
  abbrev pub MayDraw : Holding B → Type 0
  MayDraw (holding.Lends lease) = Unit {0}
  MayDraw (holding.Owes owing held) = Unit {0}
  MayDraw other = ⊥

  -- The turn of a draw that entered pixels, which the call of the step at this place gave; and each frame that was queued with an earlier
  -- turn at them is written.
  pub record EntersLast (home : DeskHome) (view : DeskView B) (written : List FrameNumber) (actor place : ℕ) : Type 0 where
    pub turn : Turn
    pub given : WasGivenAt (share_of actor (known_of home view)).calls place (Some turn)
    pub before : (write : Write) → Contains (all_writes home.marks view.calls) write → write.turn.0 ≡ turn.0 → write.turn.1 < turn.1 → Contains written write.frame
