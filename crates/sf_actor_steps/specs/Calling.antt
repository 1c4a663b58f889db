-- What an actor has after a call on a queue.
use Rattle.std.specs.Prelude.{◌≡◌, ℕ, slice_set, Option, Some, None}
use Rattle.sf_actor.specs.sf_surface.declared.call.Gives.{Gives}
use Rattle.sf_actor.specs.sf_surface.declared.call.Gives.TheVariants as gives
use Rattle.sf_actor.specs.sf_surface.declared.call.QCall.{QCall}
use Rattle.sf_actor.specs.sf_surface.declared.call.QReply.{QReply}
use Rattle.sf_actor.specs.sf_surface.Hands.{brought, permit_of}
use Rattle.sf_actor.specs.sf_surface.Tokens.{EndingOf}
use Rattle.sf_actor.specs.sf_turns.Views.{Leaves, PermitView}
use Rattle.sf_actor.specs.declared.holding.Holding.{Holding}
use Rattle.sf_actor.specs.declared.holding.Holding.TheVariants as holding
use Rattle.sf_actor.specs.Desks.{ChangesTurns, DeskHome, DeskView, MadeCall, WaitsForCall}
use Rattle.sf_actor_steps.specs.declared.asking.Asking.{Asking}
use Rattle.sf_actor_steps.specs.declared.asking.Homes.{Homes}
use Rattle.sf_actor_steps.specs.declared.bindings.Bindings.{Bindings}
use Rattle.sf_actor_steps.specs.declared.tried.Tried.{Tried}
use Rattle.sf_actor_steps.specs.declared.tried.Tried.TheVariants as tried

module _ {B : Type 0} where
  -- a name holds this
  abbrev pub with_held : Bindings B → ℕ → Option (Holding B) → Bindings B
  with_held bindings name held = record bindings { names = slice_set bindings.names name held }

  -- a token goes to the name of its kind
  abbrev pub placed : Homes → Bindings B → Gives B → Bindings B
  placed homes bindings gives.Nothing = bindings
  placed homes bindings (gives.Write lease) = with_held bindings homes.lent (Some (holding.Lends lease))
  placed homes bindings (gives.Owes owing) = with_held bindings homes.lent (Some (holding.Owes owing homes.held))
  placed homes bindings (gives.Read lease) = with_held bindings homes.frame (Some (holding.Reads lease))
  placed homes bindings (gives.Free loose) = with_held bindings homes.free (Some (holding.Frees homes.last loose))

  -- a permit that made no buffer is kept
  abbrev pub with_spare : Bindings B → Option PermitView → Bindings B
  with_spare bindings None = bindings
  with_spare bindings (Some permit) = record bindings { spare = Some permit }

  -- what a reply gives, and what comes back of a call that was not made
  abbrev pub received : Homes → Bindings B → QReply B → Bindings B
  received homes bindings reply = with_spare (placed homes bindings reply.gives) reply.spare

  abbrev pub taken_back : Homes → Bindings B → QCall B → Bindings B
  taken_back homes bindings asked = with_spare (placed homes bindings (brought asked)) (permit_of asked)

  -- a drawing that ends leaves
  abbrev pub Ends : Option EndingOf → DeskView B → DeskView B → Type 0
  Ends None old new = new ≡ old
  Ends (Some ending) old new = Leaves old.turns ending.turn.buffer ending.turn.number new.turns × ChangesTurns old new

  -- a call that was made, and one that waits
  pub record Calls (home : DeskHome) (by step_number : ℕ) (asking : Asking B) (before after : Bindings B) (old new : DeskView B) (reply : QReply B) : Type 0 where
    pub made_view : DeskView B
    pub made : MadeCall home old made_view by asking.queue.0 (step_number, asking.call) reply
    pub ends : Ends reply.ends made_view new
    pub bindings : after ≡ received asking.homes before reply

  pub record WaitsToCall (home : DeskHome) (by step_number : ℕ) (asking : Asking B) (before after : Bindings B) (old new : DeskView B) : Type 0 where
    pub waits : WaitsForCall home old new by asking.queue.0 (step_number, asking.call)
    pub bindings : after ≡ taken_back asking.homes before asking.call

  -- what a try of a call came to
  abbrev pub TriesCall : DeskHome → ℕ → ℕ → Asking B → Bindings B → Bindings B → DeskView B → DeskView B → Tried → Type 0
  TriesCall home by step_number asking before after old new (tried.Called status values) =
      (reply : QReply B) × (reply.status ≡ status) × (reply.values ≡ values) × Calls home by step_number asking before after old new reply
  TriesCall home by step_number asking before after old new tried.NotYet = WaitsToCall home by step_number asking before after old new
  TriesCall home by step_number asking before after old new other = ⊥
