-- What a call of an actor or of the compositor does to a state.
use Rattle.std.specs.Prelude.{◌≡◌, ℕ, [], ◌∷◌, ◌++◌, Contains}
use Rattle.sf_actor_set.specs.sf_surface.declared.call.QCall.{QCall}
use Rattle.sf_actor_set.specs.sf_surface.declared.call.QReply.{QReply}
use Rattle.sf_actor_set.specs.sf_actor.Rights.{Turn}
use Rattle.law_rights.specs.Calls.{brought_rights, given_rights}
use Rattle.law_rights.specs.Ledgers.{Write}
use Rattle.law_rights.specs.Moves.{AreIn, Gets, HasAtMost, ended_by, made_by, owed_by, turn_after, written_by}
use Rattle.law_rights.specs.States.{CallsOnce, State, all_buffers, all_owed, all_written, move_on, rights_held}

-- A call was made: the rights that it brings were held and are no longer, unless the reply gives them; what it leaves owed is owed then,
-- what leaves with it has left, and what is written with it is written; and a buffer that it makes was not made before.
pub record CallStep {B : Type 0} (old new : State B) (by queue step : ℕ) (asked : QCall B) (reply : QReply B) : Type 0 where
  pub marks : new.marks ≡ old.marks
  pub once : CallsOnce old.marks old.view.calls new.view.calls by queue step asked reply
  pub brought : AreIn (brought_rights asked) (rights_held old)
  pub held : HasAtMost (rights_held old ++ given_rights reply.gives) (brought_rights asked) [] (rights_held new)
  pub owed : Gets (all_owed old) (owed_by (move_on old.marks old.view.calls by queue asked)) (all_owed new)
  pub left : Gets old.view.turns.leaves (ended_by (move_on old.marks old.view.calls by queue asked)) new.view.turns.leaves
  pub written : Gets (all_written old) (written_by (move_on old.marks old.view.calls by queue asked)) (all_written new)
  pub unmade : (buffer : ℕ) → Contains (made_by (move_on old.marks old.view.calls by queue asked)) buffer → Contains (all_buffers old.marks old.view.calls) buffer → ⊥

-- No call was made and no turn left: rights only went to other places, or were let go.
pub record QuietStep {B : Type 0} (old new : State B) : Type 0 where
  pub marks : new.marks ≡ old.marks
  pub calls : new.view.calls ≡ old.view.calls
  pub held : HasAtMost (rights_held old) [] [] (rights_held new)
  pub owed : Gets (all_owed old) [] (all_owed new)
  pub left : Gets old.view.turns.leaves [] new.view.turns.leaves
  pub written : Gets (all_written old) [] (all_written new)

-- A turn that was used ends, as that of a read: the next right is held.
pub record EndStep {B : Type 0} (old new : State B) (turn : Turn) : Type 0 where
  pub marks : new.marks ≡ old.marks
  pub calls : new.view.calls ≡ old.view.calls
  pub there : Contains (rights_held old) turn
  pub held : HasAtMost (rights_held old) (turn ∷ []) (turn_after turn ∷ []) (rights_held new)
  pub owed : Gets (all_owed old) [] (all_owed new)
  pub left : Gets old.view.turns.leaves (turn ∷ []) new.view.turns.leaves
  pub written : Gets (all_written old) [] (all_written new)

-- What was owed is drawn.
pub record PayStep {B : Type 0} (old new : State B) (write : Write) : Type 0 where
  pub marks : new.marks ≡ old.marks
  pub calls : new.view.calls ≡ old.view.calls
  pub held : HasAtMost (rights_held old) [] [] (rights_held new)
  pub was_owed : Contains (all_owed old) write
  pub owed : AreIn (all_owed new) (all_owed old)
  pub unpaid : AreIn (all_owed old) (write ∷ all_owed new)
  pub left : Gets old.view.turns.leaves (write.turn ∷ []) new.view.turns.leaves
  pub written : Gets (all_written old) (write.frame ∷ []) (all_written new)
