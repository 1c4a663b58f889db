-- What a look at a frame shows, by a ledger.
use Rattle.std.specs.Prelude.{◌≡◌, ℕ, ◌==◌, ◌&&◌, Bool, true, List, Contains}
use Rattle.std.specs.List.{list_any}
use Rattle.sf_actor_set.specs.sf_calls.Histories.{IsLegal}
use Rattle.sf_actor_set.specs.sf_surface.declared.call.Gives.TheVariants as gives
use Rattle.sf_actor_set.specs.sf_surface.declared.call.QCall.TheVariants as call
use Rattle.sf_actor_set.specs.sf_surface.declared.mark.QueueMark.{QueueMark}
use Rattle.sf_actor_set.specs.sf_surface.Histories.{Answers, Made}
use Rattle.sf_actor_set.specs.sf_surface.Reading.{plain_lease}
use Rattle.sf_actor_set.specs.sf_surface.Tokens.{ReadLeaseOf}
use Rattle.sf_actor_set.specs.sf_actor.Desks.{mark_among}
use Rattle.sf_actor_set.specs.sf_actor.Names.{FrameOf}
use Rattle.sf_actor_set.specs.sf_actor.Rights.{turn_by}
use Rattle.sf_actor_set.specs.sf_actor.Written.{FrameNumber}
use Rattle.law_rights.specs.Ledgers.{Ledger, Write}
use Rattle.law_rights.specs.Moves.{turn_after}
use Rattle.law_rights.specs.States.{is_queue}

-- the frame's write has ended
abbrev pub is_written : List FrameNumber → FrameOf → Bool
is_written written frame = list_any (λ w. (w.0.0 == frame.0.0) && (w.1 == frame.1.frame)) written

-- the frame was queued, and the right to read it follows the turn in which it is written
pub record IsQueuedFrame (l : Ledger) (lease : ReadLeaseOf) : Type 0 where
  pub write : Write
  pub queued : Contains l.queued write
  pub frame : write.frame ≡ (lease.queue, lease.frame)
  pub follows : turn_by lease.turn ≡ turn_after write.turn

-- A call gave the lease of a frame, which was looked at since: it is the same but for what looks show.
pub record WasAcquired {B : Type 0} (marks : List QueueMark) (calls : ℕ → List (Made B)) (lease : ReadLeaseOf) : Type 0 where
  pub queue : ℕ
  pub there : list_any (is_queue queue) marks ≡ true
  pub legal : IsLegal (Answers (mark_among marks queue)) (calls queue)
  pub made : Made B
  pub made_there : Contains (calls queue) made
  pub expected : ℕ
  pub given : ReadLeaseOf
  pub asked : made.call.1 ≡ call.Acquire expected
  pub gives : made.reply.gives ≡ gives.Read given
  pub plain : plain_lease lease ≡ plain_lease given
  pub number : lease.turn.number ≡ given.turn.number
