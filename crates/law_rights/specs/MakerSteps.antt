-- What a call does to the places of rights, and to a run.
use Rattle.std.specs.Prelude.{◌≡◌, ℕ, ◌<◌, ◌⊎◌, true, List, [], ◌∷◌, ◌++◌, Contains}
use Rattle.sf_base.specs.declared.ids.QueueId.{QueueId}
use Rattle.sf_slots.specs.declared.calls.PlainReply.{PlainReply}
use Rattle.sf_actor_set.specs.sf_surface.declared.call.QCall.{QCall}
use Rattle.sf_actor_set.specs.sf_surface.declared.call.QCall.TheVariants as call
use Rattle.sf_actor_set.specs.sf_surface.declared.call.QReply.{QReply}
use Rattle.sf_actor_set.specs.sf_surface.declared.mark.QueueMark.{QueueMark}
use Rattle.sf_actor_set.specs.sf_surface.Histories.{Made, told, told_entry, told_reply}
use Rattle.sf_actor_set.specs.sf_actor.Makers.{BufferOf, Run, attached_from, before_attach, is_attached, making_of}
use Rattle.sf_actor_set.specs.sf_actor.Desks.{mark_among}
use Rattle.law_rights.specs.Calls.{made_of}
use Rattle.law_rights.specs.MakerCalls.{IsNewAt, brought_at, given_at}
use Rattle.law_rights.specs.Makers.{GoesOn, Places, RightAt, WasMade, WriteAt, place_written, places_of, places_out}
use Rattle.law_rights.specs.Moves.{AreIn, Gets, HasAtMost}
use Rattle.law_rights.specs.Places.{WasAt}
use Rattle.law_rights.specs.States.{State}
use Rattle.law_rights.specs.Steps.{CallStep}
use Rattle.law_rights.specs.Stays.{IsBefore, IsFirst}

module _ {B : Type 0} where
  -- what a call did: rights stay where they were, but at a buffer that came; a frame that it queued is the latest of its buffer and queue
  pub record PlacesTold (queue : QueueId) (asked : QCall B) (answered : PlainReply) (from : BufferOf) (old new : Places) : Type 0 where
    pub live : (right : RightAt) → Contains new.live right → WasAt old right ⊎ IsNewAt queue asked answered right
    pub moved : (right now : RightAt) → Contains new.live right → IsNewAt queue asked answered now → right.turn.0 ≡ now.turn.0 → right.at ≡ now.at
    pub brought : AreIn (brought_at from asked) old.live
    pub owed : AreIn new.owed (place_written queue asked answered ++ old.owed)
    pub queued : Gets old.queued (place_written queue asked answered) new.queued
    pub made : AreIn new.made (made_of asked answered ++ old.made)
    pub unmade : (buffer : ℕ) → Contains (made_of asked answered) buffer → Contains old.made buffer → ⊥
    pub live_made : (right : RightAt) → Contains old.live right → Contains old.made right.turn.0
    pub queued_made : (write : WriteAt) → Contains old.queued write → Contains old.made write.write.turn.0
    pub own : (write : WriteAt) → Contains (place_written queue asked answered) write
        → (right : RightAt) → Contains (brought_at from asked) right → right.at.queue ≡ queue.0
    pub latest : (write other : WriteAt) → Contains (place_written queue asked answered) write → Contains old.queued other
        → other.write.turn.0 ≡ write.write.turn.0 → other.write.turn.1 < write.write.turn.1
    pub frames : (write other : WriteAt) → Contains (place_written queue asked answered) write → Contains old.queued other → other.write.frame.0.0 ≡ write.write.frame.0.0
        → other.write.frame.1 < write.write.frame.1

  -- where the buffer of a stay was before, by the call that made it
  abbrev pub IsMadeBy : Run → QCall B → BufferOf → BufferOf → Type 0
  IsMadeBy run (call.Dequeue width height wait permit) from stay = IsFirst run stay
  IsMadeBy run asked from stay = IsBefore run stay from

  -- a run goes on with a call, whose step the trace has already: a buffer that comes to the queue is new there
  pub record RunTold (queue : QueueId) (asked : QCall B) (answered : PlainReply) (from : BufferOf) (before after : Run) : Type 0 where
    pub on : GoesOn before after
    pub was_none : (right : RightAt) → IsNewAt queue asked answered right → WasMade before right.at → ⊥
    pub was_made : (right : RightAt) → IsNewAt queue asked answered right → WasMade after right.at
    pub made_by : (right : RightAt) → IsNewAt queue asked answered right → IsMadeBy after asked from right.at

-- The calls on a queue in a run, before and after one more; what the traces say of the buffers that were attached before
-- is the same, and of one that is attached now, where it was.
pub record RunGets {B : Type 0} (mark : QueueMark) (made : Made B) (earlier : List (Made B)) (from : BufferOf) (before after : Run) : Type 0 where
  pub old : before.calls mark.queue.0 ≡ told mark earlier
  pub new : after.calls mark.queue.0 ≡ told mark (made ∷ earlier)
  pub others : (queue : ℕ) → (queue ≡ mark.queue.0 → ⊥) → after.calls queue ≡ before.calls queue
  pub traced : (stay : BufferOf) → WasMade before stay
      → before_attach after stay (making_of (before.calls stay.queue) stay.number) ≡ before_attach before stay (making_of (before.calls stay.queue) stay.number)
  pub attached : (stay : BufferOf) → is_attached (told_reply mark earlier made.by made.call.1) ≡ true
      → attached_from after (told_entry mark (told mark earlier) made) stay ≡ from

-- A call was made: of the places out of queues, that of the right that it brings is one no longer, unless the reply gives it; and what is
-- owed then is what was, or the frame that it queued.
pub record PlaceStep {B : Type 0} (old new : State B) (by queue step : ℕ) (asked : QCall B) (reply : QReply B) (from : BufferOf) : Type 0 where
  pub call : CallStep old new by queue step asked reply
  pub brought : AreIn (brought_at from asked) (places_out old)
  pub held : HasAtMost (places_out old ++ given_at from asked reply.gives) (brought_at from asked) [] (places_out new)
  pub owed : AreIn (places_of new).owed (place_written (mark_among old.marks queue).queue asked
      (told_reply (mark_among old.marks queue) (old.view.calls queue) by asked) ++ (places_of old).owed)
