-- A history has no more new buffers and frames than calls.
use Rattle.std.proofs.Common.{◌≡◌, ℕ, ◌+◌, ◌≤◌, true, false, List, [], ◌∷◌, ◌++◌, Option, Some, None, length, map, take, arith}
use Rattle.sf_slots.specs.declared.calls.Entry.{Entry}
use Rattle.sf_slots.specs.declared.calls.PlainCall.{PlainCall}
use Rattle.sf_slots.specs.declared.calls.PlainCall.TheVariants as plain
use Rattle.sf_slots.specs.declared.calls.PlainReply.{PlainReply}
use Rattle.sf_slots.specs.declared.calls.PlainReply.TheVariants as reply
use Rattle.sf_slots.specs.declared.item.PlainItem.{PlainItem}
use Rattle.sf_slots.specs.Events.{Event, Make, Lend, Hand, Take, Back, Gone, Mark, Unmark, buffers_made, frames_queued, items_after}
use Rattle.sf_slots.specs.History.{all_slots, back_if, events, events_of, happening, kept_back}

-- events among which are so few new buffers and frames
record HasFew (few : ℕ) (happened : List Event) : Type 0 where
  made : buffers_made happened ≤ few
  queued : frames_queued happened ≤ few

none_few : HasFew 1 []
none_few = record { made = omega arith; queued = omega arith }

more_few : {happened : List Event} → HasFew 0 happened → HasFew 1 happened
more_few few = record { made = omega (arith, few.made); queued = omega (arith, few.queued) }

gone_few : (xs : List ℕ) → HasFew 0 (map Gone xs)
gone_few [] = record { made = omega arith; queued = omega arith }
gone_few (x ∷ xs) = record { made = (gone_few xs).made; queued = (gone_few xs).queued }

unmarked_few : (xs : List ℕ) → HasFew 0 (map Gone xs ++ Unmark ∷ [])
unmarked_few [] = record { made = omega arith; queued = omega arith }
unmarked_few (x ∷ xs) = record { made = (unmarked_few xs).made; queued = (unmarked_few xs).queued }

taken_few : (items : List PlainItem) (s : ℕ) → HasFew 0 (map kept_back items ++ Take s ∷ [])
taken_few [] s = record { made = omega arith; queued = omega arith }
taken_few (item ∷ items) s = record { made = (taken_few items s).made; queued = (taken_few items s).queued }

handed_few : (item : PlainItem) (replaced : Option ℕ) → HasFew 1 (Hand item ∷ back_if replaced)
handed_few item None = record { made = omega arith; queued = omega arith }
handed_few item (Some s) = record { made = omega arith; queued = omega arith }

-- a call makes at most one buffer, and queues at most one frame
call_few : (before : List Event) (earlier : List Entry) (asked : PlainCall) (given : PlainReply) → HasFew 1 (events_of before earlier asked given)
call_few before earlier plain.Connect given = none_few
call_few before earlier plain.Disconnect reply.Done = more_few (unmarked_few _)
call_few before earlier plain.Disconnect _ = none_few
call_few before earlier (plain.MaxDequeued n) reply.Done = more_few (gone_few _)
call_few before earlier (plain.MaxDequeued n) _ = none_few
call_few before earlier (plain.Async on) reply.Done = more_few (gone_few _)
call_few before earlier (plain.Async on) _ = none_few
call_few before earlier (plain.Dequeue width height wait) (reply.Dequeued slot held requested true fence) = record { made = omega arith; queued = omega arith }
call_few before earlier (plain.Dequeue width height wait) (reply.Dequeued slot held requested false fence) = record { made = omega arith; queued = omega arith }
call_few before earlier (plain.Dequeue width height wait) _ = none_few
call_few before earlier (plain.Request lease) (reply.Requested held) = record { made = omega arith; queued = omega arith }
call_few before earlier (plain.Request lease) _ = none_few
call_few before earlier (plain.Queue lease picture width height time crop fence) (reply.Queued frame) = handed_few _ _
call_few before earlier (plain.Queue lease picture width height time crop fence) _ = none_few
call_few before earlier (plain.Cancel lease fence) reply.Done = record { made = omega arith; queued = omega arith }
call_few before earlier (plain.Cancel lease fence) _ = none_few
call_few before earlier (plain.Detach lease) reply.Done = record { made = omega arith; queued = omega arith }
call_few before earlier (plain.Detach lease) _ = none_few
call_few before earlier (plain.Attach held) (reply.Attached slot new) = record { made = omega arith; queued = omega arith }
call_few before earlier (plain.Attach held) _ = none_few
call_few before earlier (plain.MaxAcquired n) reply.Done = more_few (gone_few _)
call_few before earlier (plain.MaxAcquired n) _ = none_few
call_few before earlier plain.Abandon reply.Done = more_few (gone_few all_slots)
call_few before earlier plain.Abandon _ = none_few
call_few before earlier (plain.Acquire expected) (reply.Acquired item dropped) = more_few (taken_few (take dropped (items_after before)) item.slot.0)
call_few before earlier (plain.Acquire expected) _ = none_few
call_few before earlier (plain.Release lease fence) reply.Done = record { made = omega arith; queued = omega arith }
call_few before earlier (plain.Release lease fence) _ = none_few
call_few before earlier (plain.DetachRead lease) reply.Done = record { made = omega arith; queued = omega arith }
call_few before earlier (plain.DetachRead lease) _ = none_few
call_few before earlier (plain.AttachRead held) (reply.Attached slot new) = record { made = omega arith; queued = omega arith }
call_few before earlier (plain.AttachRead held) _ = none_few

-- what events that happen add
record Adds (happened before : List Event) : Type 0 where
  made : buffers_made (happening happened before) ≡ buffers_made before + buffers_made happened
  queued : frames_queued (happening happened before) ≡ frames_queued before + frames_queued happened

one_adds : (event : Event) (happened before : List Event) → Adds happened (event ∷ before) → Adds (event ∷ happened) before
one_adds (Make t width height maker) happened before rest = record { made = omega (arith, rest.made); queued = omega (arith, rest.queued) }
one_adds (Lend t) happened before rest = record { made = rest.made; queued = rest.queued }
one_adds (Hand item) happened before rest = record { made = omega (arith, rest.made); queued = omega (arith, rest.queued) }
one_adds (Take t) happened before rest = record { made = rest.made; queued = rest.queued }
one_adds (Back t fence) happened before rest = record { made = rest.made; queued = rest.queued }
one_adds (Gone t) happened before rest = record { made = rest.made; queued = rest.queued }
one_adds (Mark t) happened before rest = record { made = rest.made; queued = rest.queued }
one_adds Unmark happened before rest = record { made = rest.made; queued = rest.queued }

all_add : (happened before : List Event) → Adds happened before
all_add [] before = record { made = omega arith; queued = omega arith }
all_add (event ∷ happened) before = one_adds event happened before (all_add happened (event ∷ before))

-- the events of a history have no more new buffers and frames than it has calls
pub history_few : (history : List Entry) → (buffers_made (events history) ≤ length history) × (frames_queued (events history) ≤ length history)
history_few [] = (omega arith, omega arith)
history_few (entry ∷ earlier) =
    let before = history_few earlier in
    let few = call_few (events earlier) earlier entry.call entry.reply in
    let add = all_add (events_of (events earlier) earlier entry.call entry.reply) (events earlier) in
    (omega (arith, before.0, few.made, add.made), omega (arith, before.1, few.queued, add.queued))
