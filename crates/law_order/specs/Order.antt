-- One order of all calls, arrivals and vsyncs of a run, said over its records alone.
use Rattle.std.specs.Prelude.{◌≡◌, ◌≢◌, ℕ, ◌<◌, pred, Bool, true, List, Contains, Some, slice_get}
use Rattle.sf_record.specs.declared.event.VsyncRecords.{VsyncRecords}
use Rattle.sf_record.specs.declared.record.ArrivalEntry.{ArrivalEntry}
use Rattle.sf_record.specs.declared.record.CommitRecord.{CommitRecord}
use Rattle.sf_record.specs.declared.record.HistoryEntry.{HistoryEntry}
use Rattle.sf_record.specs.declared.record.QueueHistory.{QueueHistory}

-- what the records of a run show of its calls, its arrivals and its vsyncs
pub record Happened : Type 0 where
  pub histories : List QueueHistory
  pub arrived : List ArrivalEntry
  pub vsyncs : List VsyncRecords

-- a call: its queue, its place there from 0, and the entry
pub record CallAt : Type 0 where
  pub queue : ℕ
  pub place : ℕ
  pub entry : HistoryEntry

-- an arrival: its number, from 1, and the entry
pub record ArrivalAt : Type 0 where
  pub number : ℕ
  pub entry : ArrivalEntry

-- the call stands at its place in the history of its queue
pub record IsCall (all : Happened) (call : CallAt) : Type 0 where
  pub history : QueueHistory
  pub there : Contains all.histories history
  pub of_queue : history.queue ≡ call.queue
  pub at : slice_get history.entries call.place ≡ Some call.entry

-- the arrival stands at the place of its number
pub record IsArrival (all : Happened) (arrival : ArrivalAt) : Type 0 where
  pub from_1 : 0 < arrival.number
  pub at : slice_get all.arrived (pred arrival.number) ≡ Some arrival.entry

-- the second call stands behind the first one on the same queue
pub record IsLaterThere (one next : CallAt) : Type 0 where
  pub queue : one.queue ≡ next.queue
  pub place : one.place < next.place

-- the second call is of the same actor as the first one, and of a later step, whatever their queues are
pub record IsLaterStep (one next : CallAt) : Type 0 where
  pub of_actor : one.entry.caller ≢ 0
  pub caller : one.entry.caller ≡ next.entry.caller
  pub step : one.entry.step < next.entry.step

-- One order. Each call, arrival and vsync has a number. The numbers rise along each history, along the arrivals and along the
-- vsyncs; along the calls of each actor by its steps, on all queues; from an actor's calls to what it sends in a later step, and,
-- where its arrival is reported at once, from there to its calls in later steps; from an arrival to the vsync that commits it; and
-- from a vsync to its releases, and on to the next vsync.
pub record InOneOrder (tells : Bool) (all : Happened) : Type 0 where
  pub call : CallAt → ℕ
  pub arrival : ℕ → ℕ
  pub vsync : ℕ → ℕ
  pub histories : (one next : CallAt) → IsCall all one → IsCall all next → IsLaterThere one next → call one < call next
  pub arrivals : (one next : ℕ) → one < next → arrival one < arrival next
  pub vsyncs : (one next : ℕ) → one < next → vsync one < vsync next
  pub steps : (one next : CallAt) → IsCall all one → IsCall all next → IsLaterStep one next → call one < call next
  pub sends : (one : CallAt) (sent : ArrivalAt) → IsCall all one → IsArrival all sent → one.entry.caller ≡ sent.entry.actor
      → one.entry.step < sent.entry.step → call one < arrival sent.number
  pub told : tells ≡ true → (sent : ArrivalAt) (next : CallAt) → IsArrival all sent → IsCall all next → sent.entry.actor ≡ next.entry.caller
      → sent.entry.step < next.entry.step → arrival sent.number < call next
  pub commits : (at : VsyncRecords) (commit : CommitRecord) → Contains all.vsyncs at → Contains at.commits commit → arrival commit.arrival < vsync at.number
  pub releases : (one : CallAt) → IsCall all one → one.entry.caller ≡ 0 → vsync one.entry.step < call one
  pub ends : (one : CallAt) (next : ℕ) → IsCall all one → one.entry.caller ≡ 0 → one.entry.step < next → call one < vsync next
