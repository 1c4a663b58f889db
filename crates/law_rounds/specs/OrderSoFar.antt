-- The order of a run that goes on: how far each has come, and what is done next.
use Rattle.std.specs.Prelude.{◌≡◌, ℕ, ◌+◌, ◌<◌, ◌≤◌, Bool, List, ◌++◌, length, All, Contains}
use Rattle.sf_play.specs.sf_record.declared.event.VsyncRecords.{VsyncRecords}
use Rattle.sf_play.specs.sf_record.declared.record.ArrivalEntry.{ArrivalEntry}
use Rattle.sf_play.specs.sf_record.declared.record.CommitRecord.{CommitRecord}
use Rattle.law_order.specs.Order.{ArrivalAt, CallAt, Happened, InOneOrder, IsArrival, IsCall}

-- What happened so far is in one order, with numbers below a bound. Each actor has come to a step, and the compositor, whose number
-- is 0, to a vsync: none of their calls, and nothing that was sent, is of a later one.
pub record IsOrderedSoFar (tells : Bool) (come_to : ℕ → ℕ) (all : Happened) : Type 0 where
  pub order : InOneOrder tells all
  pub bound : ℕ
  pub calls_low : (one : CallAt) → IsCall all one → order.call one < bound
  pub arrivals_low : (number : ℕ) → number ≤ length all.arrived → order.arrival number < bound
  pub vsyncs_low : (number : ℕ) → number ≤ come_to 0 → order.vsync number < bound
  pub called : (one : CallAt) → IsCall all one → one.entry.step ≤ come_to one.entry.caller
  pub sent : (sent : ArrivalAt) → IsArrival all sent → sent.entry.step ≤ come_to sent.entry.actor
  pub made : (at : VsyncRecords) → Contains all.vsyncs at → at.number ≤ come_to 0
  pub committed : (at : VsyncRecords) (commit : CommitRecord) → Contains all.vsyncs at → Contains at.commits commit → commit.arrival ≤ length all.arrived

-- One did more calls in one step, at most so many on each queue, and sent something in it, or did neither. Before there were so many calls
-- on each queue.
pub record DoesMore (by step : ℕ) (before after : Happened) : Type 0 where
  pub many : ℕ → ℕ
  pub most : ℕ
  pub older : (one : CallAt) → IsCall after one → one.place < many one.queue → IsCall before one
  pub newer : (one : CallAt) → IsCall after one → many one.queue ≤ one.place → (one.place < many one.queue + most) × (one.entry.caller ≡ by) × (one.entry.step ≡ step)
  pub sent : List ArrivalEntry
  pub arrived : after.arrived ≡ before.arrived ++ sent
  pub sent_by : All (λ (entry : ArrivalEntry). (entry.actor ≡ by) × (entry.step ≡ step)) sent
  pub vsyncs : after.vsyncs ≡ before.vsyncs

-- one has come to a step, nobody went back, and no vsync was made
pub record ComesTo (by step : ℕ) (come_to later : ℕ → ℕ) : Type 0 where
  pub now : later by ≡ step
  pub rises : (of : ℕ) → come_to of ≤ later of
  pub vsyncs : later 0 ≡ come_to 0

-- the compositor has come to its next vsync, and nobody went back
pub record ComesToVsync (come_to later : ℕ → ℕ) : Type 0 where
  pub now : later 0 ≡ come_to 0 + 1
  pub rises : (of : ℕ) → come_to of ≤ later of

-- a vsync of this number was made, which commits what has arrived
pub record MakesVsync (number : ℕ) (before after : Happened) : Type 0 where
  pub histories : after.histories ≡ before.histories
  pub arrived : after.arrived ≡ before.arrived
  pub shown : List VsyncRecords
  pub vsyncs : after.vsyncs ≡ before.vsyncs ++ shown
  pub numbered : (at : VsyncRecords) → Contains shown at → at.number ≡ number
  pub commits : (at : VsyncRecords) (commit : CommitRecord) → Contains shown at → Contains at.commits commit → commit.arrival ≤ length before.arrived
