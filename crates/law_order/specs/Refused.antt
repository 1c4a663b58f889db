-- What no order explains: calls in a circle, and a release before what was called to get its frame.
use Rattle.std.specs.Prelude.{◌≡◌, ◌<◌, ◌≤◌, Contains}
use Rattle.sf_record.specs.declared.event.VsyncRecords.{VsyncRecords}
use Rattle.sf_record.specs.declared.record.CommitRecord.{CommitRecord}
use Rattle.law_order.specs.Order.{ArrivalAt, CallAt, Happened, IsArrival, IsCall, IsLaterStep, IsLaterThere}

-- Two calls of one actor and two of another, in a circle.
pub record HasCircle (all : Happened) : Type 0 where
  -- an actor calls on a first queue, and in a later step on a second one
  pub first : CallAt
  pub second : CallAt
  pub is_first : IsCall all first
  pub is_second : IsCall all second
  pub later : IsLaterStep first second
  -- another calls on the second queue, and in a later step on the first one
  pub other_first : CallAt
  pub other_second : CallAt
  pub is_other_first : IsCall all other_first
  pub is_other_second : IsCall all other_second
  pub other_later : IsLaterStep other_first other_second
  -- both later calls stand before the other's first one
  pub crosses : IsLaterThere other_second first
  pub crosses_too : IsLaterThere second other_first

-- A release of a vsync that stands before a call without which its frame was not sent.
pub record HasEarlyRelease (all : Happened) : Type 0 where
  pub call : CallAt
  pub release : CallAt
  pub sent : ArrivalAt
  pub is_call : IsCall all call
  pub is_release : IsCall all release
  pub is_sent : IsArrival all sent
  -- the actor of the call sent this in a later step
  pub by_sender : call.entry.caller ≡ sent.entry.actor
  pub step : call.entry.step < sent.entry.step
  -- a vsync committed it
  pub at : VsyncRecords
  pub commit : CommitRecord
  pub shown : Contains all.vsyncs at
  pub commits : Contains at.commits commit
  pub arrival : commit.arrival ≡ sent.number
  -- the release is the compositor's, in this vsync or a later one
  pub by_compositor : release.entry.caller ≡ 0
  pub by_then : at.number ≤ release.entry.step
  -- the call stands behind it
  pub too_late : IsLaterThere release call
