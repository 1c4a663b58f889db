-- What a desk has and knows, and what its calls report.
use Rattle.std.specs.Prelude.{◌≡◌, ◌≢◌, ℕ, ◌+◌, ◌<◌, ◌≤◌, ◌==◌, Bool, true, false, if◌then◌else◌}
use Rattle.std.specs.Prelude.{Option, List, [], ◌∷◌, ◌++◌, length, map}
use Rattle.std.specs.List.{list_any, range_with_len}
use Rattle.atomic_table.specs.Seated.{TableId}
use Rattle.sf_base.specs.Points.{greatest}
use Rattle.sf_base.specs.declared.fences.Seen.{Seen}
use Rattle.sf_token.specs.sf_calls.Histories.{GoesOnWithout, IsLegal, entry, waits}
use Rattle.sf_surface.specs.declared.call.QCall.{QCall}
use Rattle.sf_surface.specs.declared.call.QReply.{QReply}
use Rattle.sf_surface.specs.declared.mark.QueueMark.{QueueMark}
use Rattle.sf_surface.specs.Histories.{Answers, Made}
use Rattle.sf_surface.specs.Tokens.{ReadLeaseOf}
use Rattle.sf_times.specs.declared.protocol.Knows.{Knows}
use Rattle.sf_times.specs.Seats.{IsAlone, OnlyOwnSignals}
use Rattle.sf_token.specs.Pending.{Arrival}
use Rattle.sf_surface.specs.sf_turns.Counts.{IsExact}
use Rattle.sf_surface.specs.sf_turns.Views.{SeatView}
use Rattle.sf_token.specs.sf_txn.Transactions.{Contents}
use Rattle.sf_actor.specs.Known.{ArriveWithout, Known, number_told}

-- What no call of a desk changes: the marks of its queues; whether all that happens goes through it, so that what it knows
-- is exact; whether it reports to a sender the place of its transaction among the arrivals; the tables that its passes and seats
-- are of; the callers that it serves; the intake that its transactions go through, where they go through one; and, where it is
-- exact, how many of its arrivals a compositor has taken.
pub record DeskHome : Type 0 where
  pub marks : List QueueMark
  pub is_exact : Bool
  pub tells : Bool
  pub tables : List TableId
  pub serves : ℕ → Bool
  pub intake : Option (ℕ × ℕ)
  pub taken : ℕ

abbrev pub has_queue : DeskHome → ℕ → Bool
has_queue home queue = list_any (λ (mark : QueueMark). mark.queue.0 == queue) home.marks

-- a queue that is not there
abbrev pub no_mark : QueueMark
no_mark = record { queue = record { 0 = 0 }; width = 0; height = 0 }

-- the mark of the queue of a number
abbrev pub mark_among : List QueueMark → ℕ → QueueMark
mark_among [] queue = no_mark
mark_among (mark ∷ marks) queue = if mark.queue.0 == queue then mark else mark_among marks queue

-- What a desk knows: the calls on its queues, by the queues' numbers, the newest first; the arrivals, in order; what its
-- seats at the timelines and at the turns know; and how many turns under locks it had.
pub record DeskView (B : Type 0) : Type 0 where
  pub calls : ℕ → List (Made B)
  pub arrivals : List (Arrival ReadLeaseOf)
  pub times : Knows
  pub turns : SeatView
  pub locked : ℕ

-- the greatest value of each timeline among points
abbrev pub values_of : List (ℕ × ℕ) → Seen
values_of points = record { values = map (λ t. greatest t points) (range_with_len 1 64) }

module _ {B : Type 0} where
  -- how often it looked: its turns under locks, and the loads of its seats
  abbrev pub looks : DeskView B → ℕ
  looks view = (view.locked + length view.times.shown) + length view.turns.seen

  -- what a desk says of an actor's trace
  abbrev pub known_of : DeskHome → DeskView B → Known B
  known_of home view = record {
    marks = mark_among home.marks;
    tells = home.tells;
    calls = view.calls;
    arrivals = view.arrivals;
    values = values_of view.times.known;
    signals = view.times.signals;
    left = view.turns.leaves;
    counts = view.turns.seen;
  }

  -- nothing was learnt, and the desk had no turn under a lock
  abbrev pub IsAsBefore : DeskView B → DeskView B → Type 0
  IsAsBefore old new = new ≡ old

  -- the calls of one queue alone changed
  pub record ChangesQueue (old new : DeskView B) (queue : ℕ) : Type 0 where
    pub same : new ≡ record old { calls = new.calls; locked = new.locked }
    pub others : (other : ℕ) → other ≢ queue → new.calls other ≡ old.calls other
    pub locked : old.locked ≤ new.locked

  -- a call that was made: it is the newest of the calls that are known now, which are legal and go on from those that were
  -- known with no other call of the caller; where the desk is exact, nobody else called meanwhile
  pub record MadeCall (home : DeskHome) (old new : DeskView B) (by queue : ℕ) (asked : ℕ × QCall B) (reply : QReply B) : Type 0 where
    pub changes : ChangesQueue old new queue
    pub legal : IsLegal (Answers (mark_among home.marks queue)) (new.calls queue)
    pub earlier : List (Made B)
    pub newest : new.calls queue ≡ entry by asked reply ∷ earlier
    pub goes_on : GoesOnWithout by (old.calls queue) earlier
    pub alone : home.is_exact ≡ true → earlier ≡ old.calls queue

  -- a call that was not made: after the calls that are known now, which are legal and go on without one of the caller, it is
  -- not time for it; where the desk is not exact, it looked
  pub record WaitsForCall (home : DeskHome) (old new : DeskView B) (by queue : ℕ) (asked : ℕ × QCall B) : Type 0 where
    pub changes : ChangesQueue old new queue
    pub legal : IsLegal (Answers (mark_among home.marks queue)) (new.calls queue)
    pub goes_on : GoesOnWithout by (old.calls queue) (new.calls queue)
    pub not_yet : Answers (mark_among home.marks queue) (new.calls queue) by asked waits
    pub alone : home.is_exact ≡ true → new.calls queue ≡ old.calls queue
    pub looked : home.is_exact ≡ false → old.locked < new.locked

  -- a transaction that was sent: it is the last of the arrivals that are known now, and the arrivals before it go on from those
  -- that were known with none of the caller's; the caller learns its place among them, or 0 where the desk reports no place, and
  -- then nothing else is known to have arrived
  pub record MadeSend (home : DeskHome) (old new : DeskView B) (by step : ℕ) (txn : Contents ReadLeaseOf) (number : ℕ) : Type 0 where
    pub same : new ≡ record old { arrivals = new.arrivals; locked = new.locked }
    pub earlier : List (Arrival ReadLeaseOf)
    pub last : new.arrivals ≡ earlier ++ record { number = length earlier + 1; actor = record { 0 = by }; step = step; txn = txn } ∷ []
    pub told : number ≡ number_told home.tells (length earlier + 1)
    pub untold : home.tells ≡ false → earlier ≡ old.arrivals
    pub goes_on : ArriveWithout by old.arrivals earlier
    pub alone : home.is_exact ≡ true → earlier ≡ old.arrivals
    pub locked : old.locked ≤ new.locked

  -- the seat at the timelines alone changed
  abbrev pub ChangesTimes : DeskView B → DeskView B → Type 0
  ChangesTimes old new = new ≡ record old { times = new.times }

  -- the seat at the turns alone changed
  abbrev pub ChangesTurns : DeskView B → DeskView B → Type 0
  ChangesTurns old new = new ≡ record old { turns = new.turns }

-- All that happened is known: the seats are first ones with no other out, so each signal was made and each turn was left
-- through them, and nothing else was seen.
pub record KnowsAll {B : Type 0} (view : DeskView B) : Type 0 where
  pub alone : IsAlone view.times
  pub signals : OnlyOwnSignals view.times
  pub first : view.turns.is_first ≡ true
  pub none_out : view.turns.out ≡ 0
  pub leaves : IsExact view.turns.table.slots view.turns.leaves view.turns.seen
