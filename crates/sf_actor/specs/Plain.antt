-- A desk of one thread: the objects themselves, and the only seats.
use Rattle.std.specs.Prelude.{◌≡◌, ℕ, ◌+◌, ◌==◌, Bool, true, if◌then◌else◌, None, List, [], ◌∷◌, ◌++◌, length, map}
use Rattle.atomic_table.specs.Seated.{TableId}
use Rattle.sf_token.specs.sf_calls.Histories.{waits}
use Rattle.sf_surface.specs.declared.call.QCall.{QCall}
use Rattle.sf_surface.specs.Histories.{Answers, Made}
use Rattle.sf_surface.specs.Objects.{ObjectOf, mark_of}
use Rattle.sf_surface.specs.Tokens.{Issued, ReadLeaseOf}
use Rattle.sf_times.specs.Seats.{IsAlone}
use Rattle.sf_times.specs.Views.{SeatView as TimesView}
use Rattle.sf_token.specs.Arrivals.{Calls, is_take, sent}
use Rattle.sf_surface.specs.sf_turns.Views.{SeatView}
use Rattle.sf_token.specs.sf_txn.Transactions.{Contents}
use Rattle.sf_actor.specs.Desks.{DeskHome, DeskView}

-- its queues, the calls on the arrivals, its seats at the timelines and at the turns, and whether it reports to a sender the place of
-- its transaction
pub record PlainOf (B : Type 0) : Type 0 where
  pub queues : List (ObjectOf B)
  pub arrivals : Calls ReadLeaseOf SeatView ReadLeaseOf Issued
  pub times : TimesView
  pub turns : SeatView
  pub tells : Bool

-- how many of the arrivals a compositor has taken
abbrev pub taken_in : Calls ReadLeaseOf SeatView ReadLeaseOf Issued → ℕ
taken_in [] = 0
taken_in (call ∷ earlier) = if is_take call.call then length (sent earlier) else taken_in earlier

module _ {B : Type 0} where
  abbrev pub is_queue : ℕ → ObjectOf B → Bool
  is_queue queue object = object.queue.number.0 == queue

  -- the calls on the queue of a number
  abbrev pub calls_among : List (ObjectOf B) → ℕ → List (Made B)
  calls_among [] queue = []
  calls_among (object ∷ objects) queue = if is_queue queue object then object.calls else calls_among objects queue

  -- what no call changes: all that happens goes through it, and it serves every caller
  abbrev pub home_of : PlainOf B → DeskHome
  home_of desk = record {
    marks = map mark_of desk.queues;
    is_exact = true;
    tells = desk.tells;
    tables = desk.times.table ∷ [];
    serves = λ by. true;
    intake = None;
    taken = taken_in desk.arrivals;
  }

  -- what it knows: the histories of its objects, whole, and what its seats know
  abbrev pub view_of : PlainOf B → DeskView B
  view_of desk = record {
    calls = calls_among desk.queues;
    arrivals = sent desk.arrivals;
    times = desk.times.knows;
    turns = desk.turns;
    locked = 0;
  }

  -- both seats are first seats with no other out, at the timelines and at the buffers of these tables
  pub record IsPlain (timelines buffers : TableId) (desk : PlainOf B) : Type 0 where
    pub own_times : desk.times.table ≡ timelines
    pub alone : IsAlone desk.times.knows
    pub own_turns : desk.turns.table ≡ buffers
    pub first : desk.turns.is_first ≡ true
    pub none_out : desk.turns.out ≡ 0

-- it was not time for a call on a queue, which is as it was
pub record WaitsOn {B : Type 0} (old new : ObjectOf B) (by : ℕ) (asked : ℕ × QCall B) : Type 0 where
  pub same : new ≡ old
  pub not_yet : Answers (mark_of old) old.calls by asked waits

-- a transaction was sent: it is the last that arrived, and its sender learns its place
pub record IsSentTo (old new : Calls ReadLeaseOf SeatView ReadLeaseOf Issued) (by step : ℕ) (txn : Contents ReadLeaseOf) (number : ℕ) : Type 0 where
  pub last : sent new ≡ sent old ++ record { number = length (sent old) + 1; actor = record { 0 = by }; step = step; txn = txn } ∷ []
  pub place : number ≡ length (sent old) + 1
