-- The callers of a run in threads, each with just its own calls to do, in the order of their stamps.
use Rattle.std.specs.Prelude.{Contains, ◌≡◌, ◌≤◌, ℕ, zero, suc, ◌+◌, ◌==◌, ◌&&◌, Bool, if◌then◌else◌, List, [], ◌∷◌, length, map}
use Rattle.atomic_table.specs.Seated.{TableId}
use Rattle.law_draws.specs.sf_calls.declared.object.Entry.{Entry}
use Rattle.law_draws.specs.sf_calls.Histories.{GoesOnWithout, IsLegal, calls_by}
use Rattle.sf_live_compositor.specs.sf_live_seats.First.{gave_of}
use Rattle.sf_live_compositor.specs.sf_calls_stamped.Stamps.{stamp_of}
use Rattle.law_draws.specs.sf_surface.Histories.{Answers}
use Rattle.law_draws.specs.sf_surface.Tokens.{ReadLeaseOf}
use Rattle.law_draws.specs.sf_token.Pending.{Arrival}
use Rattle.law_draws.specs.sf_actor.Desks.{DeskHome, DeskView, mark_among}
use Rattle.law_draws.specs.sf_actor.Plain.{PlainOf, home_of as plain_home, view_of as plain_view}
use Rattle.law_draws.specs.sf_actor.Rights.{Turn}
use Rattle.sf_live_compositor.specs.sf_live_seats.declared.first.FirstSeats.{FirstSeats}
use Rattle.sf_live_compositor.specs.sf_live_seats.declared.locks.Locks.{Locks}
use Rattle.sf_live_compositor.specs.sf_live_seats.Seats.{QueueEntry, QueuePass, home_of, is_at, marks_of, view_of}
use Rattle.sf_live_compositor.specs.sf_live_threads.Walks.{Moment}
use Rattle.law_draws.specs.law_rights.Vsyncs.{lease_on}
use Rattle.law_draws.specs.law_rights.Standing.{GiveAll}
use Rattle.law_draws.specs.sf_surface.Tokens.{Issued}
use Rattle.law_draws.specs.sf_commit.Releases.{ReleaseOf}
use Rattle.law_draws.specs.sf_txn.declared.lease.Lease.{Ghosts}
use Rattle.sf_turns.specs.Views.{SeatView}
use Rattle.law_threads.specs.Cuts.{Local, Whole}
use Rattle.law_threads.specs.Orders.{Spot}
use Rattle.sf_live_compositor.specs.Vsyncs.{IsVsync, Sitting, Vsyncs}
use Rattle.sf_live_compositor.specs.Vsyncs.{Begin, More}

abbrev pub bit : Bool → ℕ
bit is = if is then 1 else 0

-- how often a number is among numbers
abbrev pub count_of : ℕ → List ℕ → ℕ
count_of n [] = 0
count_of n (m ∷ ms) = bit (n == m) + count_of n ms

module _ {C R : Type 0} where
  -- how many calls of a caller are at a place
  abbrev pub mine : ℕ → ℕ → List (Entry C R) → ℕ
  mine by place [] = 0
  mine by place (e ∷ earlier) = bit ((length earlier == place) && (e.by == by)) + mine by place earlier

  -- each call is one of these callers', who are distinct
  abbrev pub AllOnce : List ℕ → List (Entry C R) → Type 0
  AllOnce bys [] = Unit {0}
  AllOnce bys (e ∷ earlier) = (count_of e.by bys ≡ 1) × AllOnce bys earlier

  -- the stamp of the call at a place
  abbrev pub stamp_in : ℕ → List (Entry (ℕ × C) (ℕ × R)) → ℕ
  stamp_in place [] = 0
  stamp_in place (e ∷ earlier) = if length earlier == place then stamp_of e else stamp_in place earlier

module _ {B : Type 0} where
  -- the whole run, as a desk of one thread has it at its end
  abbrev pub whole_of : PlainOf B → Whole B
  whole_of desk = record { marks = (plain_home desk).marks; view = plain_view desk; arriving = desk.arrivals }

  -- how many calls of a caller on a lock are at a place in the whole run
  abbrev pub total_in : Whole B → ℕ → ℕ → ℕ → ℕ
  total_in whole by zero place = mine by place whole.arriving
  total_in whole by (suc queue) place = mine by place (whole.view.calls queue)

  -- what the pass at a queue shows
  abbrev pub seen_at : ℕ → List (QueuePass B) → List (QueueEntry B)
  seen_at queue [] = []
  seen_at queue (pass ∷ passes) = if is_at queue pass then pass.seen else seen_at queue passes

  -- the stamps of the whole run, as the first seats show them after the join
  abbrev pub stamp_on : FirstSeats B → ℕ → ℕ → ℕ
  stamp_on first zero place = stamp_in place first.seats.arrivals.seen
  stamp_on first (suc queue) place = stamp_in place (seen_at queue first.seats.queues.items)

  abbrev pub stamps : FirstSeats B → Spot → ℕ
  stamps first here = stamp_on first here.0 here.1

  -- what a compositor holds
  abbrev pub sitting_at : List (Arrival ReadLeaseOf) → List ReadLeaseOf → List Turn → Local B
  sitting_at pending on leaves = record { actors = []; pending = pending; on = on; leaves = leaves }

  abbrev pub seated : Sitting B → Local B
  seated sitting = sitting_at sitting.handler.pending (map lease_on sitting.handler.on) sitting.seats.turns.leaves

  -- the number of an actor's caller at a moment
  abbrev pub number_at : Moment B → ℕ
  number_at moment = moment.seats.by

module _ {B : Type 0} where
  -- the calls in which frames go back
  abbrev pub back_spots : (home : DeskHome) (number : ℕ) (releases : List (ReleaseOf ReadLeaseOf)) (old new : DeskView B) → GiveAll home number releases old new → List Spot
  back_spots home number [] old new all = []
  back_spots home number (release ∷ later) old new all = (suc release.queue.0, length all.1.made.earlier) ∷ back_spots home number later all.0 new all.2

-- these calls' stamps are between two
abbrev pub AreBetween : (Spot → ℕ) → ℕ → ℕ → List Spot → Type 0
AreBetween stamp low high [] = Unit {0}
AreBetween stamp low high (here ∷ later) = (low ≤ stamp here) × (stamp here ≤ high) × AreBetween stamp low high later

module _ {B : Type 0} (lease : Ghosts ReadLeaseOf SeatView ReadLeaseOf Issued) (table : TableId) (locks : Locks B) (period : ℕ) (stamp : Spot → ℕ) (bound : ℕ → ℕ) where
  -- The calls of a vsync have stamps between the bounds of the vsync before it and of itself: first it took, and then frames went back.
  pub record IsTimed (before after : Sitting B) (vsync : IsVsync lease table locks period before after) : Type 0 where
    pub low : bound before.number ≤ stamp (0, length vsync.takes.took.earlier)
    pub high : stamp (0, length vsync.takes.took.earlier) ≤ bound after.number
    pub backs : AreBetween stamp (stamp (0, length vsync.takes.took.earlier)) (bound after.number)
        (back_spots (home_of locks vsync.took) after.number vsync.told.releases (view_of (record vsync.took { turns = vsync.turns })) (view_of after.seats) vsync.gives)

  abbrev pub AreTimed : {start end : Sitting B} → Vsyncs lease table locks period start end → Type 0
  AreTimed Begin = Unit {0}
  AreTimed (More {before} {after} log vsync) = AreTimed log × IsTimed before after vsync

module _ {B : Type 0} (lease : Ghosts ReadLeaseOf SeatView ReadLeaseOf Issued) (table : TableId) (period : ℕ) (locks : Locks B)
    (begins last : Sitting B) (log : Vsyncs lease table locks period begins last)
    (first : FirstSeats B) (desk : PlainOf B) where
  -- What the ledger of rights rests on at a join, and `Joins` does not say today: the histories are legal; what the compositor called on
  -- queues is what its seats knew at its last vsync; nobody without a pass called on the arrivals; and the calls of each vsync have stamps
  -- between bounds, which rise with its number.
  pub record AreTied : Type 0 where
    pub legal : (queue : ℕ) → IsLegal (Answers (mark_among (marks_of locks) queue)) ((plain_view desk).calls queue)
    pub called : (queue : ℕ) → GoesOnWithout 0 ((view_of last.seats).calls queue) ((plain_view desk).calls queue)
    pub callers : (by : ℕ) → (Contains (first.seats.by ∷ gave_of first) by → ⊥) → calls_by by desk.arrivals ≡ []
    pub bound : ℕ → ℕ
    pub rises : (n m : ℕ) → n ≤ m → bound n ≤ bound m
    pub timed : AreTimed lease table locks period (stamps first) bound log
