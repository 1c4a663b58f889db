-- What one caller brings to what is shared: passes at locks, and seats.
use Rattle.std.specs.Prelude.{◌≡◌, ℕ, ◌+◌, ◌<◌, ◌≤◌, ◌==◌, Bool, true, false, if◌then◌else◌}
use Rattle.std.specs.Prelude.{Option, Some, None, is_none, List, [], ◌∷◌, ◌++◌, map, sum_by, Contains}
use Rattle.std.specs.List.{AllZip}
use Rattle.atomic_table.specs.Seated.{TableId}
use Rattle.sf_base.specs.declared.ids.QueueId.{QueueId}
use Rattle.sf_calls.specs.Histories.{calls_by}
use Rattle.sf_calls_stamped.specs.Stamps.{stamp_of, unstamped}
use Rattle.sf_actor.specs.sf_surface.declared.mark.QueueMark.{QueueMark}
use Rattle.sf_actor.specs.sf_surface.Histories.{Made}
use Rattle.sf_actor.specs.sf_surface.Objects.{mark_of}
use Rattle.sf_actor.specs.sf_surface.Tokens.{ReadLeaseOf}
use Rattle.sf_intake.specs.Posts.{Post, arrivals}
use Rattle.sf_intake.specs.Views.{TakerView}
use Rattle.sf_intake.specs.sf_token.Arrivals.{sent}
use Rattle.sf_intake.specs.sf_token.Pending.{Arrival}
use Rattle.sf_actor.specs.Desks.{DeskHome, DeskView, no_mark}
use Rattle.sf_live_seats.specs.declared.clock.Clock.{Clock}
use Rattle.sf_live_seats.specs.declared.locks.Locks.{Locks}
use Rattle.sf_live_seats.specs.declared.locks.QueueLock.{QueueLock}
use Rattle.sf_live_seats.specs.declared.seats.Seats.{Seats}
use Rattle.sf_live_seats.specs.declared.seats.SeatsParts.{SeatsParts}
use Rattle.sf_live_seats.specs.declared.at_intake.AtIntake.{AtIntake}
use Rattle.sf_live_seats.specs.declared.at_intake.AtIntake.TheVariants as at
use Rattle.sf_live_seats.specs.declared.inbox.Inbox.{Inbox}
use Rattle.sf_live_seats.specs.declared.outbox.Outbox.{Outbox}
use Rattle.sf_live_seats.specs.Arriving.{ArrivalEntry, ArrivalsPass}
use Rattle.sf_live_seats.specs.Inboxes.{HasCouriers, IsInbox}
use Rattle.sf_live_seats.specs.Outboxes.{IsReady}
pub use Rattle.sf_live_seats.specs.Queues.{QueueEntry, QueuePass}
pub use Rattle.sf_live_seats.specs.Sent.{sent_in, takes_in}

-- the mark that a pass knows of its queue
abbrev pub mark_in : Option QueueMark → QueueMark
mark_in None = no_mark
mark_in (Some mark) = mark

module _ {B : Type 0} where
  -- the seats of these parts
  abbrev pub whole_of : SeatsParts B → Seats B
  whole_of parts = record {
    by = parts.by;
    last = parts.last;
    queues = parts.queues;
    arrivals = parts.arrivals;
    pass = parts.pass;
    intake = parts.intake;
    times = parts.times;
    turns = parts.turns;
  }

  -- what the queue under a lock was made with
  abbrev pub lock_mark : QueueLock B → QueueMark
  lock_mark lock = mark_of lock.opened.value

  abbrev pub is_lock : ℕ → QueueLock B → Bool
  is_lock queue lock = lock.number.0 == queue

  abbrev pub marks_of : Locks B → List QueueMark
  marks_of locks = map lock_mark locks.queues.items

  abbrev pub numbers_of : Locks B → List QueueId
  numbers_of locks = map (λ (lock : QueueLock B). lock.number) locks.queues.items

  -- the tables of all locks and of the timelines
  abbrev pub tables_of : Locks B → List TableId
  tables_of locks = locks.arrivals ∷ locks.times ∷ map (λ (lock : QueueLock B). lock.lock) locks.queues.items

  -- whether a sender learns the place of its transaction among the arrivals: it is not where transactions come through an intake
  abbrev pub tells_of : Locks B → Bool
  tells_of locks = is_none locks.intake

  -- what no call changes: a caller's passes are ones of these locks, and serve it alone
  abbrev pub home_of : Locks B → Seats B → DeskHome
  home_of locks seats = record {
    marks = marks_of locks;
    is_exact = false;
    tells = tells_of locks;
    tables = tables_of locks;
    serves = λ by. by == seats.by;
    intake = locks.intake;
    taken = 0;
  }

  abbrev pub is_at : ℕ → QueuePass B → Bool
  is_at queue pass = (mark_in pass.mark).queue.0 == queue

  -- the calls that are known of the queue of a number, without their stamps
  abbrev pub calls_known : List (QueuePass B) → ℕ → List (Made B)
  calls_known [] queue = []
  calls_known (pass ∷ passes) queue = if is_at queue pass then unstamped pass.seen else calls_known passes queue

  -- how many turns the passes at queues had under their locks
  abbrev pub turns_had : List (QueuePass B) → ℕ
  turns_had passes = sum_by (λ (pass : QueuePass B). pass.turns) passes

  -- what a caller sent through its sender
  abbrev pub posts_of : AtIntake B → List (Post ReadLeaseOf)
  posts_of at.Nothing = []
  posts_of (at.Sends outbox) = outbox.sender.sent
  posts_of (at.Takes inbox) = []
  posts_of at.Finished = []

  -- the arrivals that are known: of a caller with a sender those that it sent, else those among these calls
  abbrev pub arrivals_known : AtIntake B → List ArrivalEntry → List (Arrival ReadLeaseOf)
  arrivals_known at.Nothing seen = sent (unstamped seen)
  arrivals_known (at.Sends outbox) seen = arrivals 1 outbox.sender.sent
  arrivals_known (at.Takes inbox) seen = sent (unstamped seen)
  arrivals_known at.Finished seen = sent (unstamped seen)

  -- what the passes and seats know
  abbrev pub view_of : Seats B → DeskView B
  view_of seats = record {
    calls = calls_known seats.queues.items;
    arrivals = arrivals_known seats.intake seats.arrivals.seen;
    times = seats.times.knows;
    turns = seats.turns;
    locked = seats.arrivals.turns + turns_had seats.queues.items;
  }

  -- the caller's step and the stamp of a call on a queue
  abbrev pub moment : QueueEntry B → ℕ × ℕ
  moment call = (call.call.1.0, stamp_of call)

  -- those of the caller's calls that its passes at queues know
  abbrev pub calls_made : ℕ → List (QueuePass B) → List (ℕ × ℕ)
  calls_made by [] = []
  calls_made by (pass ∷ passes) = map moment (calls_by by pass.seen) ++ calls_made by passes

-- The caller's calls are made in order: none has a step or a stamp beyond the last one's, and one of a later step has a greater
-- stamp.
pub record IsInOrder (last : Clock) (moments : List (ℕ × ℕ)) : Type 0 where
  pub step : (m : ℕ × ℕ) → Contains moments m → m.0 ≤ last.step
  pub stamp : (m : ℕ × ℕ) → Contains moments m → m.1 ≤ last.stamp
  pub rise : (m n : ℕ × ℕ) → Contains moments m → Contains moments n → m.0 < n.0 → m.1 < n.1

-- the step and stamp of what was sent through a sender
abbrev pub post_moment : Post ReadLeaseOf → ℕ × ℕ
post_moment post = (post.step, post.stamp)

module _ {B : Type 0} where
  -- the steps and stamps of all calls that a caller made and all that it sent
  abbrev pub moments_of : Seats B → List (ℕ × ℕ)
  moments_of seats = calls_made seats.by seats.queues.items ++ (sent_in (calls_by seats.by seats.arrivals.seen) ++ map post_moment (posts_of seats.intake))

  -- a pass of the lock, for the caller, which knows what the queue was made with
  pub record IsPassOf (by : ℕ) (lock : QueueLock B) (pass : QueuePass B) : Type 0 where
    pub own : pass.table ≡ lock.lock
    pub number : pass.by ≡ by
    pub marked : pass.mark ≡ Some (lock_mark lock)
    pub numbered : lock.number ≡ (lock_mark lock).queue

  -- a caller, which is not the first, has a sender of its own at the intake
  pub record HasSender (locks : Locks B) (by : ℕ) (last : Clock) (outbox : Outbox B) : Type 0 where
    pub intake : locks.intake ≡ Some outbox.sender.intake
    pub number : outbox.sender.by.0 ≡ by
    pub apart : by ≡ 0 → ⊥
    pub ready : IsReady last outbox

  -- the first caller takes from the intake, and has the pass of each sender that it made, to whose caller it gave one
  pub record HasTaker (locks : Locks B) (by : ℕ) (all : List ℕ) (last : Clock) (inbox : Inbox B) : Type 0 where
    pub intake : locks.intake ≡ Some inbox.taker.intake
    pub number : by ≡ 0
    pub gave : (by : ℕ) → Contains inbox.taker.made by → Contains all by
    pub own : IsInbox locks.arrivals inbox
    pub couriers : HasCouriers last inbox

  abbrev pub IsAtIntake : Locks B → ℕ → List ℕ → Clock → AtIntake B → Type 0
  IsAtIntake locks by gave last at.Nothing = locks.intake ≡ None
  IsAtIntake locks by gave last (at.Sends outbox) = HasSender locks by last outbox
  IsAtIntake locks by gave last (at.Takes inbox) = HasTaker locks by gave last inbox
  IsAtIntake locks by gave last at.Finished = (by ≡ 0) × (tells_of locks ≡ false)

  -- nothing is taken from the intake any more
  abbrev pub is_finished : AtIntake B → Bool
  is_finished at.Nothing = false
  is_finished (at.Sends outbox) = false
  is_finished (at.Takes inbox) = false
  is_finished at.Finished = true

  -- a caller's sender, where it has one, is of this intake
  abbrev pub SendsTo : ℕ × ℕ → AtIntake B → Type 0
  SendsTo intake at.Nothing = Unit {0}
  SendsTo intake (at.Sends outbox) = outbox.sender.intake ≡ intake
  SendsTo intake (at.Takes inbox) = Unit {0}
  SendsTo intake at.Finished = Unit {0}

  -- what a caller sent through its sender was heard
  abbrev pub IsHeard : TakerView ReadLeaseOf → AtIntake B → Type 0
  IsHeard taker at.Nothing = Unit {0}
  IsHeard taker (at.Sends outbox) = Contains taker.heard (outbox.sender.by.0, outbox.sender.sent)
  IsHeard taker (at.Takes inbox) = Unit {0}
  IsHeard taker at.Finished = Unit {0}

  -- the pass at the arrivals is there, but for a caller with a sender
  abbrev pub pass_at : AtIntake B → ArrivalsPass → Option ArrivalsPass
  pass_at at.Nothing pass = Some pass
  pass_at (at.Sends outbox) pass = None
  pass_at (at.Takes inbox) pass = Some pass
  pass_at at.Finished pass = Some pass

  -- A caller's passes and seats are ones of these locks and timelines, and of this table of turns; what it did, it did in order; and
  -- none but the first caller, whose number is 0, takes what arrived.
  pub record AreSeats (buffers : TableId) (locks : Locks B) (seats : Seats B) : Type 0 where
    pub queues : AllZip (IsPassOf seats.by) locks.queues.items seats.queues.items
    pub own_arrivals : seats.arrivals.table ≡ locks.arrivals
    pub marked : seats.arrivals.mark ≡ Some tt
    pub number : seats.arrivals.by ≡ seats.by
    pub own_times : seats.times.table ≡ locks.times
    pub own_turns : seats.turns.table ≡ buffers
    pub in_order : IsInOrder seats.last (moments_of seats)
    pub takes : (seats.by ≡ 0 → ⊥) → takes_in (calls_by seats.by seats.arrivals.seen) ≡ []
    pub pass : seats.pass ≡ pass_at seats.intake seats.arrivals
    pub way : IsAtIntake locks seats.by seats.arrivals.gave seats.last seats.intake

  -- seats of a caller that may send: it is not the first one, which takes what was sent
  pub record MaySend (buffers : TableId) (locks : Locks B) (seats : Seats B) : Type 0 where
    pub own : AreSeats buffers locks seats
    pub apart : seats.by ≡ 0 → ⊥

  -- Seats with all their passes, as the first ones take them in. What a caller sent through a sender was put among the arrivals later
  -- than it was sent, so its calls there need not be in order with its others.
  pub record AreWhole (buffers : TableId) (locks : Locks B) (seats : Seats B) : Type 0 where
    pub queues : AllZip (IsPassOf seats.by) locks.queues.items seats.queues.items
    pub own_arrivals : seats.arrivals.table ≡ locks.arrivals
    pub marked : seats.arrivals.mark ≡ Some tt
    pub number : seats.arrivals.by ≡ seats.by
    pub own_times : seats.times.table ≡ locks.times
    pub own_turns : seats.turns.table ≡ buffers
    pub takes : (seats.by ≡ 0 → ⊥) → takes_in (calls_by seats.by seats.arrivals.seen) ≡ []
    pub pass : seats.pass ≡ Some seats.arrivals
    pub nothing : seats.intake ≡ at.Nothing
