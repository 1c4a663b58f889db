-- The first caller's seats, which give seats to other callers and take them in.
use Rattle.std.specs.Prelude.{◌≡◌, ℕ, ◌+◌, true, false, Option, Some, None, List, [], ◌∷◌, ◌++◌, length, map, Contains}
use Rattle.std.specs.List.{AllByRecursion, AllZip}
use Rattle.std.specs.declared.snapshot.Snapshot.{Snapshot}
use Rattle.atomic_table.specs.Seated.{TableId}
use Rattle.sf_calls.specs.Histories.{GoesOnWithout}
use Rattle.sf_times.specs.Seats.{joined as joined_times, lending, split_off}
use Rattle.sf_turns.specs.Views.{joined as joined_turns}
use Rattle.sf_actor.specs.Known.{AreAmong, CountsRise}
use Rattle.sf_intake.specs.Views.{new_sender}
use Rattle.sf_live_seats.specs.declared.at_intake.AtIntake.{AtIntake}
use Rattle.sf_live_seats.specs.declared.at_intake.AtIntake.TheVariants as at
use Rattle.sf_live_seats.specs.declared.first.FirstSeats.{FirstSeats}
use Rattle.sf_live_seats.specs.declared.inbox.Inbox.{Inbox}
use Rattle.sf_live_seats.specs.declared.locks.Locks.{Locks}
use Rattle.sf_live_seats.specs.declared.seats.Seats.{Seats}
use Rattle.sf_live_seats.specs.Arriving.{ArrivalsPass}
use Rattle.sf_live_seats.specs.Inboxes.{Admits}
use Rattle.sf_live_seats.specs.Moves.{Stays}
use Rattle.sf_live_seats.specs.Passes.{KeepsOwn}
use Rattle.sf_live_seats.specs.Seats.{AreSeats, AreWhole, QueuePass, is_finished, posts_of, view_of}

module _ {B : Type 0} where
  abbrev pub gave_of : FirstSeats B → List ℕ
  gave_of first = first.seats.arrivals.gave

  -- the seats that were taken in, as they were then
  abbrev pub took_of : FirstSeats B → List (Seats B)
  took_of first = map (λ (seats : Snapshot (Seats B)). seats.value) first.took.items

  -- a pass that gave one to each of these callers, at a queue that had no calls when it was put under its lock
  pub record Leads (gave : List ℕ) (pass : QueuePass B) : Type 0 where
    pub is_first : pass.is_first ≡ true
    pub gave_is : pass.gave ≡ gave
    pub start : pass.start ≡ []

  -- the first pass took in that one of the caller
  abbrev pub TookPass : ℕ → QueuePass B → QueuePass B → Type 0
  TookPass by first pass = Contains first.took (by, pass.seen)

  -- what these seats knew was taken in
  pub record IsTaken (first : Seats B) (buffers : TableId) (locks : Locks B) (seats : Seats B) : Type 0 where
    pub own : AreWhole buffers locks seats
    pub queues : AllZip (TookPass seats.by) first.queues.items seats.queues.items
    pub arrivals : Contains first.arrivals.took (seats.by, seats.arrivals.seen)
    pub known : AreAmong seats.times.knows.known first.times.knows.known
    pub signals : AreAmong seats.times.knows.signals first.times.knows.signals
    pub leaves : AreAmong seats.turns.leaves first.turns.leaves
    pub seen : CountsRise seats.turns.seen first.turns.seen

  -- The first caller's seats: each pass and seat is the first of its table. All passes gave one to the same callers, and each
  -- seat has as many out as were given and not taken in.
  pub record IsFirst (buffers : TableId) (locks : Locks B) (first : FirstSeats B) : Type 0 where
    pub own : AreSeats buffers locks first.seats
    pub number : first.seats.by ≡ 0
    pub queues : AllByRecursion (Leads (gave_of first)) first.seats.queues.items
    pub arrivals : first.seats.arrivals.is_first ≡ true
    pub start : first.seats.arrivals.start ≡ []
    pub times : first.seats.times.knows.is_first ≡ true
    pub turns : first.seats.turns.is_first ≡ true
    pub times_out : first.seats.times.knows.out + length first.took.items ≡ length (gave_of first)
    pub turns_out : first.seats.turns.out + length first.took.items ≡ length (gave_of first)
    pub took : (seats : Seats B) → Contains (took_of first) seats → IsTaken first.seats buffers locks seats

  -- they are so still after any calls through them
  abbrev pub StaysFirst : TableId → Locks B → FirstSeats B → FirstSeats B → Type 0
  StaysFirst buffers locks old new =
      IsFirst buffers locks old → AreSeats buffers locks new.seats → Stays old.seats new.seats → new.took ≡ old.took → IsFirst buffers locks new

  -- all that were given were taken in
  pub record HasAll (first : FirstSeats B) : Type 0 where
    pub all : (by : ℕ) → Contains (gave_of first) by → Contains (map (λ (seats : Seats B). seats.by) (took_of first)) by
    pub many : length first.took.items ≡ length (gave_of first)

  -- no call on anything is known, nothing was sent through a sender, and what is sent is still taken
  pub record KnowsNothing (seats : Seats B) : Type 0 where
    pub queues : AllByRecursion (λ (pass : QueuePass B). pass.seen ≡ []) seats.queues.items
    pub arrivals : seats.arrivals.seen ≡ []
    pub posts : posts_of seats.intake ≡ []
    pub unfinished : is_finished seats.intake ≡ false

  -- seats know the same calls and arrivals
  pub record KnowsSame (old new : Seats B) : Type 0 where
    pub calls : (queue : ℕ) → (view_of new).calls queue ≡ (view_of old).calls queue
    pub arrivals : (view_of new).arrivals ≡ (view_of old).arrivals

  -- seats for a caller, which is not the first, that know what the first ones know, and signalled nothing and left no turn
  pub record IsGiven (by : ℕ) (first seats : Seats B) : Type 0 where
    pub number : seats.by ≡ by
    pub apart : seats.by ≡ 0 → ⊥
    pub knows : KnowsSame first seats
    pub nothing : KnowsNothing seats
    pub times : seats.times ≡ record first.times { knows = split_off first.times.knows }
    pub turns : seats.turns ≡ record first.turns { is_first = false; out = 0; leaves = [] }

  -- the first seats, after they gave some to a caller
  pub record Gives (by : ℕ) (old new : FirstSeats B) : Type 0 where
    pub gave : gave_of new ≡ by ∷ gave_of old
    pub took : took_of new ≡ took_of old
    pub number : new.seats.by ≡ old.seats.by
    pub last : new.seats.last ≡ old.seats.last
    pub knows : KnowsSame old.seats new.seats
    pub nothing : KnowsNothing new.seats
    pub times : new.seats.times ≡ record old.seats.times { knows = lending old.seats.times.knows }
    pub turns : new.seats.turns ≡ record old.seats.turns { out = old.seats.turns.out + 1 }

  -- The first seats, after they took others in: what they knew goes on without a further call of the first caller.
  pub record Meets (seats : Seats B) (old new : FirstSeats B) : Type 0 where
    pub gave : gave_of new ≡ gave_of old
    pub took : took_of new ≡ took_of old ++ seats ∷ []
    pub number : new.seats.by ≡ old.seats.by
    pub times : new.seats.times ≡ record old.seats.times { knows = joined_times old.seats.times.knows seats.times.knows }
    pub turns : new.seats.turns ≡ joined_turns old.seats.turns seats.turns
    pub queues : AllZip KeepsOwn old.seats.queues.items new.seats.queues.items
    pub calls : (queue : ℕ) → GoesOnWithout old.seats.by ((view_of old.seats).calls queue) ((view_of new.seats).calls queue)
    pub arrivals : GoesOnWithout old.seats.by old.seats.arrivals.seen new.seats.arrivals.seen

  -- a caller may be given its pass, or a sender where none was made for it yet
  abbrev pub MayHandOut : Locks B → ℕ → AtIntake B → Type 0
  MayHandOut locks by at.Nothing = Unit {0}
  MayHandOut locks by (at.Sends outbox) = ⊥
  MayHandOut locks by (at.Takes inbox) = (locks.intake ≡ Some inbox.taker.intake) × (Contains inbox.taker.made by → ⊥) × (inbox.senders ≡ length inbox.taker.made)
  MayHandOut locks by at.Finished = ⊥

  -- a sender was made for a caller, whose pass went to the inbox
  pub record GivesSender (by : ℕ) (pass : ArrivalsPass) (inbox : Inbox B) (new : AtIntake B) (given_pass : Option ArrivalsPass) (given : AtIntake B) : Type 0 where
    pub after : Inbox B
    pub takes : new ≡ at.Takes after
    pub admits : Admits by pass inbox after
    pub none : given_pass ≡ None
    pub sends : given ≡ at.Sends (record { sender = new_sender inbox.taker.intake (record { 0 = by }); count = 0 })

  -- what a caller is given at the arrivals: its pass, or a sender from an inbox
  abbrev pub HandsOut : ℕ → ArrivalsPass → AtIntake B → AtIntake B → Option ArrivalsPass → AtIntake B → Type 0
  HandsOut by pass at.Nothing new given_pass given = (given_pass ≡ Some pass) × (given ≡ at.Nothing) × (new ≡ at.Nothing)
  HandsOut by pass (at.Sends outbox) new given_pass given = ⊥
  HandsOut by pass (at.Takes inbox) new given_pass given = GivesSender by pass inbox new given_pass given
  HandsOut by pass at.Finished new given_pass given = ⊥
