-- What calls change of a caller's seats.
use Rattle.std.specs.Prelude.{◌≡◌, ℕ, ◌<◌, ◌≤◌, ◌⊎◌, List, Contains}
use Rattle.std.specs.List.{AllZip}
use Rattle.sf_calls.specs.Histories.{Begins}
use Rattle.sf_calls_stamped.specs.Stamps.{newest_stamp}
use Rattle.sf_actor.specs.sf_surface.Tokens.{ReadLeaseOf}
use Rattle.sf_intake.specs.sf_token.Pending.{Arrival}
use Rattle.sf_actor.specs.Known.{AreAmong, ArriveWithout, CountsRise}
use Rattle.sf_live_seats.specs.declared.at_intake.AtIntake.{AtIntake}
use Rattle.sf_live_seats.specs.declared.at_intake.AtIntake.TheVariants as at
use Rattle.sf_live_seats.specs.declared.inbox.Inbox.{Inbox}
use Rattle.sf_live_seats.specs.declared.seats.Seats.{Seats}
use Rattle.sf_live_seats.specs.Arriving.{ArrivalEntry}
use Rattle.sf_live_seats.specs.Calls.{TookOne}
use Rattle.sf_live_seats.specs.Inboxes.{BringsAll, IsLater}
use Rattle.sf_live_seats.specs.Seats.{QueuePass, arrivals_known, moments_of, posts_of, view_of}

module _ {B : Type 0} where
  -- what a pass knows, which goes on, and how many turns it had
  pub record MovesPass (old new : QueuePass B) : Type 0 where
    pub same : new ≡ record old { seen = new.seen; turns = new.turns }
    pub begins : Begins old.seen new.seen

  -- each call and each transaction that the caller made or sent since has a stamp above that of its last call before
  abbrev pub MadeLater : Seats B → Seats B → Type 0
  MadeLater old new = (m : ℕ × ℕ) → Contains (moments_of new) m → Contains (moments_of old) m ⊎ (old.last.stamp < m.1)

  -- a call on a queue: it changes what passes at queues know, how many turns they had, and which call is the last
  pub record ChangesPasses (old new : Seats B) : Type 0 where
    pub same : new ≡ record old { queues = new.queues; last = new.last }
    pub passes : AllZip MovesPass old.queues.items new.queues.items
    pub last : old.last.stamp ≤ new.last.stamp
    pub later : MadeLater old new

  -- a call on the arrivals, or through an intake: it changes what the pass there knows, how many turns it had, what was sent or taken
  -- through the intake, and which call is the last
  pub record ChangesArrivals (old new : Seats B) : Type 0 where
    pub same : new ≡ record old { arrivals = new.arrivals; pass = new.pass; intake = new.intake; last = new.last }
    pub pass : new.arrivals ≡ record old.arrivals { seen = new.arrivals.seen; turns = new.arrivals.turns }
    pub begins : Begins old.arrivals.seen new.arrivals.seen
    pub last : old.last.stamp ≤ new.last.stamp
    pub later : MadeLater old new

  -- What waits was taken. The desk knows of all that was sent before; these arrivals go on without one of the caller, and what it
  -- got is what was sent since anybody last took. The take has the newest stamp, above that of the caller's last call before, and is of
  -- no step.
  pub record Takes (old new : Seats B) (list : List (Arrival ReadLeaseOf)) : Type 0 where
    pub took : TookOne old.arrivals new.arrivals list
    pub goes_on : ArriveWithout old.by (view_of old).arrivals (view_of new).arrivals
    pub stamp : newest_stamp new.arrivals.seen ≡ new.last.stamp
    pub rose : old.last.stamp < new.last.stamp
    pub step : new.last.step ≡ old.last.step

  -- seats after calls, signals, looks and drawings: what they knew they know, and they gave and took in what they did before
  pub record Stays (old new : Seats B) : Type 0 where
    pub number : new.by ≡ old.by
    pub passes : AllZip MovesPass old.queues.items new.queues.items
    pub arrivals : new.arrivals ≡ record old.arrivals { seen = new.arrivals.seen; turns = new.arrivals.turns }
    pub begins : Begins old.arrivals.seen new.arrivals.seen
    pub times : (new.times.knows.is_first ≡ old.times.knows.is_first) × (new.times.knows.out ≡ old.times.knows.out)
    pub known : AreAmong old.times.knows.known new.times.knows.known
    pub signals : AreAmong old.times.knows.signals new.times.knows.signals
    pub turns : (new.turns.is_first ≡ old.turns.is_first) × (new.turns.out ≡ old.turns.out)
    pub leaves : AreAmong old.turns.leaves new.turns.leaves
    pub seen : CountsRise old.turns.seen new.turns.seen

  -- what was sent through the intake was put among the arrivals: it changes the first caller's inbox, and the stamp of its last call
  pub record BringsIn (old new : Seats B) : Type 0 where
    pub same : new ≡ record old { intake = new.intake; last = new.last }
    pub last : IsLater old.last new.last
    pub posts : posts_of new.intake ≡ posts_of old.intake
    pub known : (seen : List ArrivalEntry) → arrivals_known new.intake seen ≡ arrivals_known old.intake seen

  -- What was sent through an intake was brought in, with stamps below this one, where the caller takes from it.
  abbrev pub HasBrought : ℕ → AtIntake B → AtIntake B → Type 0
  HasBrought bound at.Nothing new = Unit {0}
  HasBrought bound (at.Sends outbox) new = Unit {0}
  HasBrought bound (at.Takes inbox) new = (after : Inbox B) × (new ≡ at.Takes after) × BringsAll bound inbox after
  HasBrought bound at.Finished new = Unit {0}
