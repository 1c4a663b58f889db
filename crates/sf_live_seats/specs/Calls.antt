-- What a call through one pass shows.
use Rattle.std.specs.Prelude.{◌≡◌, ℕ, ◌+◌, ◌<◌, ◌≤◌, List, [], ◌∷◌, ◌++◌, ◌⊎◌, length}
use Rattle.sf_calls.specs.Histories.{GoesOnWithout, IsLegal, entry}
use Rattle.sf_calls_stamped.specs.Stamps.{unstamped}
use Rattle.sf_actor.specs.sf_surface.Tokens.{ReadLeaseOf}
use Rattle.sf_intake.specs.sf_token.Arrivals.{AnswersCall, sent, waiting}
use Rattle.sf_intake.specs.sf_token.declared.arrivals.ArriveCall.TheVariants as arrive
use Rattle.sf_intake.specs.sf_token.declared.arrivals.ArriveReply.TheVariants as reply
use Rattle.sf_intake.specs.sf_token.Pending.{Arrival}
use Rattle.sf_intake.specs.sf_txn.Transactions.{Contents}
use Rattle.sf_actor.specs.Known.{ArriveWithout}
use Rattle.sf_live_seats.specs.declared.clock.Clock.{Clock}
use Rattle.sf_live_seats.specs.Arriving.{ArrivalCalls, ArrivalsPass}

-- a transaction was sent: it is the last that is known to have arrived, and those before it go on without one of the caller
pub record SentOne (old new : ArrivalsPass) (step : ℕ) (txn : Contents ReadLeaseOf) (number : ℕ) : Type 0 where
  pub earlier : List (Arrival ReadLeaseOf)
  pub last : sent (unstamped new.seen) ≡ earlier ++ record { number = length earlier + 1; actor = record { 0 = old.by }; step = step; txn = txn } ∷ []
  pub place : number ≡ length earlier + 1
  pub goes_on : ArriveWithout old.by (sent (unstamped old.seen)) earlier

-- what waits was taken: it is what was sent since anybody last took, of the calls that are known, and these go on without one
-- of the caller
pub record TookOne (old new : ArrivalsPass) (list : List (Arrival ReadLeaseOf)) : Type 0 where
  pub earlier : ArrivalCalls
  pub newest : unstamped new.seen ≡ entry old.by arrive.Take (reply.Batch list) ∷ earlier
  pub waits : list ≡ waiting earlier
  pub legal : IsLegal AnswersCall (unstamped new.seen)
  pub goes_on : GoesOnWithout old.by (unstamped old.seen) earlier

-- The moments of what a caller did before and after a call: the call was made now, after all of those, or it was not made.
pub record IsMade (before after : Clock) (old new : List (ℕ × ℕ)) : Type 0 where
  pub step : before.step ≤ after.step
  pub stamp : before.stamp < after.stamp
  pub moments : new ≡ (after.step, after.stamp) ∷ old

pub record IsNotMade (before after : Clock) (old new : List (ℕ × ℕ)) : Type 0 where
  pub last : after ≡ before
  pub moments : new ≡ old

abbrev pub Ticks : Clock → Clock → List (ℕ × ℕ) → List (ℕ × ℕ) → Type 0
Ticks before after old new = IsMade before after old new ⊎ IsNotMade before after old new
