-- What a done try of an actor does, as an event of it: wherever it is next among those of all callers, something is kept.
use Rattle.std.specs.Prelude.{◌≡◌, ℕ, suc, ◌+◌, List, [], ◌∷◌, ◌++◌, length, map, Some, None}
use Rattle.law_draws.specs.sf_calls.Histories.{GoesOnWithout}
use Rattle.law_draws.specs.sf_surface.Histories.{Made}
use Rattle.law_draws.specs.sf_surface.Tokens.{ReadLeaseOf}
use Rattle.law_draws.specs.sf_token.Pending.{Arrival}
use Rattle.law_draws.specs.sf_txn.Transactions.{Contents}
use Rattle.law_draws.specs.sf_actor.Desks.{DeskView}
use Rattle.law_draws.specs.sf_actor.Known.{ArriveWithout}
use Rattle.law_draws.specs.sf_actor.Rights.{Turn}
use Rattle.law_draws.specs.sf_actor.Tries.{ActorOf}
use Rattle.law_draws.specs.law_rights.States.{State}
use Rattle.law_threads.specs.Cuts.{GoesBack, Lifts, Local, Whole, with_sent}

module _ {B : Type 0} where
  -- what an actor holds, with the frames that it has yet to give back, and the turns that it left
  abbrev pub local_of : ActorOf B → List ReadLeaseOf → List Turn → Local B
  local_of of on leaves = record { actors = of ∷ []; pending = []; on = on; leaves = leaves }

-- It made one call on a queue, which its actor then knew as the newest one.
pub record LiftsCall {B : Type 0} (whole : Whole B) (Holds : State B → Type 0) (by : ℕ) (was is : ActorOf B) (on : List ReadLeaseOf) (old new : DeskView B) : Type 0 where
  pub queue : ℕ
  pub made : Made B
  pub earlier : List (Made B)
  pub newest : new.calls queue ≡ made ∷ earlier
  pub by_it : made.by ≡ by
  pub step : made.call.0 ≡ length was.trace + 1
  pub goes_on : GoesOnWithout by (old.calls queue) earlier
  pub others : (other : ℕ) → (other ≡ queue → ⊥) → new.calls other ≡ old.calls other
  pub arrivals : new.arrivals ≡ old.arrivals
  pub lifts : Lifts whole Holds (local_of was on old.turns.leaves) (Some (suc queue, length earlier)) (local_of is on new.turns.leaves)

-- It sent a transaction, which its actor then knew as the last that arrived: that left its bindings, and is on its way.
pub record LiftsSend {B : Type 0} (whole : Whole B) (Holds : State B → Type 0) (by : ℕ) (was is : ActorOf B) (old new : DeskView B) : Type 0 where
  pub number : ℕ
  pub txn : Contents ReadLeaseOf
  pub earlier : List (Arrival ReadLeaseOf)
  pub last : new.arrivals ≡ earlier ++ record { number = number; actor = record { 0 = by }; step = length was.trace + 1; txn = txn } ∷ []
  pub goes_on : ArriveWithout by old.arrivals earlier
  pub calls : new.calls ≡ old.calls
  pub lifts : (arrived : Arrival ReadLeaseOf) → arrived.txn ≡ txn
      → Lifts whole Holds (local_of was [] old.turns.leaves) None (with_sent arrived (local_of is [] new.turns.leaves))

-- a frame that was given back in a call on its queue, behind the calls before it
pub record Given (B : Type 0) : Type 0 where
  pub lease : ReadLeaseOf
  pub queue : ℕ
  pub made : Made B
  pub earlier : List (Made B)

module _ {B : Type 0} where
  abbrev pub given_lease : Given B → ReadLeaseOf
  given_lease given = given.lease

  -- what its caller knew then
  pub record GivesOne (by number : ℕ) (given : Given B) (old new : DeskView B) : Type 0 where
    pub newest : new.calls given.queue ≡ given.made ∷ given.earlier
    pub by_it : given.made.by ≡ by
    pub step : given.made.call.0 ≡ number
    pub goes_on : GoesOnWithout by (old.calls given.queue) given.earlier
    pub others : (other : ℕ) → (other ≡ given.queue → ⊥) → new.calls other ≡ old.calls other
    pub arrivals : new.arrivals ≡ old.arrivals

  -- so were these, one after the other
  abbrev pub GivesAll : ℕ → ℕ → List (Given B) → DeskView B → DeskView B → Type 0
  GivesAll by number [] old new = (new.calls ≡ old.calls) × (new.arrivals ≡ old.arrivals)
  GivesAll by number (given ∷ later) old new = (mid : DeskView B) × GivesOne by number given old mid × GivesAll by number later mid new

  -- a caller called nothing and sent nothing, though it may have learnt of calls of others
  pub record LearnsOnly (by : ℕ) (old new : DeskView B) : Type 0 where
    pub calls : (queue : ℕ) → GoesOnWithout by (old.calls queue) (new.calls queue)
    pub arrivals : new.arrivals ≡ old.arrivals

  module _ (whole : Whole B) (Holds : State B → Type 0) where
    -- each frame goes back wherever its call is next
    abbrev pub AllGiven : List (Given B) → Type 0
    AllGiven [] = Unit {0}
    AllGiven (given ∷ later) = GoesBack whole Holds given.lease (suc given.queue, length given.earlier) × AllGiven later

    -- What a done try comes to: it called nothing; or it made a call, or sent a transaction; or it gave frames back, which left its
    -- actor's bindings before.
    pub data Comes (by : ℕ) (was is : ActorOf B) (old new : DeskView B) : Type 0 where
      Quietly : Lifts whole Holds (local_of was [] old.turns.leaves) None (local_of is [] new.turns.leaves) → LearnsOnly by old new → Comes by was is old new
      Calling : LiftsCall whole Holds by was is [] old new → Comes by was is old new
      Sending : LiftsSend whole Holds by was is old new → Comes by was is old new
      Giving : (gives : List (Given B)) → GivesAll by (length was.trace + 1) gives old new → AllGiven gives
          → Lifts whole Holds (local_of was [] old.turns.leaves) None (local_of is (map given_lease gives) new.turns.leaves) → Comes by was is old new
