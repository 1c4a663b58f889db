-- The common state of several callers between two of their events, over the fronts of what was called in the whole run.
use Rattle.std.specs.Prelude.{◌≡◌, ℕ, zero, suc, ◌≤◌, nat_le, if◌then◌else◌, List, [], ◌∷◌, ◌++◌, length, Contains, Option, Some, None}
use Rattle.std.specs.List.{flat_map}
use Rattle.law_draws.specs.sf_surface.declared.mark.QueueMark.{QueueMark}
use Rattle.law_draws.specs.sf_surface.Histories.{Made, told_reply}
use Rattle.law_draws.specs.sf_surface.Tokens.{Issued, ReadLeaseOf}
use Rattle.law_draws.specs.sf_token.Arrivals.{Calls, sent, waiting}
use Rattle.law_draws.specs.sf_token.Pending.{Arrival}
use Rattle.sf_turns.specs.Views.{SeatView}
use Rattle.law_draws.specs.sf_actor.Desks.{DeskView}
use Rattle.law_draws.specs.sf_actor.Rights.{Turn}
use Rattle.law_draws.specs.sf_actor.Tries.{ActorOf}
use Rattle.law_draws.specs.law_rights.Calls.{buffers_in, made_of}
use Rattle.law_draws.specs.law_rights.Ledgers.{IsLedger}
use Rattle.law_draws.specs.law_rights.States.{State, ledger_of}
use Rattle.law_threads.specs.Orders.{Spot, events_in, raised, times_at}

-- the earliest calls of a history, which has the newest first
abbrev pub front : {A : Type 0} → ℕ → List A → List A
front n [] = []
front n (x ∷ xs) = if nat_le (length (x ∷ xs)) n then x ∷ xs else front n xs

-- what a caller holds: its actor, if it is one; what it took and has yet to commit; the frames that it shows or has yet to give back; and
-- the turns that it left
pub record Local (B : Type 0) : Type 0 where
  pub actors : List (ActorOf B)
  pub pending : List (Arrival ReadLeaseOf)
  pub on : List ReadLeaseOf
  pub leaves : List Turn

-- what was called in the whole run
pub record Whole (B : Type 0) : Type 0 where
  pub marks : List QueueMark
  pub view : DeskView B
  pub arriving : Calls ReadLeaseOf SeatView ReadLeaseOf Issued

-- What a caller does at once: it comes from what it holds to what it holds next, maybe by a call. Or it gives a frame back in a call; or
-- what it sent before is put among the arrivals in a call.
pub data Event (B : Type 0) : Type 0 where
  Moves : Local B → Option Spot → Event B
  Returns : ReadLeaseOf → Spot → Event B
  Forwards : Arrival ReadLeaseOf → Spot → Event B

-- an event is next, where so many calls are done; and how many are done after it
abbrev pub IsNext : Option Spot → (ℕ → ℕ) → Type 0
IsNext None heights = Unit {0}
IsNext (Some spot) heights = spot.1 ≡ heights spot.0

abbrev pub heights_after : Option Spot → (ℕ → ℕ) → ℕ → ℕ
heights_after None heights = heights
heights_after (Some spot) heights = raised heights spot.0

-- its ledger is one
abbrev pub HasLedger : {B : Type 0} → State B → Type 0
HasLedger state = IsLedger (ledger_of state)

module _ {B : Type 0} where
  abbrev pub spot_of : Event B → Option Spot
  spot_of (Moves local spot) = spot
  spot_of (Returns lease spot) = Some spot
  spot_of (Forwards arrived spot) = Some spot

  -- the lock of the arrivals is 0, and that of a queue one more than its number
  abbrev pub many_of : Whole B → ℕ → ℕ
  many_of whole zero = length whole.arriving
  many_of whole (suc queue) = length (whole.view.calls queue)

  abbrev pub calls_at : Whole B → (ℕ → ℕ) → ℕ → List (Made B)
  calls_at whole heights = λ queue. front (heights (suc queue)) (whole.view.calls queue)

  -- the state of all callers together, where so many calls are done
  abbrev pub state_at : Whole B → (ℕ → ℕ) → List (Local B) → State B
  state_at whole heights locals = record {
    marks = whole.marks;
    view = record whole.view {
      calls = calls_at whole heights;
      arrivals = sent (front (heights 0) whole.arriving);
      turns = record whole.view.turns { leaves = flat_map (λ (local : Local B). local.leaves) locals };
    };
    actors = flat_map (λ (local : Local B). local.actors) locals;
    waiting = flat_map (λ (local : Local B). local.pending) locals ++ waiting (front (heights 0) whole.arriving);
    on = flat_map (λ (local : Local B). local.on) locals;
  }

  abbrev pub with_back : ReadLeaseOf → Local B → Local B
  with_back lease local = record local { on = lease ∷ local.on }

  -- it sent one more, which is on its way
  abbrev pub with_sent : Arrival ReadLeaseOf → Local B → Local B
  with_sent arrived local = record local { pending = arrived ∷ local.pending }

  -- what a caller holds before a block of events, and before all that it has yet to do
  abbrev pub before : List (Event B) → Local B → Local B
  before [] next = next
  before (Moves local spot ∷ later) next = local
  before (Returns lease spot ∷ later) next = with_back lease (before later next)
  before (Forwards arrived spot ∷ later) next = with_sent arrived (before later next)

  abbrev pub now : List (List (Event B)) → Local B → Local B
  now [] last = last
  now (block ∷ later) last = before block (now later last)

  -- what all callers hold before what each has yet to do
  abbrev pub all_now : List (List (List (Event B))) → List (Local B) → List (Local B)
  all_now [] lasts = lasts
  all_now (caller ∷ callers) [] = []
  all_now (caller ∷ callers) (last ∷ lasts) = now caller last ∷ all_now callers lasts

  -- the permits that a caller has left
  abbrev pub stock_in : Local B → List ℕ
  stock_in local = flat_map (λ (of : ActorOf B). of.parts.stock) local.actors

  -- the call on a queue at this place made the buffer
  pub record MakesAt (whole : Whole B) (number queue place : ℕ) : Type 0 where
    pub mark : QueueMark
    pub marked : Contains whole.marks mark
    pub on_it : mark.queue.0 ≡ queue
    pub later : List (Made B)
    pub made : Made B
    pub earlier : List (Made B)
    pub is : whole.view.calls queue ≡ later ++ made ∷ earlier
    pub at : length earlier ≡ place
    pub makes : Contains (made_of made.call.1 (told_reply mark earlier made.by made.call.1)) number

  -- where so many calls are done, none of them made a buffer with a permit that is left
  abbrev pub AreUnused : Whole B → (ℕ → ℕ) → Local B → Type 0
  AreUnused whole heights local =
      (number : ℕ) (mark : QueueMark) → Contains (stock_in local) number → Contains whole.marks mark
      → Contains (buffers_in mark (calls_at whole heights mark.queue.0)) number → ⊥

  module _ (whole : Whole B) (Holds : State B → Type 0) where
    -- wherever the event is next, what holds before it holds after it
    abbrev pub Lifts : Local B → Option Spot → Local B → Type 0
    Lifts local spot next =
        (others later : List (Local B)) (heights : ℕ → ℕ) → IsNext spot heights → AreUnused whole heights local
        → Holds (state_at whole heights (others ++ local ∷ later)) → Holds (state_at whole (heights_after spot heights) (others ++ next ∷ later))

    abbrev pub GoesBack : ReadLeaseOf → Spot → Type 0
    GoesBack lease spot =
        (others later : List (Local B)) (local : Local B) (earlier rest : List ReadLeaseOf) (heights : ℕ → ℕ) → IsNext (Some spot) heights
        → Holds (state_at whole heights (others ++ record local { on = earlier ++ lease ∷ rest } ∷ later))
        → Holds (state_at whole (raised heights spot.0) (others ++ record local { on = earlier ++ rest } ∷ later))

    abbrev pub GoesForward : Arrival ReadLeaseOf → Spot → Type 0
    GoesForward arrived spot =
        (others later : List (Local B)) (local : Local B) (earlier rest : List (Arrival ReadLeaseOf)) (heights : ℕ → ℕ) → IsNext (Some spot) heights
        → Holds (state_at whole heights (others ++ record local { pending = earlier ++ arrived ∷ rest } ∷ later))
        → Holds (state_at whole (raised heights spot.0) (others ++ record local { pending = earlier ++ rest } ∷ later))

    -- each of these goes back, or forward
    abbrev pub AllGoBack : List (Event B) → Type 0
    AllGoBack [] = Unit {0}
    AllGoBack (Moves local spot ∷ later) = ⊥
    AllGoBack (Returns lease spot ∷ later) = GoesBack lease spot × AllGoBack later
    AllGoBack (Forwards arrived spot ∷ later) = GoesForward arrived spot × AllGoBack later

    -- a block is one event of a caller, or frames that it gives back and transactions that are put among the arrivals
    abbrev pub IsBlock : List (Event B) → Local B → Type 0
    IsBlock [] next = Unit {0}
    IsBlock (Moves local spot ∷ []) next = Lifts local spot next
    IsBlock (Moves local spot ∷ other ∷ later) next = ⊥
    IsBlock (Returns lease spot ∷ later) next = AllGoBack (Returns lease spot ∷ later)
    IsBlock (Forwards arrived spot ∷ later) next = AllGoBack (Forwards arrived spot ∷ later)

    -- each call that made a buffer with a permit which the caller has left is yet to come
    abbrev pub AreUnspent : List (List (Event B)) → Local B → Type 0
    AreUnspent blocks last =
        (number queue place : ℕ) → Contains (stock_in (now blocks last)) number → MakesAt whole number queue place
        → 1 ≤ (times_at spot_of (suc queue, place) (events_in spot_of blocks))

    -- what a caller has yet to do, up to what it holds at last
    abbrev pub IsPart : List (List (Event B)) → Local B → Type 0
    IsPart [] last = AreUnspent [] last
    IsPart (block ∷ later) last = IsBlock block (now later last) × AreUnspent (block ∷ later) last × IsPart later last

    abbrev pub AreParts : List (List (List (Event B))) → List (Local B) → Type 0
    AreParts [] [] = Unit {0}
    AreParts (caller ∷ callers) (last ∷ lasts) = IsPart caller last × AreParts callers lasts
    AreParts callers lasts = ⊥
