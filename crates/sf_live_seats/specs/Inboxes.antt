-- What the first caller takes from an intake with, and how it puts what it took among the arrivals.
use Rattle.std.specs.Prelude.{◌≡◌, ℕ, ◌+◌, ◌<◌, ◌≤◌, ◌==◌, ◌⊎◌, Bool, false, Some}
use Rattle.std.specs.Prelude.{List, [], ◌∷◌, ◌++◌, length, map, filter, option_to_list, Contains}
use Rattle.std.specs.List.{AllByRecursion}
use Rattle.std.specs.Vec.Iter.{into_iter_items}
use Rattle.atomic_table.specs.Seated.{TableId}
use Rattle.sf_calls.specs.Histories.{calls_by}
use Rattle.sf_intake.specs.Posts.{Post, arrivals, numbered}
use Rattle.sf_intake.specs.Views.{HasAllHeard, HasGrown, TakerView, making}
use Rattle.sf_calls_stamped.specs.Stamps.{unstamped}
use Rattle.sf_actor.specs.sf_surface.Tokens.{ReadLeaseOf}
use Rattle.sf_intake.specs.sf_token.Arrivals.{sent}
use Rattle.sf_intake.specs.sf_token.Pending.{Arrival}
use Rattle.sf_intake.specs.sf_txn.Transactions.{Contents}
use Rattle.sf_actor.specs.Known.{arrivals_told, is_sent_by}
use Rattle.sf_live_seats.specs.declared.clock.Clock.{Clock}
use Rattle.sf_live_seats.specs.declared.inbox.Courier.{Courier}
use Rattle.sf_live_seats.specs.declared.inbox.Inbox.{Inbox}
use Rattle.sf_live_seats.specs.Arriving.{ArrivalsPass}
use Rattle.sf_live_seats.specs.Sent.{sent_in, takes_in}

-- what a caller sent of these, without the places
abbrev pub sent_by : ℕ → List (Arrival ReadLeaseOf) → List (Arrival ReadLeaseOf)
sent_by by list = arrivals_told false (filter (is_sent_by by) list)

-- a caller's call at this moment is behind a transaction of it that was taken
pub record IsBehind (taken : List (Post ReadLeaseOf)) (by : ℕ) (m : ℕ × ℕ) : Type 0 where
  pub post : Post ReadLeaseOf
  pub there : Contains taken post
  pub theirs : post.actor.0 ≡ by
  pub step : post.step ≡ m.0
  pub above : post.stamp < m.1

-- a transaction that was given was taken as one that was sent
pub record IsOneOf (taken : List (Post ReadLeaseOf)) (arrived : Arrival ReadLeaseOf) : Type 0 where
  pub post : Post ReadLeaseOf
  pub there : Contains taken post
  pub is : arrived ≡ numbered arrived.number post

-- the stamp of the last call rose, of whichever step that was
pub record IsLater (before after : Clock) : Type 0 where
  pub step : after.step ≡ before.step
  pub stamp : before.stamp ≤ after.stamp

-- all that was taken was given, and all that the taker heard of was taken
pub record HasAll (taker : TakerView ReadLeaseOf) : Type 0 where
  pub given : taker.given ≡ arrivals 1 taker.taken
  pub heard : HasAllHeard taker

-- a pop found the queue empty, which is counted, and all that was taken until then was given
pub record HasEmptied (old new : TakerView ReadLeaseOf) : Type 0 where
  pub counted : HasGrown old.empties new.empties
  pub all : HasAll new

-- the taker gave all until a pop found the queue empty, or 4,096 transactions more
abbrev pub GaveMore : TakerView ReadLeaseOf → TakerView ReadLeaseOf → Type 0
GaveMore old new = HasEmptied old new ⊎ (length new.given ≡ length old.given + 4096)

module _ {B : Type 0} where
  abbrev pub is_courier : ℕ → Courier B → Bool
  is_courier by courier = courier.by == by

  abbrev pub number_of : Courier B → ℕ
  number_of courier = courier.by

  -- a sender's pass at the arrivals of this table
  pub record IsAbleTo (table : TableId) (courier : Courier B) : Type 0 where
    pub own : courier.pass.table ≡ table
    pub marked : courier.pass.mark ≡ Some tt
    pub number : courier.pass.by ≡ courier.by

  -- a transaction was put among the arrivals, with a stamp above this one: it is the sender's last there
  pub record Carries (old new : Courier B) (stamp given step : ℕ) (txn : Contents ReadLeaseOf) : Type 0 where
    pub by : new.by ≡ old.by
    pub same : new.pass ≡ record old.pass { seen = new.pass.seen; turns = new.pass.turns }
    pub sends : sent_by old.by (sent (unstamped new.pass.seen))
        ≡ sent_by old.by (sent (unstamped old.pass.seen)) ++ record { number = 0; actor = record { 0 = old.by }; step = step; txn = txn } ∷ []
    pub moments : sent_in (calls_by old.by new.pass.seen) ≡ (step, given) ∷ sent_in (calls_by old.by old.pass.seen)
    pub takes : takes_in (calls_by old.by new.pass.seen) ≡ takes_in (calls_by old.by old.pass.seen)
    pub above : stamp < given

  -- what was forwarded of a sender is what its pass sent, each behind the transaction as it was taken
  pub record IsCourier (table : TableId) (taken : List (Post ReadLeaseOf)) (forwarded : List (Arrival ReadLeaseOf)) (courier : Courier B) : Type 0 where
    pub able : IsAbleTo table courier
    pub takes : takes_in (calls_by courier.by courier.pass.seen) ≡ []
    pub sends : sent_by courier.by (sent (unstamped courier.pass.seen)) ≡ sent_by courier.by forwarded
    pub behind : (m : ℕ × ℕ) → Contains (sent_in (calls_by courier.by courier.pass.seen)) m → IsBehind taken courier.by m

  -- so it is of each of these, which are of different senders
  abbrev pub AreCouriers : TableId → List (Post ReadLeaseOf) → List (Arrival ReadLeaseOf) → List (Courier B) → Type 0
  AreCouriers table taken forwarded [] = Unit {0}
  AreCouriers table taken forwarded (courier ∷ couriers) =
      IsCourier table taken forwarded courier × (Contains (map number_of couriers) courier.by → ⊥) × AreCouriers table taken forwarded couriers

  -- what was given by the taker and is not among the arrivals yet
  abbrev pub left_of : Inbox B → List (Arrival ReadLeaseOf)
  left_of inbox = option_to_list inbox.held ++ into_iter_items inbox.rest

  -- What was given by the taker is what was forwarded and then what is left; each of it was taken, of a sender that was made.
  pub record IsInbox (table : TableId) (inbox : Inbox B) : Type 0 where
    pub forwarded : List (Arrival ReadLeaseOf)
    pub whole : forwarded ++ left_of inbox ≡ inbox.taker.given
    pub each : (arrived : Arrival ReadLeaseOf) → Contains inbox.taker.given arrived → IsOneOf inbox.taker.taken arrived
    pub theirs : (arrived : Arrival ReadLeaseOf) → Contains inbox.taker.given arrived → Contains inbox.taker.made arrived.actor.0
    pub couriers : AreCouriers table inbox.taker.taken forwarded inbox.couriers.items
    pub made : (by : ℕ) → Contains (map number_of inbox.couriers.items) by → Contains inbox.taker.made by
    pub count : inbox.senders ≡ length inbox.taker.made

  -- what was put among the arrivals through the courier has stamps below this one
  abbrev pub IsBelow : ℕ → Courier B → Type 0
  IsBelow bound courier = (m : ℕ × ℕ) → Contains (sent_in (calls_by courier.by courier.pass.seen)) m → m.1 < bound

  -- the senders of these numbers have their passes here, and what was put among the arrivals through passes has stamps below this one
  pub record HasPasses (bound : ℕ) (made : List ℕ) (couriers : List (Courier B)) : Type 0 where
    pub there : (by : ℕ) → Contains made by → Contains (map number_of couriers) by
    pub below : AllByRecursion (IsBelow bound) couriers

  -- each sender that was made has its pass here, and no stamp there is above that of the first caller's last call
  abbrev pub HasCouriers : Clock → Inbox B → Type 0
  HasCouriers last inbox = HasPasses (last.stamp + 1) inbox.taker.made inbox.couriers.items

  -- What was sent was brought in: the taker gave more, and all that it gave was put among the arrivals, with stamps below this one.
  pub record BringsAll (bound : ℕ) (old new : Inbox B) : Type 0 where
    pub more : GaveMore old.taker new.taker
    pub none : left_of new ≡ []
    pub below : AllByRecursion (IsBelow bound) new.couriers.items

  -- an inbox without senders
  pub record IsEmpty (inbox : Inbox B) : Type 0 where
    pub senders : inbox.senders ≡ 0
    pub couriers : inbox.couriers.items ≡ []
    pub left : left_of inbox ≡ []

  -- what takes change of an inbox: not its intake, its senders, nor of what its taker heard
  pub record IsSameInbox (old new : Inbox B) : Type 0 where
    pub intake : new.taker.intake ≡ old.taker.intake
    pub made : new.taker.made ≡ old.taker.made
    pub heard : new.taker.heard ≡ old.taker.heard

  -- a sender was made for a caller, whose pass stays here
  pub record Admits (by : ℕ) (pass : ArrivalsPass) (old new : Inbox B) : Type 0 where
    pub taker : new.taker ≡ making (record { 0 = by }) old.taker
    pub senders : new.senders ≡ old.senders + 1
    pub couriers : new.couriers.items ≡ old.couriers.items ++ record { by = by; pass = pass } ∷ []
    pub held : new.held ≡ old.held
    pub rest : new.rest ≡ old.rest

  -- the taker heard more, and all else is as it was
  pub record Hears (old new : Inbox B) : Type 0 where
    pub taker : new.taker ≡ record old.taker { heard = new.taker.heard }
    pub heard : (p : ℕ × List (Post ReadLeaseOf)) → Contains old.taker.heard p → Contains new.taker.heard p
    pub senders : new.senders ≡ old.senders
    pub couriers : new.couriers ≡ old.couriers
    pub held : new.held ≡ old.held
    pub rest : new.rest ≡ old.rest
