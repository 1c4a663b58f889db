-- Which items an acquire drops, and what it leaves.
use Rattle.std.specs.Prelude.{◌≡◌, ◌<◌, ℕ, ◌+◌, Bool, true, false, not, ◌==◌, ◌&&◌, nat_le}
use Rattle.std.specs.Prelude.{List, length, Option, Some, None, is_some, unwrap_or, slice_get, Result, Ok, Err}
use Rattle.std.specs.Option.{option_map}
use Rattle.sf_base.specs.declared.status.QStatus.{QStatus}
use Rattle.sf_slots.specs.declared.calls.PlainReply.{PlainReply}
use Rattle.sf_slots.specs.declared.calls.PlainReply.TheVariants as reply
use Rattle.sf_slots.specs.declared.item.Item.{Item}
use Rattle.sf_slots.specs.Queue.{Queue, told_of, plain_item, handed_over}
use Rattle.sf_slots.specs.Effects.{dropped_first}
use Rattle.sf_slots.specs.Replies.{is_due, dropped_count}
use Rattle.sf_consume.specs.declared.acquiring.Acquired.{Acquired}

-- the time of the second item, 0 if it is automatic
abbrev pub second_time : {R : Type 0} → List (Item R) → Option ℕ
second_time items = option_map (λ item. unwrap_or item.time 0) (slice_get items 1)

-- the first item is dropped: its time is explicit, and that of the second has just come
abbrev pub goes_first : {R : Type 0} → ℕ → Option (Item R) → Option ℕ → Bool
goes_first expected None time = false
goes_first expected (Some front) None = false
goes_first expected (Some front) (Some time) = is_some front.time && (not (expected == 0) && (nat_le time expected && nat_le expected (time + 1000000000)))

abbrev pub is_front_due : {R : Type 0} → ℕ → Option (Item R) → Bool
is_front_due expected None = true
is_front_due expected (Some item) = is_due expected (plain_item item)

-- the late items were dropped
pub record Drops {R : Type 0} (expected : ℕ) (old new : Queue R) (count : ℕ) : Type 0 where
  pub all : count ≡ dropped_count expected (told_of old).items
  pub after : new ≡ dropped_first count old
  pub left : 0 < length old.items → 0 < length new.items

-- the item behind the dropped ones was taken
pub record IsAcquired {R : Type 0} (old new : Queue R) (expected : ℕ) (given : Acquired R) : Type 0 where
  pub dropped : given.dropped ≡ dropped_count expected (told_of old).items
  pub item : slice_get (dropped_first given.dropped old).items 0 ≡ Some given.item
  pub after : new ≡ handed_over (dropped_first given.dropped old) given.item

-- the reply to an acquire
abbrev pub acquire_reply : {R : Type 0} → Result (Acquired R) QStatus → PlainReply
acquire_reply (Err refused) = reply.Refused refused
acquire_reply (Ok given) = reply.Acquired (plain_item given.item) given.dropped
