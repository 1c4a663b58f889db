-- A queue with the history of its calls, and what a call on it does.
use Rattle.std.specs.Prelude.{◌≡◌, ℕ, ◌<◌, true, List, ◌∷◌, Option, Some}
use Rattle.std.specs.List.{All}
use Rattle.atomic_table.specs.Seated.{TableId}
use Rattle.sf_base.specs.declared.ids.ActorId.{ActorId}
use Rattle.sf_base.specs.declared.ids.QueueId.{QueueId}
use Rattle.sf_base.specs.declared.status.QStatus.TheVariants.{WouldBlock}
use Rattle.sf_calls.specs.Histories.{IsLegal, entry}
use Rattle.sf_slots.specs.declared.calls.PlainReply.{PlainReply}
use Rattle.sf_slots.specs.declared.item.Item.{Item}
use Rattle.sf_slots.specs.declared.slot.Held.{Held}
use Rattle.sf_slots.specs.Queue.{Queue, slot_in, right_in, told_of}
use Rattle.sf_slots.specs.Replies.{refusal_of}
use Rattle.sf_slots.specs.Tells.{Continues, IsToldBy}
use Rattle.sf_surface.specs.declared.call.QCall.{QCall}
use Rattle.sf_surface.specs.declared.call.QReply.{QReply}
use Rattle.sf_surface.specs.declared.entry.HistEntry.{HistEntry}
use Rattle.sf_surface.specs.declared.mark.QueueMark.{QueueMark}
use Rattle.sf_surface.specs.Calls.{may_wait, told_call}
use Rattle.sf_surface.specs.Hands.{IsReply}
use Rattle.sf_surface.specs.Histories.{Made, Answers, FromLog, Queued, Stored, told}
use Rattle.sf_surface.specs.Inside.{HasDefaultSize}
use Rattle.sf_surface.specs.Shown.{entries_of}
use Rattle.sf_surface.specs.Tokens.{Right, IsRightOf, ShowsFrame}

-- the right in a slot, where one lies there, is such a one to the slot's buffer
abbrev pub IsSlotOf : (Held → Right → Type 0) → Option Held → Option Right → Type 0
IsSlotOf P held right = (buffer : Held) (turn : Right) → held ≡ Some buffer → right ≡ Some turn → P buffer turn

-- a frame's slot has its buffer
abbrev pub IsSeated : Queue Right → Item Right → Type 0
IsSeated q item = (slot_in q item.slot.0).held ≡ Some item.held

-- each right in a slot is such a one to the slot's buffer; each frame is such a one, and its slot has its buffer
pub record AreAll (P : ℕ → Held → Right → Type 0) (F : Item Right → Type 0) (q : Queue Right) : Type 0 where
  pub slots : (s : ℕ) → s < 64 → IsSlotOf (P s) (slot_in q s).held (right_in q s)
  pub items : All F q.items
  pub seats : All (IsSeated q) q.items

-- a frame's right is one to its buffer, and expects the frame's picture, in which its crop lies
pub record IsFitItem (table : TableId) (item : Item Right) : Type 0 where
  pub right : IsRightOf table item.held item.right
  pub shows : ShowsFrame item.held item.picture item.crop item.right

-- all rights in a queue are those to their buffers
abbrev pub AreRights : TableId → Queue Right → Type 0
AreRights table = AreAll (λ s held right. IsRightOf table held right) (IsFitItem table)

module _ {B : Type 0} where
  -- one of the calls queued the frame, with its right, which was left last in its slot
  pub record IsFrameOf (log : List (Made B)) (item : Item Right) : Type 0 where
    pub queued : Queued log item.frame item.right
    pub stored : Stored log item.slot.0 item.held item.right

  -- all rights in a queue are those that its calls left last in their slots
  abbrev pub AreStored : List (Made B) → Queue Right → Type 0
  AreStored log = AreAll (Stored log) (IsFrameOf log)

  -- a call waits for a free slot: it comes back and the queue is as it was; it asked to wait, and is refused with WouldBlock where
  -- it does not
  abbrev pub WaitsForSlot : Queue Right → Queue Right → ActorId → QCall B → QCall B → Type 0
  WaitsForSlot old new by asked back =
      (back ≡ asked) × (new ≡ old) × (may_wait asked ≡ true) × (refusal_of (told_of old) by (told_call old.number asked) ≡ Some WouldBlock)

  -- what a call does to the queue, whatever history the queue has
  pub record Does (table : TableId) (old new : Queue Right) (by : ActorId) (asked : QCall B) (reply : QReply B) : Type 0 where
    pub answered : PlainReply
    pub number : new.number ≡ old.number
    pub width : new.settings.width ≡ old.settings.width
    pub height : new.settings.height ≡ old.settings.height
    pub continues : Continues old new by (told_call old.number asked) answered
    pub hands : IsReply old.number asked answered reply
    pub rights : AreRights table old → AreRights table new
    pub from : (log : List (Made B)) → AreStored log old → FromLog log asked reply
    pub stored : (log : List (Made B)) (step : ℕ) → AreStored log old → AreStored (entry by.0 (step, asked) reply ∷ log) new

-- a queue of rights, and its calls
pub record ObjectOf (B : Type 0) : Type 0 where
  pub queue : Queue Right
  pub calls : List (Made B)

module _ {B : Type 0} where
  -- what `new` fixed of it
  abbrev pub mark_of : ObjectOf B → QueueMark
  mark_of object = record { queue = object.queue.number; width = object.queue.settings.width; height = object.queue.settings.height }

  -- what a queue with its history keeps: each reply is what the calls before it say, and the calls give the queue, of
  -- its frames and of the rights in its slots
  pub record IsObject (table : TableId) (object : ObjectOf B) : Type 0 where
    pub sized : HasDefaultSize object.queue.settings
    pub told : IsToldBy object.queue object.queue.settings.width object.queue.settings.height (told (mark_of object) object.calls)
    pub legal : IsLegal (Answers (mark_of object)) object.calls
    pub rights : AreRights table object.queue
    pub stored : AreStored object.calls object.queue

  -- and what its parts say of each other
  pub record IsKept (table : TableId) (number : QueueId) (shown : List HistEntry) (object : ObjectOf B) : Type 0 where
    pub numbered : number ≡ object.queue.number
    pub shows : shown ≡ entries_of (told (mark_of object) object.calls)
    pub keeps : IsObject table object
