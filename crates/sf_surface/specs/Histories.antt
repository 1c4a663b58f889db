-- The calls that were made on a queue, the newest first, with the tokens that they brought and gave, and what they make of the queue.
use Rattle.std.specs.Prelude.{◌≡◌, ◌≢◌, ℕ, ◌==◌, true, if◌then◌else◌, List, [], ◌∷◌, Option, Some, None, Contains}
use Rattle.sf_base.specs.declared.ids.ActorId.{ActorId}
use Rattle.sf_base.specs.declared.ids.QueueId.{QueueId}
use Rattle.sf_base.specs.Fences.{Fence}
use Rattle.sf_base.specs.declared.geometry.Rect.{Rect}
use Rattle.sf_base.specs.declared.status.QStatus.TheVariants as status
use Rattle.sf_calls.specs.declared.object.Entry.{Entry}
use Rattle.sf_calls.specs.declared.object.Answer.{Answer}
use Rattle.sf_calls.specs.declared.object.Answer.TheVariants.{Replies, Waits}
use Rattle.sf_turns.specs.sf_picture.declared.picture.Picture.{Picture}
use Rattle.sf_slots.specs.declared.calls.Entry.{Entry as PlainEntry}
use Rattle.sf_slots.specs.declared.calls.PlainReply.{PlainReply}
use Rattle.sf_slots.specs.declared.calls.PlainReply.TheVariants as plain
use Rattle.sf_slots.specs.declared.slot.Held.{Held}
use Rattle.sf_slots.specs.Replies.{reply_after}
use Rattle.sf_turns.specs.Views.{PermitView, heir_expecting}
use Rattle.sf_surface.specs.declared.call.Gives.{Gives}
use Rattle.sf_surface.specs.declared.call.Gives.TheVariants as gives
use Rattle.sf_surface.specs.declared.call.QCall.{QCall}
use Rattle.sf_surface.specs.declared.call.QCall.TheVariants as call
use Rattle.sf_surface.specs.declared.call.QReply.{QReply}
use Rattle.sf_surface.specs.declared.mark.QueueMark.{QueueMark}
use Rattle.sf_surface.specs.Calls.{told_call, may_wait}
use Rattle.sf_surface.specs.Hands.{IsReply, done_reply, owes}
use Rattle.sf_surface.specs.Tokens.{Right, WriteLeaseOf, ending_of, turn_after, turn_of}

-- a call with its reply: the caller, the caller's step, the call and the reply with their tokens
abbrev pub Made : Type 0 → Type 0
Made B = Entry (ℕ × QCall B) (QReply B)

abbrev pub caller : ℕ → ActorId
caller by = record { 0 = by }

-- a right that was left in a slot, and the buffer to which it is one
pub record Left : Type 0 where
  pub slot : ℕ
  pub held : Held
  pub turn : Right

-- what was left last in a slot, by what a call left, if anything, and what was left before it
abbrev pub left_after : Option Left → Option Left → ℕ → Option Left
left_after None before s = before
left_after (Some left) before s = if left.slot == s then Some left else before

module _ {B : Type 0} where
  -- what a call makes of the queue, after the calls before it
  abbrev pub told_entry : QueueMark → List PlainEntry → Made B → PlainEntry
  told_entry mark earlier made = record {
    caller = caller made.by;
    step = made.call.0;
    call = told_call mark.queue made.call.1;
    reply = reply_after mark.width mark.height earlier (caller made.by) (told_call mark.queue made.call.1);
  }

  -- what calls make of the queue, the newest first
  unfoldable pub told : QueueMark → List (Made B) → List PlainEntry
  told mark [] = []
  told mark (made ∷ earlier) = told_entry mark (told mark earlier) made ∷ told mark earlier

  -- the reply of the queue to a caller's call after these
  abbrev pub told_reply : QueueMark → List (Made B) → ℕ → QCall B → PlainReply
  told_reply mark log by asked = reply_after mark.width mark.height (told mark log) (caller by) (told_call mark.queue asked)

  -- the call queued the frame, and this is the right to read it: it follows the lease's, and expects the picture that
  -- was drawn or promised
  pub record Queues (made : Made B) (frame : ℕ) (right : Right) : Type 0 where
    pub step : ℕ
    pub lease : WriteLeaseOf
    pub picture : Picture
    pub time : Option ℕ
    pub crop : Rect
    pub fence : Fence
    pub queue : QueueId
    pub call : made.call ≡ (step, call.Queue lease picture time crop fence)
    pub reply : made.reply ≡ done_reply (lease.slot.0 ∷ frame ∷ []) (owes queue lease frame picture lease.work) (ending_of lease.work picture) None
    pub follows : right ≡ heir_expecting (turn_of lease.work) picture

  -- one of the calls queued it
  abbrev pub Queued : List (Made B) → ℕ → Right → Type 0
  Queued log frame right = (made : Made B) × (Contains log made) × (Queues made frame right)

  -- the right that a call leaves in the queue: that of its lease, or the next one, unless the reply gives the lease back
  abbrev pub left_by : QCall B → Gives B → Option Left
  left_by asked (gives.Write lease) = None
  left_by asked (gives.Read lease) = None
  left_by (call.Queue lease picture time crop fence) given =
      Some (record { slot = lease.slot.0; held = lease.held; turn = heir_expecting (turn_of lease.work) picture })
  left_by (call.Cancel lease fence) given = Some (record { slot = lease.slot.0; held = lease.held; turn = turn_after lease.work })
  left_by (call.Release lease fence) given = Some (record { slot = lease.slot.0; held = lease.held; turn = lease.turn })
  left_by asked given = None

  -- what was left last in a slot
  unfoldable pub last_left : List (Made B) → ℕ → Option Left
  last_left [] s = None
  last_left (made ∷ earlier) s = left_after (left_by made.call.1 made.reply.gives) (last_left earlier s) s

  -- this right to this buffer was left last in the slot
  abbrev pub Stored : List (Made B) → ℕ → Held → Right → Type 0
  Stored log s held right = last_left log s ≡ Some (record { slot = s; held = held; turn = right })

  -- where a reply's right comes from, by the token that it gives and the permit that it hands back: a buffer that is lent
  -- again has the right that was left last in its slot, and so has a frame, which is one that a call queued
  abbrev pub ComesFrom : List (Made B) → QCall B → Gives B → Option PermitView → Type 0
  ComesFrom log (call.Dequeue width height wait permit) (gives.Write lease) (Some back) = Stored log lease.slot.0 lease.held (turn_of lease.work)
  ComesFrom log (call.Acquire expected) (gives.Read lease) spare = Queued log lease.frame lease.turn × Stored log lease.slot.0 lease.held lease.turn
  ComesFrom log asked given spare = Unit {0}

  -- the same of a whole reply
  abbrev pub FromLog : List (Made B) → QCall B → QReply B → Type 0
  FromLog log asked reply = ComesFrom log asked reply.gives reply.spare

  -- a dequeue that may wait is not refused for want of a free slot
  abbrev pub HasNotWaited : QCall B → QReply B → Type 0
  HasNotWaited asked reply = may_wait asked ≡ true → reply.status ≢ status.WouldBlock

  -- what the object of one thread replies
  pub record Replied (mark : QueueMark) (log : List (Made B)) (by : ℕ) (asked : QCall B) (reply : QReply B) : Type 0 where
    pub answer : IsReply mark.queue asked (told_reply mark log by asked) reply
    pub from : FromLog log asked reply
    pub waited : HasNotWaited asked reply

  -- what the object of one thread answers: a dequeue that may wait waits where no slot is free
  abbrev pub Answers : QueueMark → List (Made B) → ℕ → ℕ × QCall B → Answer (QReply B) → Type 0
  Answers mark log by asked (Replies reply) = Replied mark log by asked.1 reply
  Answers mark log by asked Waits = (may_wait asked.1 ≡ true) × (told_reply mark log by asked.1 ≡ plain.Refused status.WouldBlock)
