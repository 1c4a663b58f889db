-- What it is for the history of a queue's calls to give the queue, and for a call to go on with it.
use Rattle.std.specs.Prelude.{◌≡◌, ℕ, List, [], ◌∷◌}
use Rattle.sf_base.specs.declared.ids.ActorId.{ActorId}
use Rattle.sf_base.specs.declared.ids.QueueId.{QueueId}
use Rattle.sf_slots.specs.declared.calls.Entry.{Entry}
use Rattle.sf_slots.specs.declared.calls.PlainCall.{PlainCall}
use Rattle.sf_slots.specs.declared.calls.PlainReply.{PlainReply}
use Rattle.sf_slots.specs.Queue.{Queue, empty_queue, told_of}
use Rattle.sf_slots.specs.History.{told_by}
use Rattle.sf_slots.specs.Replies.{reply_after}

-- the history of a queue of this default size gives it
abbrev pub IsToldBy : {R : Type 0} → Queue R → ℕ → ℕ → List Entry → Type 0
IsToldBy q width height history = told_of q ≡ told_by width height history

-- a call after this history: its reply is what the history says, and with its entry the history gives
-- of the queue after it
pub record IsNext {R : Type 0} (after : Queue R) (width height : ℕ) (history : List Entry) (entry : Entry) : Type 0 where
  pub reply : entry.reply ≡ reply_after width height history entry.caller entry.call
  pub told : IsToldBy after width height (entry ∷ history)

-- whatever history gives the queue before a call, it goes on with this call and gives the queue
-- after it
abbrev pub Continues : {R : Type 0} → Queue R → Queue R → ActorId → PlainCall → PlainReply → Type 0
Continues before after caller call reply = (width height step : ℕ) (history : List Entry) → IsToldBy before width height history
    → IsNext after width height history (record { caller = caller; step = step; call = call; reply = reply })

-- a queue came from another by these calls, the newest first, each of which continues every history
abbrev pub CameBy : {R : Type 0} → Queue R → List Entry → Queue R → Type 0
CameBy {R} start [] after = after ≡ start
CameBy {R} start (entry ∷ earlier) after = (before : Queue R) × (CameBy start earlier before) × (Continues before after entry.caller entry.call entry.reply)

-- a queue of this default size, whatever its number, came by these calls from when it was new
abbrev pub CameFromNew : {R : Type 0} → Queue R → ℕ → ℕ → List Entry → Type 0
CameFromNew after width height history = (number : QueueId) × CameBy (empty_queue number width height) history after

-- each reply is what the history before it says
abbrev pub AreReplies : ℕ → ℕ → List Entry → Type 0
AreReplies width height [] = Unit {0}
AreReplies width height (entry ∷ earlier) = (entry.reply ≡ reply_after width height earlier entry.caller entry.call) × (AreReplies width height earlier)

-- a history gives the queue, and each reply is what the history before it says
abbrev pub IsItsHistory : {R : Type 0} → Queue R → ℕ → ℕ → List Entry → Type 0
IsItsHistory after width height history = (IsToldBy after width height history) × (AreReplies width height history)
