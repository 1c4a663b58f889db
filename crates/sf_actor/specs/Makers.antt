-- Who made a buffer: it is followed back through attach calls to the dequeue that made it.
use Rattle.std.specs.Prelude.{ℕ, ◌+◌, ◌-◌, ◌==◌, nat_lt, ◌&&◌, ◌||◌, Bool, true, false, if◌then◌else◌}
use Rattle.std.specs.Prelude.{zero, suc, List, find, Option, Some, None, slice_get}
use Rattle.std.specs.Option.{option_map_or}
use Rattle.sf_surface.specs.sf_slots.declared.calls.Entry.{Entry}
use Rattle.sf_surface.specs.sf_slots.declared.calls.PlainReply.{PlainReply}
use Rattle.sf_surface.specs.sf_slots.declared.calls.PlainReply.TheVariants as reply
use Rattle.sf_actor.specs.declared.done.Done.{Done}
use Rattle.sf_actor.specs.Names.{Token, Lent, Owing, Frame, Apart, name_in}
use Rattle.sf_actor.specs.Steps.{used_by}
use Rattle.sf_actor.specs.Traces.{DoneAt, places_of}

-- a buffer of a queue, by the queue's number and its own
pub record BufferOf : Type 0 where
  pub queue : ℕ
  pub number : ℕ

-- the traces of all actors by their numbers, and the calls on each queue by its number, the newest first
pub record Run : Type 0 where
  pub trace : ℕ → List Done
  pub calls : ℕ → List Entry

-- the reply makes the buffer of this number
abbrev pub makes : ℕ → PlainReply → Bool
makes number (reply.Dequeued slot held requested reallocated fence) = reallocated && (held.number == number)
makes number (reply.Attached slot held) = held.number == number
makes number other = false

-- a loose buffer was attached
abbrev pub is_attached : PlainReply → Bool
is_attached (reply.Attached slot held) = true
is_attached other = false

-- the call that made a buffer of a queue
abbrev pub making_of : List Entry → ℕ → Option Entry
making_of calls number = find (λ (entry : Entry). makes number entry.reply) calls

-- the buffer of a name that holds a loose one, else this one
abbrev pub loose_buffer : BufferOf → Option Token → BufferOf
loose_buffer other (Some (Apart queue held)) = record { queue = queue.0; number = held.number }
loose_buffer other token = other

-- the loose buffer that a step attaches, as it was in its queue before
abbrev pub attached_at : BufferOf → DoneAt → BufferOf
attached_at buffer at = option_map_or (λ name. loose_buffer buffer (name_in at.past.holdings name)) (used_by at.done.step) buffer

-- the buffer that an attach call put into the queue, as it was in its queue before
abbrev pub attached_from : Run → Entry → BufferOf → BufferOf
attached_from run entry buffer = option_map_or (attached_at buffer) (slice_get (places_of (run.trace entry.caller.0)) (entry.step - 1)) buffer

-- a buffer as it was made by a dequeue, and on how many attach calls it was since
pub record Maker : Type 0 where
  pub made : BufferOf
  pub age : ℕ

-- one attach call older
abbrev pub older : Maker → Maker
older maker = record maker { age = maker.age + 1 }

-- the buffer before the attach that made it here, if an attach made it
abbrev pub before_attach : Run → BufferOf → Option Entry → Option BufferOf
before_attach run buffer None = None
before_attach run buffer (Some entry) = if is_attached entry.reply then Some (attached_from run entry buffer) else None

-- followed back at most so many times
unfoldable pub followed : ℕ → Run → BufferOf → Maker
followed zero run buffer = record { made = buffer; age = 0 }
followed (suc n) run buffer = elim (before_attach run buffer (making_of (run.calls buffer.queue) buffer.number)) [
  | None ↦ record { made = buffer; age = 0 }
  | Some before ↦ older (followed n run before)
]

-- a token's buffer
abbrev pub buffer_in : Token → BufferOf
buffer_in (Lent queue token drawn) = record { queue = queue.0; number = token.held.number }
buffer_in (Owing queue owed) = record { queue = queue.0; number = owed.held.number }
buffer_in (Frame queue token) = record { queue = queue.0; number = token.held.number }
buffer_in (Apart queue held) = record { queue = queue.0; number = held.number }

-- two buffers were made as one
abbrev pub same_maker : Maker → Maker → Bool
same_maker a b = (a.made.queue == b.made.queue) && (a.made.number == b.made.number)

-- (age, frame) is less
abbrev pub is_before : ℕ → ℕ → ℕ → ℕ → Bool
is_before age frame other later = nat_lt age other || ((age == other) && nat_lt frame later)

-- an owing is older than a write lease of the same maker, and than an owing of the same maker with a greater age and frame
abbrev pub is_older : (BufferOf → Maker) → Token → Token → Bool
is_older maker (Owing queue owed) (Lent of token drawn) = same_maker (maker (buffer_in (Owing queue owed))) (maker (buffer_in (Lent of token drawn)))
is_older maker (Owing queue owed) (Owing of other) =
    let mine = maker (buffer_in (Owing queue owed)) in
    let theirs = maker (buffer_in (Owing of other)) in
    same_maker mine theirs && is_before mine.age owed.frame theirs.age other.frame
is_older maker token other = false
