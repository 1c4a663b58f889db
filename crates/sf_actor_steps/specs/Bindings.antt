-- What an actor's names and transaction numbers are bound to, without the rights to pixels.
use Rattle.std.specs.Prelude.{◌≡◌, ℕ, ◌==◌, Bool, not, if◌then◌else◌, [], Option, Some, None, is_some}
use Rattle.sf_actor.specs.sf_picture.declared.picture.Picture.{Picture}
use Rattle.sf_actor.specs.sf_slots.declared.slot.Held.{Held}
use Rattle.sf_actor.specs.sf_surface.Tokens.{OwingOf, ReadLeaseOf, WriteLeaseOf}
use Rattle.sf_actor.specs.sf_surface.Calls.{write_token}
use Rattle.sf_actor.specs.Known.{frame_of}
use Rattle.sf_actor.specs.Names.{Frame, Holdings, Lent, Owing, Token, is_lent, name_in, transaction_in}
use Rattle.sf_actor.specs.Tests.{shows_other}
use Rattle.sf_actor.specs.Holdings.{drawn_picture, plain_of}
use Rattle.sf_actor_steps.specs.declared.bindings.Bindings.{Bindings}

-- what names and transaction numbers hold, as a trace says
abbrev pub holdings_of : {B : Type 0} → Bindings B → Holdings
holdings_of bindings = plain_of (record { names = bindings.names; transactions = bindings.transactions; stock = [] })

-- what a name holds of a lent buffer, of an owed drawing, and of a frame
abbrev pub lent_of : WriteLeaseOf → Token
lent_of lease = Lent lease.queue (write_token lease.queue lease) (drawn_picture lease.work)

abbrev pub owing_of : OwingOf → Held → Token
owing_of owing held = Owing owing.queue (record { slot = owing.slot; frame = owing.frame; fence = owing.fence; held = held; picture = owing.turn.promises.number })

abbrev pub shown_of : ReadLeaseOf → Token
shown_of lease = Frame lease.queue (frame_of lease).1

-- a name holds this owed drawing, with its buffer
abbrev pub HoldsOwing : Holdings → ℕ → OwingOf → Type 0
HoldsOwing holdings name owing = (held : Held) × (name_in holdings name ≡ Some (owing_of owing held))

-- the status of the first test that a step meets which queues: its name holds no lent buffer, or another picture was drawn in it
abbrev pub queue_refusal : Holdings → ℕ → ℕ → Option ℕ
queue_refusal holdings name picture =
    if not (is_lent (name_in holdings name)) then Some 15 else if shows_other picture (name_in holdings name) then Some 11 else None

-- and of one that merges: one of its numbers holds no transaction, or both are the same
abbrev pub merge_refusal : Holdings → ℕ → ℕ → Option ℕ
merge_refusal holdings number other =
    if not (is_some (transaction_in holdings number)) then Some 15
    else if not (is_some (transaction_in holdings other)) then Some 15 else if number == other then Some 11 else None

-- a picture has a number
abbrev pub is_numbered : ℕ → Picture → Bool
is_numbered number picture = picture.number == number
