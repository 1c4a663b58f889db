-- What the calls that do more than one move leave of a queue.
use Rattle.std.specs.Prelude.{ℕ, if◌then◌else◌, List, [], ◌∷◌, Option, Some, None, Result, Ok, Err, zero, suc, slice_get}
use Rattle.std.specs.List.{range_with_len}
use Rattle.sf_base.specs.declared.ids.ActorId.{ActorId}
use Rattle.sf_base.specs.declared.status.QStatus.{QStatus}
use Rattle.sf_slots.specs.declared.item.Item.{Item}
use Rattle.sf_slots.specs.History.{is_back_or_lent}
use Rattle.sf_slots.specs.Queue.{Queue, slot_in, cleared, without_marks, configured, dropping}

-- the refusal in an answer, if it is one
abbrev pub refusal_in : {A : Type 0} → Result A QStatus → Option QStatus
refusal_in (Ok given) = None
refusal_in (Err cause) = Some cause

-- the same where the refusal comes with what was handed in
abbrev pub refusal_with : {A B : Type 0} → Result A (QStatus × B) → Option QStatus
refusal_with (Ok given) = None
refusal_with (Err back) = Some back.0

-- a slot that is free or lent loses its buffer
abbrev pub vacated : {R : Type 0} → Queue R → ℕ → Queue R
vacated q s = if is_back_or_lent (slot_in q s).state then cleared q s else q

abbrev pub vacated_all : {R : Type 0} → Queue R → List ℕ → Queue R
vacated_all q [] = q
vacated_all q (s ∷ more) = vacated_all (vacated q s) more

-- all of the 64 do
unfoldable pub all_vacated : {R : Type 0} → Queue R → Queue R
all_vacated q = vacated_all q (range_with_len 0 64)

-- all free and lent slots lose their buffers, no buffer counts as requested, and nobody is connected
abbrev pub disconnected : {R : Type 0} → Queue R → Queue R
disconnected q =
    let vacant = without_marks (all_vacated q) in
    configured vacant (record vacant.settings { connected = None })

-- a caller, where it makes no difference who calls
abbrev pub nobody : ActorId
nobody = record { 0 = 0 }

-- an item is dropped, if there is one
abbrev pub dropping_if : {R : Type 0} → Queue R → Option (Item R) → Queue R
dropping_if q None = q
dropping_if q (Some item) = dropping q item

-- so many items are dropped from the front, one after another
abbrev pub dropped_first : {R : Type 0} → ℕ → Queue R → Queue R
dropped_first zero q = q
dropped_first (suc n) q = dropping_if (dropped_first n q) (slice_get (dropped_first n q).items 0)
