-- What contracts see of seats, stocks and tokens, and what calls show of seats.
use Rattle.std.specs.Prelude.{◌≡◌, ℕ, ◌+◌, ◌-◌, ◌≤◌, ◌^◌, min, Bool, true, false, List, [], ◌∷◌, ◌++◌}
use Rattle.atomic_table.specs.Seated.{TableId}
use Rattle.sf_turns.specs.Counts.{leaves_of, IsExact}
use Rattle.sf_base.specs.Points.{greatest}

-- The table, whether it is the first seat, how many seats were split off it and not joined, the
-- turns that left through it or that it took in, as buffer and number, and the counts of leaves
-- that it has seen, as buffer and count. Each load adds one to these.
pub record SeatView : Type 0 where
  pub table : TableId
  pub is_first : Bool
  pub out : ℕ
  pub leaves : List (ℕ × ℕ)
  pub seen : List (ℕ × ℕ)

-- the numbers of the buffers that may be opened
pub record StockView : Type 0 where
  pub table : TableId
  pub buffers : List ℕ

-- the number of the buffer that may be opened
pub record PermitView : Type 0 where
  pub table : TableId
  pub buffer : ℕ

-- A turn after which none was issued, entered or not: its buffer, its number in the buffer's
-- chain, the stamp that it finds, and how many loads of `ready` were made for it, up to the
-- greatest number, with what the last one showed.
pub record TurnView (T : Type 0) : Type 0 where
  pub table : TableId
  pub buffer : ℕ
  pub number : ℕ
  pub expects : T
  pub loads : ℕ
  pub shown : Bool

-- a turn after which the next was issued, entered or not, with the stamp that it promised to leave
pub record IssuedView (T : Type 0) : Type 0 where
  pub table : TableId
  pub buffer : ℕ
  pub number : ℕ
  pub expects : T
  pub promises : T

-- turn 0 of the buffer, whose pixels have the stamp
abbrev pub first_turn : {T : Type 0} → PermitView → T → TurnView T
first_turn permit stamp = record { table = permit.table; buffer = permit.buffer; number = 0; expects = stamp; loads = 0; shown = false }

-- the turn after one more load, which is counted up to the greatest number of 64 bits
abbrev pub loaded_once : {T : Type 0} → TurnView T → Bool → TurnView T
loaded_once turn shown = record turn { loads = min (turn.loads + 1) (2 ^ 64 - 1); shown = shown }

-- the turn, once the next was issued
abbrev pub issued_with : {T : Type 0} → TurnView T → T → IssuedView T
issued_with turn leaves = record { table = turn.table; buffer = turn.buffer; number = turn.number; expects = turn.expects; promises = leaves }

-- the next turn, which expects what this one promised
abbrev pub heir_expecting : {T : Type 0} → TurnView T → T → TurnView T
heir_expecting turn leaves = record { table = turn.table; buffer = turn.buffer; number = turn.number + 1; expects = leaves; loads = 0; shown = false }

-- A load of a buffer's count of leaves through a seat: the seat has then seen it, it is at least
-- all that the seat had seen and made, and exactly its own leaves where the first seat has no
-- other out.
abbrev pub Observes : SeatView → ℕ → ℕ → SeatView → Type 0
Observes v b n w =
    (w ≡ record v { seen = v.seen ++ (b, n) ∷ [] }) × (greatest b v.seen ≤ n) × (leaves_of b v.leaves ≤ n)
    × ((v.is_first ≡ true) → (v.out ≡ 0) → n ≡ leaves_of b v.leaves)

-- the turn n of the buffer b left through a seat, which has then seen what the turn had seen
abbrev pub Leaves : SeatView → ℕ → ℕ → SeatView → Type 0
Leaves v b n w = (told : List (ℕ × ℕ)) × (w ≡ record v { leaves = v.leaves ++ (b, n) ∷ []; seen = (v.seen ++ told) ++ (b, n + 1) ∷ [] })

-- the first seat, after it took another in
abbrev pub joined : SeatView → SeatView → SeatView
joined v w = record v { out = v.out - 1; leaves = v.leaves ++ w.leaves; seen = v.seen ++ w.seen }

-- where the first seat has no other out, it has all leaves of each buffer, each once
abbrev pub IsExactAlone : SeatView → Type 0
IsExactAlone v = v.is_first ≡ true → v.out ≡ 0 → IsExact v.table.slots v.leaves v.seen
