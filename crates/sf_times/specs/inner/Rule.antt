-- What holds between any two atomic steps, and what each kind of step on a word shows. The word t
-- is the counter of timeline t. The word 0 is no counter.
use Rattle.std.specs.Prelude.{◌≡◌, ℕ, ◌+◌, ◌<◌, ◌≤◌, true, List, [], ◌⊎◌, length, slice_index, Contains, sum_by}
use mathlib.Core.Option.{some}
use lib.ListN.{get_elem?}
use Rattle.atomic_table.specs.Table.{State, Me, Step}
use Rattle.sf_times.specs.declared.protocol.Knows.{Knows}
use Rattle.sf_base.specs.Points.{greatest}
use Rattle.sf_times.specs.Seats.{loaded, raised, IsAlone, OnlyOwnSignals}

-- a live seat signalled the point, or took it in
abbrev pub WasSignalled : List Knows → ℕ × ℕ → Type 0
WasSignalled seats p = (k : ℕ) × (u : Knows) × (get_elem? seats k ≡ some u) × Contains u.signals p

-- a point that a counter may have been at: of value 0, or signalled
abbrev pub WasReached : List Knows → ℕ × ℕ → Type 0
WasReached seats p = (p.1 ≡ 0) ⊎ WasSignalled seats p

-- 1 for a live seat
abbrev pub live_of : Knows → ℕ
live_of v = v.live

-- what holds of the seat j: no counter is below what it knows, each value that its loads showed
-- was reached, and no more than `out` of the first seat's are live besides the first
pub record Fits (words : List ℕ) (seats : List Knows) (j : ℕ) (v : Knows) : Type 0 where
  pub below : (t : ℕ) → t < 65 → greatest t v.known ≤ slice_index words t
  pub signals_below : (t : ℕ) → t < 65 → greatest t v.signals ≤ slice_index words t
  pub told : (p : ℕ × ℕ) → Contains v.shown p → WasReached seats p
  pub one : v.live ≤ 1
  pub spent : v.live ≡ 0 → v.signals ≡ []
  pub first : v.is_first ≡ true → (j ≡ 0) × (v.live ≡ 1) × (sum_by live_of seats ≤ 1 + v.out)

-- the rule: each counter is at a point that was reached, and each seat fits
pub record Kept (s : State (Unit {0}) Knows) : Type 0 where
  pub wide : length s.words ≡ 65
  pub met : (t : ℕ) → t < 65 → WasReached s.views (t, slice_index s.words t)
  pub each : (j : ℕ) (v : Knows) → get_elem? s.views j ≡ some v → Fits s.words s.views j v

-- a load shows at least what the seat knows, and exactly its own signals where it is alone
abbrev pub Loads : Step (Unit {0}) → Me (Unit {0}) Knows → ℕ → Me (Unit {0}) Knows → Type 0
Loads st m n m' =
    (m' ≡ (loaded m.0 (st.word, n), m.1))
    × (greatest st.word m.0.known ≤ n)
    × (greatest st.word m.0.signals ≤ n)
    × (IsAlone m.0 → n ≡ greatest st.word m.0.signals)
    × (IsAlone m'.0 → OnlyOwnSignals m'.0)

-- a load that changes nothing, and shows the first seat, alone, what its earlier loads showed
abbrev pub Audits : Step (Unit {0}) → Me (Unit {0}) Knows → ℕ → Me (Unit {0}) Knows → Type 0
Audits st m n m' = (m' ≡ m) × (IsAlone m'.0 → OnlyOwnSignals m'.0)

-- a signal is remembered by its seat
abbrev pub Raises : Step (Unit {0}) → Me (Unit {0}) Knows → ℕ → Me (Unit {0}) Knows → Type 0
Raises st m n m' = m' ≡ (raised m.0 (st.word, st.first), m.1)
