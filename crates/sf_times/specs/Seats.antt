-- What a seat knows after each call. A point is a timeline's number and a value of its counter.
use Rattle.std.specs.Prelude.{◌≡◌, ℕ, ◌+◌, ◌-◌, ◌≤◌, true, false, List, [], ◌∷◌, ◌++◌, ◌⊎◌, Contains}
use Rattle.sf_base.specs.Points.{greatest}
use Rattle.sf_times.specs.declared.protocol.Knows.{Knows}

-- the first seat, as it is opened
abbrev pub opened : Knows
opened = record { is_first = true; live = 1; out = 0; signals = []; shown = []; known = [] }

-- the first seat, after another was split off
abbrev pub lending : Knows → Knows
lending v = record v { out = v.out + 1 }

-- the seat that was split off: it has seen what the first has, and signalled nothing
abbrev pub split_off : Knows → Knows
split_off v = record { is_first = false; live = 1; out = 0; signals = []; shown = v.shown; known = v.known }

-- the first seat, after it took in another
abbrev pub joined : Knows → Knows → Knows
joined v w = record v { out = v.out - 1; signals = v.signals ++ w.signals; shown = v.shown ++ w.shown; known = v.known ++ w.known }

-- what is left of a seat that was joined into another
abbrev pub spent : Knows
spent = record { is_first = false; live = 0; out = 0; signals = []; shown = []; known = [] }

-- after a load that showed the point
abbrev pub loaded : Knows → ℕ × ℕ → Knows
loaded v p = record v { shown = v.shown ++ p ∷ []; known = v.known ++ p ∷ [] }

-- after loads that showed the points
abbrev pub all_loaded : Knows → List (ℕ × ℕ) → Knows
all_loaded v ps = record v { shown = v.shown ++ ps; known = v.known ++ ps }

-- after a signal of the point
abbrev pub raised : Knows → ℕ × ℕ → Knows
raised v p = record v { signals = v.signals ++ p ∷ []; known = v.known ++ p ∷ [] }

-- the first seat, while no other seat is out
abbrev pub IsAlone : Knows → Type 0
IsAlone v = (v.is_first ≡ true) × (v.out ≡ 0)

-- what a seat knows is what was signalled through it or a seat that it took in: each value that its
-- loads showed is 0 or such a signal, and of each timeline no greater value is known
pub record OnlyOwnSignals (v : Knows) : Type 0 where
  pub shown : (p : ℕ × ℕ) → Contains v.shown p → (p.1 ≡ 0) ⊎ Contains v.signals p
  pub known : (t : ℕ) → 1 ≤ t → t ≤ 64 → greatest t v.known ≤ greatest t v.signals
