-- What is noted of layers, in pairs of a layer and a note.
use Rattle.std.specs.Prelude.{◌≡◌, ℕ, ◌==◌, Bool, List, Option, find}
use Rattle.std.specs.BTreeMap.{BTreeMap, get}
use Rattle.std.specs.Option.{option_map}
use Rattle.std.specs.Ordering.{nat_cmp}
use Rattle.sf_base.specs.declared.ids.LayerId.{LayerId}

module _ {T : Type 0} where
  -- the note is of this layer
  abbrev pub is_for : LayerId → LayerId × T → Bool
  is_for id note = note.0.0 == id.0

  -- the first note of a layer, if there is one
  abbrev pub first_for : List (LayerId × T) → LayerId → Option T
  first_for notes id = option_map (λ (note : LayerId × T). note.1) (find (is_for id) notes)

  -- a map has the first note of each layer by its number
  abbrev pub IsIndex : List (LayerId × T) → BTreeMap ℕ T → Type 0
  IsIndex notes firsts = (number : ℕ) → get nat_cmp firsts number ≡ first_for notes (record { 0 = number })
