-- How often a layer stands in an order.
use Rattle.std.specs.Prelude.{ℕ, ◌+◌, ◌==◌, if◌then◌else◌, List, [], ◌∷◌}
use Rattle.sf_base.specs.declared.ids.LayerId.{LayerId}

abbrev pub times_in : List LayerId → LayerId → ℕ
times_in [] id = 0
times_in (other ∷ order) id = (if other.0 == id.0 then 1 else 0) + times_in order id
