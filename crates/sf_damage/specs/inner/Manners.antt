-- How a content is drawn.
use Rattle.std.specs.Prelude.{ℕ, ℤ, Bool}
use Rattle.sf_base.specs.declared.ids.LayerId.{LayerId}
use Rattle.sf_view.specs.declared.drawn.Drawn.{Drawn}

-- what of a drawn layer is neither its clip nor its content
abbrev pub manner_of : Drawn → LayerId × (ℤ × ℤ) × ℕ × Bool × ℕ
manner_of drawn = (drawn.layer, drawn.place, drawn.alpha, drawn.opaque, drawn.orient)
