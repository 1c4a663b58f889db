-- What hides the ground of an area: a drawn layer that leaves nothing of what lies below.
use Rattle.std.specs.Prelude.{ℕ, ℤ, pos, ◌+ℤ◌, int_le, nat_eq, Bool, false, not, ◌&&◌, ◌||◌}
use Rattle.sf_base.specs.declared.geometry.Rect.{Rect}
use Rattle.sf_compose.specs.declared.area.Area.{Area}
use Rattle.sf_damage.specs.sf_view.declared.content.Content.{Content}
use Rattle.sf_damage.specs.sf_view.declared.content.Content.TheVariants as content
use Rattle.sf_damage.specs.sf_view.declared.drawn.Drawn.{Drawn}

-- a colour that lets no light through
abbrev pub is_solid_colour : Content → Bool
is_solid_colour (content.Colour colour) = nat_eq colour.a 255
is_solid_colour (content.Buffer shown) = false

-- a drawn layer of which each pixel hides what lies below
abbrev pub is_solid : Drawn → Bool
is_solid drawn = nat_eq drawn.alpha 255 && (drawn.opaque || is_solid_colour drawn.content)

-- a span of so many coordinates from a start on has those from one on and before another
abbrev pub spans : ℤ → ℕ → ℕ → ℕ → Bool
spans start extent first end = int_le start (pos first) && int_le (pos end) (start +ℤ pos extent)

-- a rectangle has each point of an area
abbrev pub has_area : Area → Rect → Bool
has_area area rect = spans rect.x rect.width area.left area.right && spans rect.y rect.height area.top area.bottom

-- a drawn layer hides the ground at each point of an area, whatever its pixels are
abbrev pub hides : Area → Drawn → Bool
hides area drawn = is_solid drawn && has_area area drawn.clip

-- it hides the ground there if the alphas of its pixels are 255
abbrev pub may_hide : Area → Drawn → Bool
may_hide area drawn = (nat_eq drawn.alpha 255 && not drawn.opaque) && has_area area drawn.clip
