-- What `==` decides of fills.
use Rattle.std.proofs.Common.{◌≡◌, ap, Bool, List}
use Rattle.std.specs.Prelude.{◌&&◌, nat_eq}
use Rattle.std.specs.Bool.{Decides}
use Rattle.std.specs.Ordering.{int_eq}
use Rattle.std.specs.Cmp.Lexicographic.{pointwise}
use Rattle.std.proofs.lemmas.Slice.Eq.{slice_eq-Decides}
use Rattle.sf_base.proofs.Decisions.{both_decide, decides_as, rect_decides, rgba_decides}
use Rattle.sf_base.specs.declared.geometry.Rect.{Rect}
use Rattle.sf_base.specs.declared.pixel.Rgba.{Rgba}
use Rattle.sf_picture.specs.declared.fill.Fill.{Fill}

fill_by : (f g : Fill) → f.rect ≡ g.rect → f.colour ≡ g.colour → f ≡ g
fill_by f g rect colour = λ i. record { rect = rect i; colour = colour i }

abbrev rect_eq : Rect → Rect → Bool
rect_eq r q = int_eq r.x q.x && (int_eq r.y q.y && (nat_eq r.width q.width && nat_eq r.height q.height))

abbrev rgba_eq : Rgba → Rgba → Bool
rgba_eq p q = nat_eq p.r q.r && (nat_eq p.g q.g && (nat_eq p.b q.b && nat_eq p.a q.a))

abbrev pub fill_eq : Fill → Fill → Bool
fill_eq f g = rect_eq f.rect g.rect && rgba_eq f.colour g.colour

fill_decides : (f g : Fill) → Decides (fill_eq f g) (f ≡ g)
fill_decides f g = decides_as _ _ _
    (λ e. fill_by f g e.0 e.1)
    (λ e. (ap (λ (z : Fill). z.rect) e, ap (λ (z : Fill). z.colour) e))
    (both_decide _ _ _ _ (rect_decides f.rect g.rect) (rgba_decides f.colour g.colour))

pub fills_decide : (fs gs : List Fill) (b : Bool) → b ≡ pointwise fill_eq fs gs → Decides b (fs ≡ gs)
fills_decide fs gs b is = slice_eq-Decides fill_decides fs gs b is
