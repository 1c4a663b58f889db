-- What `==` decides of rectangles and of pixels.
use Rattle.std.proofs.Common.{◌≡◌, ℕ, ap, Bool}
use Rattle.std.specs.Prelude.{◌&&◌, nat_eq}
use Rattle.std.specs.Bool.{Decides}
use Rattle.std.specs.Ordering.{int_eq}
use Rattle.std.proofs.lemmas.Bool.{and_parts, and_from, eqb-true, eq-eqb}
use Rattle.std.proofs.lemmas.Bool.Decides.{Decides-int_eq}
use Rattle.sf_base.specs.declared.geometry.Rect.{Rect}
use Rattle.sf_base.specs.declared.pixel.Rgba.{Rgba}

-- two tests decide both of two facts
pub both_decide : (a b : Bool) (P Q : Type 0) → Decides a P → Decides b Q → Decides (a && b) (P × Q)
both_decide a b P Q d e =
    ((λ t. let parts = and_parts a b t in (d.0 parts.0, e.0 parts.1)), (λ h. and_from a b (d.1 h.0) (e.1 h.1)))

pub nat_decides : (m n : ℕ) → Decides (nat_eq m n) (m ≡ n)
nat_decides m n = ((λ t. eqb-true m n t), (λ e. eq-eqb m n e))

-- a fact is decided by what decides another that says the same
pub decides_as : (b : Bool) (P Q : Type 0) → (P → Q) → (Q → P) → Decides b P → Decides b Q
decides_as b P Q there back d = ((λ t. there (d.0 t)), (λ q. d.1 (back q)))

rect_by : (r q : Rect) → r.x ≡ q.x → r.y ≡ q.y → r.width ≡ q.width → r.height ≡ q.height → r ≡ q
rect_by r q x y width height = λ i. record { x = x i; y = y i; width = width i; height = height i }

pub rect_decides : (r q : Rect) → Decides (int_eq r.x q.x && (int_eq r.y q.y && (nat_eq r.width q.width && nat_eq r.height q.height))) (r ≡ q)
rect_decides r q = decides_as _ _ _
    (λ e. rect_by r q e.0 e.1.0 e.1.1.0 e.1.1.1)
    (λ e. (ap (λ (z : Rect). z.x) e, (ap (λ (z : Rect). z.y) e, (ap (λ (z : Rect). z.width) e, ap (λ (z : Rect). z.height) e))))
    (both_decide _ _ _ _ (Decides-int_eq r.x q.x) (both_decide _ _ _ _ (Decides-int_eq r.y q.y) (both_decide _ _ _ _ (nat_decides r.width q.width) (nat_decides r.height q.height))))

rgba_by : (p q : Rgba) → p.r ≡ q.r → p.g ≡ q.g → p.b ≡ q.b → p.a ≡ q.a → p ≡ q
rgba_by p q r g b a = λ i. record { r = r i; g = g i; b = b i; a = a i }

pub rgba_decides : (p q : Rgba) → Decides (nat_eq p.r q.r && (nat_eq p.g q.g && (nat_eq p.b q.b && nat_eq p.a q.a))) (p ≡ q)
rgba_decides p q = decides_as _ _ _
    (λ e. rgba_by p q e.0 e.1.0 e.1.1.0 e.1.1.1)
    (λ e. (ap (λ (z : Rgba). z.r) e, (ap (λ (z : Rgba). z.g) e, (ap (λ (z : Rgba). z.b) e, ap (λ (z : Rgba). z.a) e))))
    (both_decide _ _ _ _ (nat_decides p.r q.r) (both_decide _ _ _ _ (nat_decides p.g q.g) (both_decide _ _ _ _ (nat_decides p.b q.b) (nat_decides p.a q.a))))
