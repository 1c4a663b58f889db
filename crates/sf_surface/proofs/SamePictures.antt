-- Pictures that are the same are equal.
use Rattle.std.proofs.Common.{◌≡◌, Bool, true, false, not, List, ◌↔◌, IsTrue, refl, sym, subst, ap}
use Rattle.std.specs.Bool.{Decides}
use Rattle.std.specs.Cmp.Lexicographic.{pointwise}
use Rattle.std.proofs.lemmas.Slice.Eq.{slice_eq-Decides}
use Rattle.sf_base.proofs.Decisions.{both_decide, decides_as, nat_decides, rect_decides, rgba_decides}
use Rattle.sf_base.specs.declared.format.Format.{Format}
use Rattle.sf_base.specs.declared.format.Format.TheVariants as format
use Rattle.sf_turns.specs.sf_picture.declared.fill.Fill.{Fill}
use Rattle.sf_turns.specs.sf_picture.declared.picture.Picture.{Picture}
use Rattle.sf_surface.specs.Pictures.{same_fill, same_format, same_picture}

fill_by : (f g : Fill) → f.rect ≡ g.rect → f.colour ≡ g.colour → f ≡ g
fill_by f g rect colour = λ i. record { rect = rect i; colour = colour i }

fill_decides : (f g : Fill) → Decides (same_fill f g) (f ≡ g)
fill_decides f g = decides_as _ _ _
    (λ e. fill_by f g e.0 e.1)
    (λ e. (ap (λ (z : Fill). z.rect) e, ap (λ (z : Fill). z.colour) e))
    (both_decide _ _ _ _ (rect_decides f.rect g.rect) (rgba_decides f.colour g.colour))

fills_decide : (xs ys : List Fill) → Decides (pointwise same_fill xs ys) (xs ≡ ys)
fills_decide xs ys = slice_eq-Decides fill_decides xs ys (pointwise same_fill xs ys) refl

format_is : (a b : Format) → same_format a b ≡ true → a ≡ b
format_is format.Rgba format.Rgba met = refl
format_is format.Rgbx format.Rgbx met = refl
format_is format.Rgb565 format.Rgb565 met = refl
format_is format.Rgba format.Rgbx met = absurd (cc (met))
format_is format.Rgba format.Rgb565 met = absurd (cc (met))
format_is format.Rgbx format.Rgba met = absurd (cc (met))
format_is format.Rgbx format.Rgb565 met = absurd (cc (met))
format_is format.Rgb565 format.Rgba met = absurd (cc (met))
format_is format.Rgb565 format.Rgbx met = absurd (cc (met))

same_itself : (a : Format) → same_format a a ≡ true
same_itself format.Rgba = refl
same_itself format.Rgbx = refl
same_itself format.Rgb565 = refl

format_decides : (a b : Format) → Decides (same_format a b) (a ≡ b)
format_decides a b = (format_is a b, λ e. subst (λ (z : Format). same_format a z ≡ true) e (same_itself a))

picture_by : (a b : Picture) → a.number ≡ b.number → a.width ≡ b.width → a.height ≡ b.height → a.format ≡ b.format → a.fills ≡ b.fills → a ≡ b
picture_by a b number width height kept fills = λ i. record { number = number i; width = width i; height = height i; fills = fills i; format = kept i }

picture_decides : (a b : Picture) → Decides (same_picture a b) (a ≡ b)
picture_decides a b = decides_as _ _ _
    (λ e. picture_by a b e.0 e.1.0 e.1.1.0 e.1.1.1.0 e.1.1.1.1)
    (λ e. (ap (λ (z : Picture). z.number) e, (ap (λ (z : Picture). z.width) e, (ap (λ (z : Picture). z.height) e, (ap (λ (z : Picture). z.format) e, ap (λ (z : Picture). z.fills) e)))))
    (both_decide _ _ _ _ (nat_decides a.number b.number) (both_decide _ _ _ _ (nat_decides a.width b.width) (both_decide _ _ _ _ (nat_decides a.height b.height) (both_decide _ _ _ _ (format_decides a.format b.format) (fills_decide a.fills b.fills)))))

pub same_picture-is : (a b : Picture) → same_picture a b ≡ true → a ≡ b
same_picture-is a b = (picture_decides a b).0

-- two that are not the same are not equal
pub other_picture : (a b : Picture) → same_picture a b ≡ false → a ≡ b → ⊥
other_picture a b other same = let met = (picture_decides a b).1 same in cc (other, met)

-- two tests that hold together are the same
alike : (x y : Bool) → (x ≡ true → y ≡ true) → (y ≡ true → x ≡ true) → x ≡ y
alike true y there back = sym (there refl)
alike false true there back = back refl
alike false false there back = refl

-- what tells whether two pictures are equal tells whether they are the same
pub tells_same : (told : Bool) (a b : Picture) → (IsTrue told ↔ (a ≡ b)) → told ≡ same_picture a b
tells_same told a b is = alike told (same_picture a b) (λ t. (picture_decides a b).1 (is.0 t)) (λ t. is.1 ((picture_decides a b).0 t))

-- a negated test that is not met
pub not_unmet : (b : Bool) → not b ≡ false → b ≡ true
not_unmet true same = refl
not_unmet false same = absurd (cc (same))
