-- Repainting a frame, one part after another.
use Rattle.std.proofs.Common.{◌≡◌, ℕ, ◌+◌, ◌-◌, ◌*◌, ◌<◌, ◌≤◌, Bool, true, false, ◌||◌, if◌then◌else◌, List, refl, ◌∙◌, arith, pos, ◌+ℤ◌, int_le, int_lt, ◌&&◌}
use Rattle.std.proofs.lemmas.Bool.{true_from_ne_false}
use Rattle.std.proofs.lemmas.Int.{ints}
use Rattle.std.proofs.lemmas.Bool.Decides.{nat_tests}
use Rattle.sf_base.specs.declared.pixel.Rgba.{Rgba}
use Rattle.sf_base.specs.declared.geometry.Rect.{Rect}
use Rattle.sf_base.specs.Bytes.{pixel_in}
use Rattle.sf_base.specs.Geometry.{covers}
use Rattle.sf_damage.specs.sf_region.Points.{has}
use Rattle.sf_damage.specs.sf_view.Views.{ViewOf}
use Rattle.sf_compose.specs.Frames.{is_in_box, KeepsRest, Repaints, ShowsPart}

joined : (p q r : Bool) → r ≡ (p || q) → (here was between now : Rgba) → between ≡ (if p then here else was) → now ≡ (if q then here else between) → now ≡ (if r then here else was)
joined true true r e here was between now f g = rw e g
joined true false r e here was between now f g = rw e (g ∙ f)
joined false true r e here was between now f g = rw e g
joined false false r e here was between now f g = rw e (g ∙ f)

-- the points that pass one test, and then those that pass another
pub Repaints-then : (w top bottom : ℕ) (p q r : ℕ → ℕ → Bool) (image : ℕ → ℕ → Rgba) (old mid new : List ℕ) → Repaints w top bottom p image old mid → Repaints w top bottom q image mid new → ((x y : ℕ) → r x y ≡ (p x y || q x y)) → Repaints w top bottom r image old new
Repaints-then w top bottom p q r image old mid new a b e = record {
  size = b.size ∙ a.size;
  pixels = λ x y wide low high. joined (p x y) (q x y) (r x y) (e x y) _ _ _ _ (a.pixels x y wide low high) (b.pixels x y wide low high);
}

-- no point
pub Repaints-none : (w top bottom : ℕ) (p : ℕ → ℕ → Bool) (image : ℕ → ℕ → Rgba) (old : List ℕ) → ((x y : ℕ) → p x y ≡ false) → Repaints w top bottom p image old old
Repaints-none w top bottom p image old e = record {
  size = refl;
  pixels = λ x y wide low high. rw (e x y) refl;
}

pub box_higher : (left right top y a b : ℕ) → top ≤ y → is_in_box left right top (y + 1) a b ≡ (is_in_box left right top y a b || is_in_box left right y (y + 1) a b)
box_higher left right top y a b h = grind (arith, nat_tests)

pub box_without_height : (left right top a b : ℕ) → is_in_box left right top top a b ≡ false
box_without_height left right top a b = grind (arith, nat_tests)

-- all rows of a frame
pub whole_frame : (w top bottom width height : ℕ) (p : ℕ → ℕ → Bool) (image : ℕ → ℕ → Rgba) (old new : List ℕ) → Repaints w top bottom p image old new → w ≡ width → top ≡ 0 → bottom ≡ height → (x y : ℕ) → x < width → y < height → pixel_in new (y * width + x) ≡ (if p x y then image x y else pixel_in old (y * width + x))
whole_frame w top bottom width height p image old new a is_width is_top is_bottom x y wide high =
    let start : y - 0 ≡ y = omega arith in
    rw (is_width, is_top, start) at (a.pixels x y (rw is_width wide) (rw is_top (omega arith)) (rw is_bottom high))

-- a part that was repainted shows the image
pub ShowsPart-repaints : (view : ViewOf) (w top bottom : ℕ) (part : List Rect) (image : ℕ → ℕ → Rgba) (old new : List ℕ) → w ≡ view.width → top ≡ 0 → bottom ≡ view.height → Repaints w top bottom (λ x y. has part (pos x) (pos y)) image old new → ShowsPart view part image new
ShowsPart-repaints view w top bottom part image old new is_width is_top is_bottom a = record {
  pixels = λ x y wide high inside. rw inside at (whole_frame w top bottom view.width view.height (λ x y. has part (pos x) (pos y)) image old new a is_width is_top is_bottom x y wide high);
}

-- and the rest is as it was
pub KeepsRest-repaints : (view : ViewOf) (w top bottom : ℕ) (part : List Rect) (image : ℕ → ℕ → Rgba) (old new : List ℕ) → w ≡ view.width → top ≡ 0 → bottom ≡ view.height → Repaints w top bottom (λ x y. has part (pos x) (pos y)) image old new → KeepsRest view part old new
KeepsRest-repaints view w top bottom part image old new is_width is_top is_bottom a = record {
  size = a.size;
  pixels = λ x y wide high outside. rw outside at (whole_frame w top bottom view.width view.height (λ x y. has part (pos x) (pos y)) image old new a is_width is_top is_bottom x y wide high);
}

both_true : (a b : Bool) → a ≡ true → b ≡ true → (a && b) ≡ true
both_true a b p q = rw (p, q) refl

within_size : (size at : ℕ) → at < size → (int_le (pos 0) (pos at) && int_lt (pos at) (pos 0 +ℤ pos size)) ≡ true
within_size size at h = both_true _ _ (true_from_ne_false (int_le (pos 0) (pos at)) (λ f. omega (arith, ints, f))) (true_from_ne_false (int_lt (pos at) (pos 0 +ℤ pos size)) (λ f. omega (arith, ints, h, f)))

-- the rectangle of a display has its points
pub covers_display : (width height x y : ℕ) → x < width → y < height → covers (record { x = pos 0; y = pos 0; width = width; height = height }) (pos x) (pos y) ≡ true
unfolding covers
covers_display width height x y wide high = both_true _ _ (within_size width x wide) (within_size height y high)
