-- A kernel's row in the frame, and rows one after another.
use Rattle.std.proofs.Common.{◌≡◌, ℕ, ◌+◌, ◌-◌, ◌*◌, ◌<◌, ◌≤◌, List, length, refl, ap, ◌∙◌, sym, subst, arith, get_or}
use Rattle.std.specs.List.{between}
use borrow.Rule.Slice.PartMut.{put_mid}
use lib.Lanes.{put_chunk}
use Rattle.std.proofs.lemmas.Simd.{get_or-put_chunk_below, get_or-put_chunk_at, get_or-put_chunk_above, length-put_chunk, put_chunk_is}
use Rattle.std.proofs.lemmas.List.Edits.{get_or-between, length-between}
use Rattle.sf_base.specs.declared.pixel.Rgba.{Rgba}
use Rattle.sf_base.specs.Bytes.{pixel_in}
use Rattle.sf_compose.specs.inner.Painting.{PaintsSpan}

-- four bytes that are equal make equal pixels
pub pixel_same : (xs ys : List ℕ) (i j : ℕ) → ((c : ℕ) → c < 4 → get_or xs (4 * i + c) 0 ≡ get_or ys (4 * j + c) 0) → pixel_in xs i ≡ pixel_in ys j
pixel_same xs ys i j same =
    let here : 4 * i + 0 ≡ 4 * i = omega arith in
    let there : 4 * j + 0 ≡ 4 * j = omega arith in
    let r : get_or xs (4 * i) 0 ≡ get_or ys (4 * j) 0 = rw (here, there) at (same 0 (omega arith)) in
    let g : get_or xs (4 * i + 1) 0 ≡ get_or ys (4 * j + 1) 0 = same 1 (omega arith) in
    let b : get_or xs (4 * i + 2) 0 ≡ get_or ys (4 * j + 2) 0 = same 2 (omega arith) in
    let a : get_or xs (4 * i + 3) 0 ≡ get_or ys (4 * j + 3) 0 = same 3 (omega arith) in
    rw (r, g, b, a) refl

-- a pixel of a part
pub pixel_between : (xs : List ℕ) (start end k : ℕ) → k < end - start → pixel_in (between (4 * start) (4 * end) xs) k ≡ pixel_in xs (start + k)
pixel_between xs start end k h = pixel_same _ _ k (start + k) (λ c low.
    let place : 4 * start + (4 * k + c) ≡ 4 * (start + k) + c = omega arith in
    subst (λ n. get_or (between (4 * start) (4 * end) xs) (4 * k + c) 0 ≡ get_or xs n 0) place (get_or-between xs (4 * start) (4 * end) (4 * k + c) 0 (omega arith)))

-- a part of a frame came back painted
pub PaintsSpan-part : (old ys : List ℕ) (start end : ℕ) (paint : ℕ → Rgba → Rgba) → start ≤ end → 4 * end ≤ length old → length ys ≡ length (between (4 * start) (4 * end) old) → ((k : ℕ) → 4 * k < length (between (4 * start) (4 * end) old) → pixel_in ys k ≡ paint (start + k) (pixel_in (between (4 * start) (4 * end) old) k)) → PaintsSpan old (put_mid (4 * start) (4 * end - 4 * start) old ys) start end paint
PaintsSpan-part old ys start end paint ordered within same each =
    let part : length (between (4 * start) (4 * end) old) ≡ 4 * end - 4 * start = length-between old (4 * start) (4 * end) within in
    let long : length ys ≡ 4 * end - 4 * start = same ∙ part in
    let room : 4 * start + length ys ≤ length old = omega (arith, long) in
    let put : put_chunk (4 * start) old ys ≡ put_mid (4 * start) (4 * end - 4 * start) old ys = put_chunk_is (4 * start) old ys room ∙ (rw long refl) in
    subst (λ (new : List ℕ). PaintsSpan old new start end paint) put (record {
      size = length-put_chunk (4 * start) old ys;
      inside = λ i from to.
          let k : ℕ = i - start in
          let at : i ≡ start + (i - start) = omega arith in
          let now : pixel_in (put_chunk (4 * start) old ys) (start + (i - start)) ≡ pixel_in ys (i - start) = pixel_same _ _ (start + (i - start)) (i - start) (λ c low.
          let place : 4 * start + (4 * (i - start) + c) ≡ 4 * (start + (i - start)) + c = omega arith in
          subst (λ n. get_or (put_chunk (4 * start) old ys) n 0 ≡ get_or ys (4 * (i - start) + c) 0) place (get_or-put_chunk_at (4 * start) old ys (4 * (i - start) + c) 0 (omega (arith, long)) room)) in
          let was : pixel_in (between (4 * start) (4 * end) old) (i - start) ≡ pixel_in old (start + (i - start)) = pixel_between old start end (i - start) (omega arith) in
          subst (λ (n : ℕ). pixel_in (put_chunk (4 * start) old ys) n ≡ paint n (pixel_in old n)) (sym at)
          (now ∙ (each (i - start) (omega (arith, part)) ∙ ap (paint (start + (i - start))) was));
      below = λ i before. pixel_same _ _ i i (λ c low. get_or-put_chunk_below (4 * start) old ys (4 * i + c) 0 (omega arith));
      above = λ i after. pixel_same _ _ i i (λ c low. get_or-put_chunk_above (4 * start) old ys (4 * i + c) 0 (omega (arith, long)));
    })

-- two ways to paint that agree on the span
pub PaintsSpan-same : (old new : List ℕ) (start end : ℕ) (f g : ℕ → Rgba → Rgba) → PaintsSpan old new start end f → ((i : ℕ) (under : Rgba) → start ≤ i → i < end → f i under ≡ g i under) → PaintsSpan old new start end g
PaintsSpan-same old new start end f g a same = record {
  size = a.size;
  inside = λ i from to. a.inside i from to ∙ same i (pixel_in old i) from to;
  below = a.below;
  above = a.above;
}

pub moved_back : (start k : ℕ) → (start + k) - start ≡ k
moved_back start k = omega arith

-- what is painted on a span changes nothing beside it
pub PaintsSpan-touched : (old new : List ℕ) (start end : ℕ) (f : ℕ → Rgba → Rgba) → PaintsSpan old new start end f → PaintsSpan old new start end (λ i under. pixel_in new i)
PaintsSpan-touched old new start end f a = record {
  size = a.size;
  inside = λ i from to. refl;
  below = a.below;
  above = a.above;
}
