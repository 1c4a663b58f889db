-- Single pixels of a row, and rows of them.
use Rattle.std.proofs.Common.{◌≡◌, ℕ, ◌+◌, ◌*◌, ◌/◌, ◌%◌, ◌≤◌, ◌<◌, List, length, slice_index, refl, subst, sym, ap, ◌∙◌, ⊎_elim, arith}
use Rattle.std.proofs.lemmas.Bool.{cases_lt}
use Rattle.sf_base.specs.Bytes.{FillsSpan, pixel_in}
use Rattle.sf_base.specs.Blend.{product, blended}
use Rattle.sf_base.specs.Paint.{painted}
use Rattle.sf_base.specs.declared.pixel.Rgba.{Rgba}
use Rattle.sf_rows.specs.inner.Channels.{alpha_index, row_channel, opaque_source, opaque_channel, colour_part, colour_channel, PaintedPixels}
use Rattle.sf_rows.specs.Pixels.{opaque_pixel, PaintedBelow}

-- the pixel of a row of which each channel is known
pub pixel_by : (new : List ℕ) (k : ℕ) (p : Rgba) → slice_index new (4 * k) ≡ p.r → slice_index new (4 * k + 1) ≡ p.g
    → slice_index new (4 * k + 2) ≡ p.b → slice_index new (4 * k + 3) ≡ p.a → pixel_in new k ≡ p
pixel_by new k p r g b a = rw (r, g, b, a) refl

-- pixels of two rows whose channels are the same
pub pixel_same : (xs ys : List ℕ) (i j : ℕ) → ((c : ℕ) → c < 4 → slice_index xs (4 * i + c) ≡ slice_index ys (4 * j + c)) → pixel_in xs i ≡ pixel_in ys j
pixel_same xs ys i j same =
    let here : 4 * i + 0 ≡ 4 * i = omega arith in
    let there : 4 * j + 0 ≡ 4 * j = omega arith in
    let first : slice_index xs (4 * i) ≡ slice_index ys (4 * j) = rw (here, there) at (same 0 (omega arith)) in
    pixel_by xs i (pixel_in ys j) first (same 1 (omega arith)) (same 2 (omega arith)) (same 3 (omega arith))

-- the pixels beyond those that were painted
pixels_rest : (old new : List ℕ) (channel : ℕ → ℕ) (at : ℕ) → PaintedPixels old channel at new → (k : ℕ) → at / 4 ≤ k → pixel_in new k ≡ pixel_in old k
pixels_rest old new channel at so k h =
    pixel_by new k _ (so.painted.rest (4 * k) (omega (arith, so.whole, h))) (so.painted.rest (4 * k + 1) (omega (arith, so.whole, h)))
    (so.painted.rest (4 * k + 2) (omega (arith, so.whole, h))) (so.painted.rest (4 * k + 3) (omega (arith, so.whole, h)))

-- one pixel more
pub painted_next : (old mid new : List ℕ) (paint : ℕ → Rgba → Rgba) (at : ℕ) (source : Rgba) → PaintedBelow old paint at mid → length new ≡ length mid
    → FillsSpan mid new at (at + 1) source → source ≡ paint at (pixel_in mid at) → PaintedBelow old paint (at + 1) new
painted_next old mid new paint at source so size one is = record {
  size = size ∙ so.size;
  each = λ k h. ⊎_elim
      (λ (below : k < at). one.below k below ∙ so.each k below)
      (λ (above : at ≤ k).
      let here : at ≡ k = omega arith in
      subst (λ k. pixel_in new k ≡ paint k (pixel_in old k)) here
      (one.inside at (omega arith) (omega arith) ∙ (is ∙ ap (paint at) (so.rest at (omega arith)))))
      (cases_lt k at);
  rest = λ k h. one.above k h ∙ so.rest k (omega arith);
}

-- channels of a row of sources
row_part : (dst src : List ℕ) (alpha index j : ℕ) → index % 4 ≡ 0 → index ≤ j → j < index + 4
    → blended (slice_index dst j) (slice_index src j) alpha (product (slice_index src (index + 3)) alpha) ≡ row_channel dst src alpha j
unfolding row_channel alpha_index
row_part dst src alpha index j whole low high =
    let last : index + 3 ≡ j / 4 * 4 + 3 = omega arith in
    rw last refl

pub row_pixels : (old src new : List ℕ) (alpha at : ℕ) → PaintedPixels old (row_channel old src alpha) at new → PaintedBelow old (λ k under. painted under (pixel_in src k) alpha) (at / 4) new
unfolding painted
row_pixels old src new alpha at so = record {
  size = so.painted.len;
  each = λ k h.
      let each : (j : ℕ) → 4 * k ≤ j → j < 4 * k + 4
      → slice_index new j ≡ blended (slice_index old j) (slice_index src j) alpha (product (slice_index src (4 * k + 3)) alpha) = λ j low high.
      so.painted.each j (omega (arith, so.whole, h, high)) ∙ sym (row_part old src alpha (4 * k) j (omega arith) low high) in
      pixel_by new k _ (each (4 * k) (omega arith) (omega arith)) (each (4 * k + 1) (omega arith) (omega arith))
      (each (4 * k + 2) (omega arith) (omega arith)) (each (4 * k + 3) (omega arith) (omega arith));
  rest = pixels_rest _ _ _ _ so;
}

-- channels of a row of opaque sources
opaque_colours : (dst src : List ℕ) (alpha j : ℕ) (i : ℕ) → j % 4 ≡ i → i < 3
    → blended (slice_index dst j) (slice_index src j) alpha (product 255 alpha) ≡ opaque_channel dst src alpha j
unfolding opaque_channel opaque_source
opaque_colours dst src alpha j i is small = grind (arith, is)

opaque_alpha : (dst src : List ℕ) (alpha j : ℕ) → j % 4 ≡ 3
    → blended (slice_index dst j) 255 alpha (product 255 alpha) ≡ opaque_channel dst src alpha j
unfolding opaque_channel opaque_source
opaque_alpha dst src alpha j is = rw is refl

pub opaque_pixels : (old src new : List ℕ) (alpha at : ℕ) → PaintedPixels old (opaque_channel old src alpha) at new → PaintedBelow old (λ k under. painted under (opaque_pixel (pixel_in src k)) alpha) (at / 4) new
unfolding painted opaque_pixel
opaque_pixels old src new alpha at so = record {
  size = so.painted.len;
  each = λ k h.
      let each : (j : ℕ) → j < 4 * k + 4 → slice_index new j ≡ opaque_channel old src alpha j = λ j high.
      so.painted.each j (omega (arith, so.whole, h, high)) in
      pixel_by new k _
      (each (4 * k) (omega arith) ∙ sym (opaque_colours old src alpha (4 * k) 0 (omega arith) (omega arith)))
      (each (4 * k + 1) (omega arith) ∙ sym (opaque_colours old src alpha (4 * k + 1) 1 (omega arith) (omega arith)))
      (each (4 * k + 2) (omega arith) ∙ sym (opaque_colours old src alpha (4 * k + 2) 2 (omega arith) (omega arith)))
      (each (4 * k + 3) (omega arith) ∙ sym (opaque_alpha old src alpha (4 * k + 3) (omega arith)));
  rest = pixels_rest _ _ _ _ so;
}

-- channels of one colour
colour_r : (dst : List ℕ) (colour : Rgba) (alpha j : ℕ) → j % 4 ≡ 0 → blended (slice_index dst j) colour.r alpha (product colour.a alpha) ≡ colour_channel dst colour alpha j
unfolding colour_channel colour_part
colour_r dst colour alpha j is = rw is refl

colour_g : (dst : List ℕ) (colour : Rgba) (alpha j : ℕ) → j % 4 ≡ 1 → blended (slice_index dst j) colour.g alpha (product colour.a alpha) ≡ colour_channel dst colour alpha j
unfolding colour_channel colour_part
colour_g dst colour alpha j is = rw is refl

colour_b : (dst : List ℕ) (colour : Rgba) (alpha j : ℕ) → j % 4 ≡ 2 → blended (slice_index dst j) colour.b alpha (product colour.a alpha) ≡ colour_channel dst colour alpha j
unfolding colour_channel colour_part
colour_b dst colour alpha j is = rw is refl

colour_a : (dst : List ℕ) (colour : Rgba) (alpha j : ℕ) → j % 4 ≡ 3 → blended (slice_index dst j) colour.a alpha (product colour.a alpha) ≡ colour_channel dst colour alpha j
unfolding colour_channel colour_part
colour_a dst colour alpha j is = rw is refl

pub colour_pixels : (old new : List ℕ) (colour : Rgba) (alpha at : ℕ) → PaintedPixels old (colour_channel old colour alpha) at new → PaintedBelow old (λ k under. painted under colour alpha) (at / 4) new
unfolding painted
colour_pixels old new colour alpha at so = record {
  size = so.painted.len;
  each = λ k h.
      let each : (j : ℕ) → j < 4 * k + 4 → slice_index new j ≡ colour_channel old colour alpha j = λ j high.
      so.painted.each j (omega (arith, so.whole, h, high)) in
      pixel_by new k _
      (each (4 * k) (omega arith) ∙ sym (colour_r old colour alpha (4 * k) (omega arith)))
      (each (4 * k + 1) (omega arith) ∙ sym (colour_g old colour alpha (4 * k + 1) (omega arith)))
      (each (4 * k + 2) (omega arith) ∙ sym (colour_b old colour alpha (4 * k + 2) (omega arith)))
      (each (4 * k + 3) (omega arith) ∙ sym (colour_a old colour alpha (4 * k + 3) (omega arith)));
  rest = pixels_rest _ _ _ _ so;
}
