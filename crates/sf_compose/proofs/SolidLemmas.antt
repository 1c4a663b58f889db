-- Pixels whose alphas are 255 hide what they are painted over.
use Rattle.std.proofs.Common.{◌≡◌, ℕ, ◌+◌, ◌-◌, ◌*◌, ◌/◌, ◌<◌, ◌≤◌, Bool, true, false, List, length, get_or, slice_index, refl, sym, ◌∙◌, inl, inr, arith, subst}
use Rattle.std.proofs.lemmas.Bool.{cases_lt}
use Rattle.std.proofs.lemmas.Simd.{get_or-chunk, get_or-put_chunk_below, get_or-put_chunk_at, length-chunk, length-put_chunk}
use lib.Lanes.{chunk, put_chunk}
use Rattle.sf_base.specs.Blend.{blended, product}
use Rattle.sf_base.specs.Bytes.{FillsSpan, pixel_in}
use Rattle.sf_base.specs.Paint.{painted}
use Rattle.sf_base.specs.declared.pixel.Rgba.{Rgba}
use Rattle.sf_damage.specs.sf_view.Contents.{source_of}
use Rattle.sf_compose.specs.inner.Solid.{CopiesBelow, CopiesTo}
use Rattle.sf_compose.proofs.SpanLemmas.{pixel_same}

-- nothing is copied yet
pub copied_none : (source new : List ℕ) → length new ≡ length source → CopiesTo 0 source new
copied_none source new same = record {
  whole = refl;
  within = omega arith;
  size = same;
  copied = record { same = λ k h. absurd (omega arith); solid = λ k h. absurd (omega arith) };
}

-- sixteen pixels more
pub copied_more : (source mid : List ℕ) (at : ℕ) → CopiesTo at source mid → at + 64 ≤ length source → ((j : ℕ) → j < 16 → slice_index (chunk at 64 source) (4 * j + 3) ≡ 255) → CopiesTo (at + 64) source (put_chunk at mid (chunk at 64 source))
copied_more source mid at so room solid = record {
  whole = omega (arith, so.whole);
  within = room;
  size = length-put_chunk at mid (chunk at 64 source) ∙ so.size;
  copied = record {
    same = λ k h. elim (cases_lt k (at / 4)) [
      | inl before ↦ pixel_same _ _ k k (λ c low. get_or-put_chunk_below at mid (chunk at 64 source) (4 * k + c) 0 (omega (arith, so.whole, before, low))) ∙ so.copied.same k before
      | inr from ↦ pixel_same _ _ k k (λ c low. here k c from h low)
    ];
    solid = λ k h. elim (cases_lt k (at / 4)) [
      | inl before ↦ so.copied.solid k before
      | inr from ↦
          let place : at + (4 * (k - at / 4) + 3) ≡ 4 * k + 3 = omega (arith, so.whole, from) in
          subst (λ (n : ℕ). get_or source n 0 ≡ 255) place
          (sym (get_or-chunk at 64 source (4 * (k - at / 4) + 3) 0 (omega (arith, so.whole, from, h))) ∙ solid (k - at / 4) (omega (arith, so.whole, from, h)))
    ];
  };
}
  where
    long : length (chunk at 64 source) ≡ 64
    long = length-chunk at 64 source room

    here : (k c : ℕ) → at / 4 ≤ k → k < (at + 64) / 4 → c < 4 → get_or (put_chunk at mid (chunk at 64 source)) (4 * k + c) 0 ≡ get_or source (4 * k + c) 0
    here k c from to low =
        let place : at + ((4 * k + c) - at) ≡ 4 * k + c = omega (arith, so.whole, from) in
        let put : get_or (put_chunk at mid (chunk at 64 source)) (at + ((4 * k + c) - at)) 0 ≡ get_or (chunk at 64 source) ((4 * k + c) - at) 0
        = get_or-put_chunk_at at mid (chunk at 64 source) ((4 * k + c) - at) 0 (omega (arith, long, so.whole, from, to, low)) (omega (arith, long, room, so.size)) in
        let was : get_or (chunk at 64 source) ((4 * k + c) - at) 0 ≡ get_or source (at + ((4 * k + c) - at)) 0
        = get_or-chunk at 64 source ((4 * k + c) - at) 0 (omega (arith, so.whole, from, to, low)) in
        subst (λ (n : ℕ). get_or (put_chunk at mid (chunk at 64 source)) n 0 ≡ get_or source n 0) place (put ∙ was)

-- one pixel more
pub copied_next : (source mid new : List ℕ) (k : ℕ) (pixel : Rgba) → CopiesBelow k source mid → FillsSpan mid new k (k + 1) pixel → pixel ≡ pixel_in source k → pixel.a ≡ 255 → CopiesBelow (k + 1) source new
copied_next source mid new k pixel so one is solid = record {
  same = λ i h. elim (cases_lt i k) [
    | inl before ↦ one.below i before ∙ so.same i before
    | inr from ↦
        let here : k ≡ i = omega arith in
        subst (λ (n : ℕ). pixel_in new n ≡ pixel_in source n) here (one.inside k (omega arith) (omega arith) ∙ is)
  ];
  solid = λ i h. elim (cases_lt i k) [
    | inl before ↦ so.solid i before
    | inr from ↦
        let here : k ≡ i = omega arith in
        subst (λ (n : ℕ). (pixel_in source n).a ≡ 255) here (subst (λ (p : Rgba). p.a ≡ 255) is solid)
  ];
}

-- fewer pixels
pub copied_fewer : (source new : List ℕ) (k n : ℕ) → n ≤ k → CopiesBelow k source new → CopiesBelow n source new
copied_fewer source new k n fewer so = record { same = λ i h. so.same i (omega (arith, fewer, h)); solid = λ i h. so.solid i (omega (arith, fewer, h)) }

nothing_of : (x : ℕ) → (x * 0 + 127) / 255 ≡ 0
nothing_of x = let none : x * 0 ≡ 0 = omega arith in rw none refl

whole_of : (x : ℕ) → (x * 255 + 127) / 255 ≡ x
whole_of x = omega arith

left_of : (a : ℕ) → a ≡ 255 → 255 - (a * 255 + 127) / 255 ≡ 0
left_of a e = rw e refl

channel_of : (d x a : ℕ) → a ≡ 255 → x ≤ 255 → blended d x 255 (product a 255) ≡ x
unfolding blended product
channel_of d x a solid small = rw (left_of a solid, nothing_of d, whole_of x) (omega (arith, small))

-- a pixel whose alpha is 255 is what is painted of it over any other
pub painted_whole : (under p : Rgba) → p.r ≤ 255 → p.g ≤ 255 → p.b ≤ 255 → p.a ≡ 255 → painted under p 255 ≡ p
unfolding painted
painted_whole under p r g b solid =
    rw (channel_of under.r p.r p.a solid r, channel_of under.g p.g p.a solid g, channel_of under.b p.b p.a solid b, channel_of under.a p.a p.a solid (omega (arith, solid))) refl

-- what is moved of a pixel whose alpha is 255 is what is painted of it over any other, opaque or not
pub moved_whole : (opaque : Bool) (under p q : Rgba) → p ≡ q → p.r ≤ 255 → p.g ≤ 255 → p.b ≤ 255 → q.a ≡ 255 → p ≡ painted under (source_of opaque q) 255
moved_whole opaque under p q same r g b solid = by_opaque opaque
  where
    whole : p ≡ painted under q 255
    whole = sym (subst (λ (z : Rgba). painted under z 255 ≡ p) same (painted_whole under p r g b (subst (λ (z : Rgba). z.a ≡ 255) (sym same) solid)))

    stays : record q { a = 255 } ≡ q
    stays = rw solid refl

    by_opaque : (b : Bool) → p ≡ painted under (source_of b q) 255
    by_opaque true = subst (λ (z : Rgba). p ≡ painted under z 255) (sym stays) whole
    by_opaque false = whole
