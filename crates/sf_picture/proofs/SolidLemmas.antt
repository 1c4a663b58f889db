-- Pixels whose alphas are 255: how lanes tell them, and that they are all of a picture's.
use Rattle.std.proofs.Common.{◌≡◌, ℕ, zero, suc, ◌+◌, ◌*◌, ◌/◌, ◌%◌, ◌<◌, ◌≤◌, ◌-◌, Bool, true, false, List, [], ◌∷◌, length, get_or, slice_index, refl, sym, ◌∙◌, inl, inr, arith, map, subst, ap}
use Rattle.std.specs.Prelude.{◌↔◌, IsTrue}
use Rattle.std.proofs.Math.Nat.{div-add-mod, mod-lt, mul-le-mul_right}
use Rattle.std.proofs.lemmas.Bool.{cases_lt}
use Rattle.std.proofs.lemmas.Nat.{div-add-mod'}
use Rattle.std.proofs.lemmas.Simd.{get_or-chunk, get_or_wider, length-chunk, Each1-get_or}
use lib.Lanes.{chunk, mask_l, number_l, digits_l, Each1}
use Rattle.sf_base.specs.Bytes.{pixel_in}
use Rattle.sf_base.specs.declared.pixel.Rgba.{Rgba}
use Rattle.sf_picture.specs.Pixels.{ShowsPicture}
use Rattle.sf_picture.specs.Solid.{AreSolid, AreSolidTo, IsSolid, TellsSolid}
use Rattle.sf_picture.specs.declared.picture.Picture.{Picture}

-- no lane passes a test whose mask is empty
pub empty_mask : (p : ℕ → Bool) (xs : List ℕ) (j : ℕ) → mask_l (map p xs) ≡ 0 → j < length xs → p (get_or xs j 0) ≡ false
empty_mask p [] j e h = absurd (omega arith)
empty_mask p (x ∷ xs) zero e h = by_test (p x) refl
  where
    by_test : (b : Bool) → p x ≡ b → p x ≡ false
    by_test false t = t
    by_test true t =
        let one : 1 + 2 * mask_l (map p xs) ≡ 0 = rw t at e in
        absurd (omega (arith, one))
empty_mask p (x ∷ xs) (suc j) e h = empty_mask p xs j (omega (arith, e)) (omega arith)

four : (ys : List ℕ) → length ys ≡ 4 → number_l 256 ys ≡ get_or ys 0 0 + 256 * get_or ys 1 0 + 65536 * get_or ys 2 0 + 16777216 * get_or ys 3 0
four [] h = absurd (omega arith)
four (x ∷ []) h = absurd (omega arith)
four (x ∷ y ∷ []) h = absurd (omega arith)
four (x ∷ y ∷ z ∷ []) h = absurd (omega arith)
four (x ∷ y ∷ z ∷ w ∷ []) h = omega arith
four (x ∷ y ∷ z ∷ w ∷ v ∷ ys) h = absurd (omega arith)

highest : (number x y z w : ℕ) → number ≡ x + 256 * y + 65536 * z + 16777216 * w → x < 256 → y < 256 → z < 256 → w < 256 → 4278190080 ≤ number → w ≡ 255
highest number x y z w is a b c d high = omega arith

byte_at : (a : List ℕ) → length a ≡ 64 → Each1 (λ x. x < 256) a → (i : ℕ) → i < 64 → get_or a i 0 < 256
byte_at a long small i h = Each1-get_or (λ x. x < 256) a i 0 (omega (arith, long, h)) small

-- the alpha of a pixel whose word is among the highest
pub alpha_highest : (a : List ℕ) → length a ≡ 64 → Each1 (λ x. x < 256) a → (j : ℕ) → j < 16 → 4278190080 ≤ slice_index (digits_l 4294967296 16 (number_l 256 a)) j → slice_index a (4 * j + 3) ≡ 255
alpha_highest a long small j h high =
    let word : get_or (digits_l 4294967296 16 (number_l 256 a)) j 0 ≡ number_l 256 (chunk (4 * j) 4 a) = get_or_wider 256 4 4294967296 16 a j refl small h in
    let sum : number_l 256 (chunk (4 * j) 4 a) ≡ get_or (chunk (4 * j) 4 a) 0 0 + 256 * get_or (chunk (4 * j) 4 a) 1 0 + 65536 * get_or (chunk (4 * j) 4 a) 2 0 + 16777216 * get_or (chunk (4 * j) 4 a) 3 0
    = four (chunk (4 * j) 4 a) (length-chunk (4 * j) 4 a (omega (arith, long, h))) in
    let r : get_or (chunk (4 * j) 4 a) 0 0 ≡ get_or a (4 * j + 0) 0 = get_or-chunk (4 * j) 4 a 0 0 (omega arith) in
    let g : get_or (chunk (4 * j) 4 a) 1 0 ≡ get_or a (4 * j + 1) 0 = get_or-chunk (4 * j) 4 a 1 0 (omega arith) in
    let b : get_or (chunk (4 * j) 4 a) 2 0 ≡ get_or a (4 * j + 2) 0 = get_or-chunk (4 * j) 4 a 2 0 (omega arith) in
    let w : get_or (chunk (4 * j) 4 a) 3 0 ≡ get_or a (4 * j + 3) 0 = get_or-chunk (4 * j) 4 a 3 0 (omega arith) in
    highest (number_l 256 (chunk (4 * j) 4 a)) (get_or a (4 * j + 0) 0) (get_or a (4 * j + 1) 0) (get_or a (4 * j + 2) 0) (get_or a (4 * j + 3) 0)
    (rw (← r, ← g, ← b, ← w) sum)
    (byte_at a long small (4 * j + 0) (omega (arith, h))) (byte_at a long small (4 * j + 1) (omega (arith, h))) (byte_at a long small (4 * j + 2) (omega (arith, h))) (byte_at a long small (4 * j + 3) (omega (arith, h)))
    (subst (λ (n : ℕ). 4278190080 ≤ n) word high)

-- nothing is looked at yet
pub solid_none : (bytes : List ℕ) → AreSolidTo 0 bytes
solid_none bytes = record {
  whole = refl;
  within = omega arith;
  solid = record { alphas = λ k h. absurd (omega arith) };
}

-- sixteen pixels more
pub solid_more : (bytes : List ℕ) (at : ℕ) → AreSolidTo at bytes → at + 64 ≤ length bytes → ((j : ℕ) → j < 16 → slice_index (chunk at 64 bytes) (4 * j + 3) ≡ 255) → AreSolidTo (at + 64) bytes
solid_more bytes at so room solid = record {
  whole = omega (arith, so.whole);
  within = room;
  solid = record {
    alphas = λ k h. elim (cases_lt k (at / 4)) [
      | inl before ↦ so.solid.alphas k before
      | inr from ↦
          let place : at + (4 * (k - at / 4) + 3) ≡ 4 * k + 3 = omega (arith, so.whole, from) in
          subst (λ (n : ℕ). get_or bytes n 0 ≡ 255) place
          (sym (get_or-chunk at 64 bytes (4 * (k - at / 4) + 3) 0 (omega (arith, so.whole, from, h))) ∙ solid (k - at / 4) (omega (arith, so.whole, from, h)))
    ];
  };
}

-- one pixel more
pub solid_next : (bytes : List ℕ) (k : ℕ) → AreSolid k bytes → (pixel_in bytes k).a ≡ 255 → AreSolid (k + 1) bytes
solid_next bytes k so is = record {
  alphas = λ i h. elim (cases_lt i k) [
    | inl before ↦ so.alphas i before
    | inr from ↦
        let here : k ≡ i = omega arith in
        subst (λ (n : ℕ). (pixel_in bytes n).a ≡ 255) here is
  ];
}

-- the point of a pixel's number
in_column : (k w h : ℕ) → k < w * h → 0 < w → k / w < h
in_column k w h low some = elim (cases_lt (k / w) h) [
  | inl below ↦ below
  | inr above ↦
      let rows : h * w ≤ k / w * w = mul-le-mul_right w above in
      let turned : h * w ≡ w * h = omega arith in
      let back : k / w * w ≡ w * (k / w) = omega arith in
      let sum = div-add-mod k w in
      absurd (omega (arith, rows, turned, back, sum, low))
]

place_of : (k w : ℕ) → k / w * w + k % w ≡ k
place_of k w = div-add-mod' k w

empty : (k w h : ℕ) → w ≡ 0 → k < w * h → ⊥
empty k w h none low =
    let nothing : w * h ≡ 0 * h = ap (λ (n : ℕ). n * h) none in
    let zero_of : 0 * h ≡ 0 = omega arith in
    omega (arith, nothing, zero_of, low)

-- the bytes of a picture are solid where it is, and it is where they are
pub solid_picture : (picture : Picture) (bytes : List ℕ) → ShowsPicture picture bytes → AreSolid (length bytes / 4) bytes ↔ IsSolid picture
solid_picture picture bytes shows = (to, from)
  where
    count : length bytes / 4 ≡ picture.width * picture.height
    count = let size = shows.size in omega (arith, size)

    to : AreSolid (length bytes / 4) bytes → IsSolid picture
    to solid = record {
      alphas = λ x y in_row low.
          let above : suc y * picture.width ≤ picture.height * picture.width = mul-le-mul_right picture.width low in
          let next : suc y * picture.width ≡ y * picture.width + picture.width = omega arith in
          let turned : picture.height * picture.width ≡ picture.width * picture.height = omega arith in
          subst (λ (p : Rgba). p.a ≡ 255) (shows.pixels x y in_row low) (solid.alphas (y * picture.width + x) (omega (arith, count, above, next, turned, in_row)));
    }

    from : IsSolid picture → AreSolid (length bytes / 4) bytes
    from solid = record {
      alphas = λ k low.
          let below : k < picture.width * picture.height = omega (arith, low, count) in
          elim (cases_lt 0 picture.width) [
            | inl some ↦
                let y : k / picture.width < picture.height = in_column k picture.width picture.height below some in
                let x : k % picture.width < picture.width = mod-lt k some in
                let place : k / picture.width * picture.width + k % picture.width ≡ k = place_of k picture.width in
                subst (λ (n : ℕ). (pixel_in bytes n).a ≡ 255) place (subst (λ (p : Rgba). p.a ≡ 255) (sym (shows.pixels (k % picture.width) (k / picture.width) x y)) (solid.alphas (k % picture.width) (k / picture.width) x y))
            | inr none ↦
                let nothing : picture.width ≡ 0 = omega (arith, none) in
                absurd (empty k picture.width picture.height nothing below)
          ];
    }

-- what was found of the bytes is told of the picture
pub told_solid : (mark : Bool) (picture : Picture) (bytes : List ℕ) → ShowsPicture picture bytes → (IsTrue mark ↔ AreSolid (length bytes / 4) bytes) → TellsSolid mark picture
told_solid mark picture bytes shows found =
    let same = solid_picture picture bytes shows in
    record { told = (λ yes. same.0 (found.0 yes), λ solid. found.1 (same.1 solid)) }
