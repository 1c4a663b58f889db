-- The bytes of rows and of frames.
use Rattle.std.proofs.Common.{◌≡◌, ℕ, zero, suc, ◌+◌, ◌*◌, ◌<◌, ◌≤◌, List, [], ◌∷◌, ◌++◌, length, get_or, take, refl, ap, ◌∙◌, sym, subst, append_assoc, arith}
use Rattle.std.specs.List.{flat_map, range_with_len}
use Rattle.std.proofs.lemmas.Grind.{flat_map-append}
use Rattle.std.proofs.lemmas.List.{append-nil, take_more}
use Rattle.sf_base.specs.Bytes.{pixel_in}
use Rattle.std.proofs.Math.Seq.{take-append_seam}
use Rattle.sf_compose.proofs.LayerLemmas.{take_whole}
use Rattle.sf_base.specs.declared.pixel.Rgba.{Rgba}
use Rattle.sf_compose.specs.Frames.{four_bytes, frame_bytes, row_bytes}

range-more : (from n : ℕ) → range_with_len from (suc n) ≡ range_with_len from n ++ (from + n) ∷ []
range-more from zero = let same : from ≡ from + 0 = omega arith in ap (λ (k : ℕ). k ∷ []) same
range-more from (suc n) =
    let same : (from + 1) + n ≡ from + suc n = omega arith in
    ap (λ (ks : List ℕ). from ∷ ks) (range-more (from + 1) n ∙ ap (λ (k : ℕ). range_with_len (from + 1) n ++ k ∷ []) same)

flat_map-more : (f : ℕ → List ℕ) (n : ℕ) → flat_map f (range_with_len 0 (n + 1)) ≡ flat_map f (range_with_len 0 n) ++ f n
flat_map-more f n =
    let next : n + 1 ≡ suc n = omega arith in
    let last : 0 + n ≡ n = omega arith in
    ap (λ (k : ℕ). flat_map f (range_with_len 0 k)) next
    ∙ (ap (flat_map f) (range-more 0 n ∙ ap (λ (k : ℕ). range_with_len 0 n ++ k ∷ []) last)
    ∙ (flat_map-append f (range_with_len 0 n) (n ∷ []) ∙ ap (λ (bytes : List ℕ). flat_map f (range_with_len 0 n) ++ bytes) (append-nil (f n))))

flat_map-same : (f g : ℕ → List ℕ) (from n : ℕ) → ((k : ℕ) → from ≤ k → k < from + n → f k ≡ g k) → flat_map f (range_with_len from n) ≡ flat_map g (range_with_len from n)
flat_map-same f g from zero same = refl
flat_map-same f g from (suc n) same =
    ap (λ (bytes : List ℕ). bytes ++ flat_map f (range_with_len (from + 1) n)) (same from (omega arith) (omega arith))
    ∙ ap (λ (bytes : List ℕ). g from ++ bytes) (flat_map-same f g (from + 1) n (λ k low high. same k (omega arith) (omega arith)))

-- a row grows by a pixel
pub row-more : (at : ℕ → Rgba) (n : ℕ) → row_bytes at (n + 1) ≡ row_bytes at n ++ four_bytes (at n)
unfolding row_bytes
row-more at n = flat_map-more (λ x. four_bytes (at x)) n

pub row-none : (at : ℕ → Rgba) (bytes : List ℕ) → bytes ≡ bytes ++ row_bytes at 0
unfolding row_bytes
row-none at bytes = sym (append-nil bytes)

-- a frame grows by a row
pub frame-more : (at : ℕ → ℕ → Rgba) (width n : ℕ) → frame_bytes at width (n + 1) ≡ frame_bytes at width n ++ row_bytes (λ x. at x n) width
unfolding frame_bytes
frame-more at width n = flat_map-more (λ y. row_bytes (λ x. at x y) width) n

pub frame-none : (at : ℕ → ℕ → Rgba) (width : ℕ) → [] ≡ frame_bytes at width 0
unfolding frame_bytes
frame-none at width = refl

-- images that agree on the display have one frame
pub frame_bytes-same : (f g : ℕ → ℕ → Rgba) (width height : ℕ) → ((x y : ℕ) → x < width → y < height → f x y ≡ g x y) → frame_bytes f width height ≡ frame_bytes g width height
unfolding frame_bytes row_bytes
frame_bytes-same f g width height same =
    flat_map-same (λ y. row_bytes (λ x. f x y) width) (λ y. row_bytes (λ x. g x y) width) 0 height
    (λ y low high. flat_map-same (λ x. four_bytes (f x y)) (λ x. four_bytes (g x y)) 0 width (λ x left right. ap four_bytes (same x y (omega arith) (omega arith))))

four_appended : (front : List ℕ) (r g b a : ℕ) → (((front ++ r ∷ []) ++ g ∷ []) ++ b ∷ []) ++ a ∷ [] ≡ front ++ r ∷ g ∷ b ∷ a ∷ []
four_appended [] r g b a = refl
four_appended (x ∷ xs) r g b a = ap (λ (ys : List ℕ). x ∷ ys) (four_appended xs r g b a)

-- bytes grow by a pixel
four-more : (bytes : List ℕ) (i : ℕ) → 4 * (i + 1) ≤ length bytes → take (4 * (i + 1)) bytes ≡ take (4 * i) bytes ++ four_bytes (pixel_in bytes i)
four-more bytes i room =
    let second : (4 * i + 1) + 1 ≡ 4 * i + 2 = omega arith in
    let third : (4 * i + 2) + 1 ≡ 4 * i + 3 = omega arith in
    let fourth : (4 * i + 3) + 1 ≡ 4 * (i + 1) = omega arith in
    let r : take (4 * i + 1) bytes ≡ take (4 * i) bytes ++ get_or bytes (4 * i) 0 ∷ [] = take_more bytes (4 * i) 0 (omega arith) in
    let g : take (4 * i + 2) bytes ≡ take (4 * i + 1) bytes ++ get_or bytes (4 * i + 1) 0 ∷ [] = subst (λ (n : ℕ). take n bytes ≡ take (4 * i + 1) bytes ++ get_or bytes (4 * i + 1) 0 ∷ []) second (take_more bytes (4 * i + 1) 0 (omega arith)) in
    let b : take (4 * i + 3) bytes ≡ take (4 * i + 2) bytes ++ get_or bytes (4 * i + 2) 0 ∷ [] = subst (λ (n : ℕ). take n bytes ≡ take (4 * i + 2) bytes ++ get_or bytes (4 * i + 2) 0 ∷ []) third (take_more bytes (4 * i + 2) 0 (omega arith)) in
    let a : take (4 * (i + 1)) bytes ≡ take (4 * i + 3) bytes ++ get_or bytes (4 * i + 3) 0 ∷ [] = subst (λ (n : ℕ). take n bytes ≡ take (4 * i + 3) bytes ++ get_or bytes (4 * i + 3) 0 ∷ []) fourth (take_more bytes (4 * i + 3) 0 (omega arith)) in
    a
    ∙ (ap (λ (front : List ℕ). front ++ get_or bytes (4 * i + 3) 0 ∷ []) (b
    ∙ ap (λ (front : List ℕ). front ++ get_or bytes (4 * i + 2) 0 ∷ []) (g
    ∙ ap (λ (front : List ℕ). front ++ get_or bytes (4 * i + 1) 0 ∷ []) r))
    ∙ four_appended (take (4 * i) bytes) (get_or bytes (4 * i) 0) (get_or bytes (4 * i + 1) 0) (get_or bytes (4 * i + 2) 0) (get_or bytes (4 * i + 3) 0))

-- the first pixels of a row
row_prefix : (bytes before : List ℕ) (at : ℕ → Rgba) (base x : ℕ) → 4 * (base + x) ≤ length bytes → take (4 * base) bytes ≡ before → ((k : ℕ) → k < x → pixel_in bytes (base + k) ≡ at k) → take (4 * (base + x)) bytes ≡ before ++ row_bytes at x
row_prefix bytes before at base zero room start pixels =
    let same : base + 0 ≡ base = omega arith in
    rw same (start ∙ row-none at before)
row_prefix bytes before at base (suc x) room start pixels =
    let next : base + suc x ≡ (base + x) + 1 = omega arith in
    let more : suc x ≡ x + 1 = omega arith in
    let first : take (4 * (base + x)) bytes ≡ before ++ row_bytes at x = row_prefix bytes before at base x (omega arith) start (λ k h. pixels k (omega arith)) in
    let one : pixel_in bytes (base + x) ≡ at x = pixels x (omega arith) in
    ap (λ (n : ℕ). take (4 * n) bytes) next
    ∙ (four-more bytes (base + x) (omega arith)
    ∙ (ap (λ (p : Rgba). take (4 * (base + x)) bytes ++ four_bytes p) one
    ∙ (ap (λ (front : List ℕ). front ++ four_bytes (at x)) first
    ∙ (append_assoc before (row_bytes at x) (four_bytes (at x))
    ∙ ap (λ (bytes : List ℕ). before ++ bytes) (sym (row-more at x) ∙ ap (row_bytes at) (sym more))))))

-- the first rows of a frame
frame_prefix : (bytes : List ℕ) (at : ℕ → ℕ → Rgba) (width y : ℕ) → 4 * (y * width) ≤ length bytes → ((a b : ℕ) → a < width → b < y → pixel_in bytes (b * width + a) ≡ at a b) → take (4 * (y * width)) bytes ≡ frame_bytes at width y
frame_prefix bytes at width zero room pixels = let none : 4 * (0 * width) ≡ 0 = omega arith in rw none (frame-none at width)
frame_prefix bytes at width (suc y) room pixels =
    let next : suc y * width ≡ y * width + width = omega arith in
    let more : suc y ≡ y + 1 = omega arith in
    let first : take (4 * (y * width)) bytes ≡ frame_bytes at width y = frame_prefix bytes at width y (omega (arith, room, next)) (λ a b wide high. pixels a b wide (omega arith)) in
    ap (λ (n : ℕ). take (4 * n) bytes) next
    ∙ (row_prefix bytes (frame_bytes at width y) (λ x. at x y) (y * width) width (omega (arith, room, next)) first (λ k h. pixels k y h (omega arith))
    ∙ (sym (frame-more at width y) ∙ ap (frame_bytes at width) (sym more)))

-- bytes that have the pixels of an image are its frame
pub frame-from : (bytes : List ℕ) (at : ℕ → ℕ → Rgba) (width height : ℕ) → length bytes ≡ 4 * (width * height) → ((x y : ℕ) → x < width → y < height → pixel_in bytes (y * width + x) ≡ at x y) → bytes ≡ frame_bytes at width height
frame-from bytes at width height size pixels =
    let oriented : height * width ≡ width * height = omega arith in
    let all : 4 * (height * width) ≡ length bytes = omega (arith, size, oriented) in
    sym (take_whole bytes (4 * (height * width)) all) ∙ frame_prefix bytes at width height (omega (arith, all)) pixels

-- a vector that was written through a slice
pub written : (new rest : List ℕ) (n : ℕ) → n ≡ length new → take n (new ++ rest) ≡ new
written new rest n e = rw e (take-append_seam new rest)
