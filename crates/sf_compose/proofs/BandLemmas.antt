-- Bands of rows, and the frame that they are together.
use Rattle.std.proofs.Common.{◌≡◌, ℕ, ◌+◌, ◌-◌, ◌*◌, ◌<◌, ◌≤◌, ◌++◌, Bool, List, length, get_or, ap, ◌∙◌, inl, inr, sym, arith}
use Rattle.std.proofs.lemmas.Bool.{cases_lt}
use Rattle.std.proofs.lemmas.List.{get_or_append_left, get_or-append_right, length-append}
use Rattle.std.proofs.Math.Nat.{mul-le-mul_right}
use Rattle.sf_base.specs.Bytes.{pixel_in}
use Rattle.sf_base.specs.declared.pixel.Rgba.{Rgba}
use Rattle.sf_compose.specs.declared.band.Band.{Band}
use Rattle.sf_compose.specs.inner.Bands.{HasRows, IsCut}
use Rattle.sf_compose.specs.Frames.{Repaints}
use Rattle.sf_compose.proofs.SpanLemmas.{pixel_same}

-- a pixel of the first rows
first_pixel : (a b : List ℕ) (w rows y x : ℕ) → length a ≡ 4 * (rows * w) → y < rows → x < w → pixel_in (a ++ b) (y * w + x) ≡ pixel_in a (y * w + x)
first_pixel a b w rows y x long low wide = pixel_same _ _ (y * w + x) (y * w + x) (λ c small.
    let above : (y + 1) * w ≤ rows * w = mul-le-mul_right w (omega (arith, low)) in
    let next : (y + 1) * w ≡ y * w + w = omega arith in
    get_or_append_left a b 0 (4 * (y * w + x) + c) (omega (arith, long, above, next, wide, small)))

-- and one of those below them
later_pixel : (a b : List ℕ) (w rows y x : ℕ) → length a ≡ 4 * (rows * w) → rows ≤ y → pixel_in (a ++ b) (y * w + x) ≡ pixel_in b ((y - rows) * w + x)
later_pixel a b w rows y x long high = pixel_same _ _ (y * w + x) ((y - rows) * w + x) (λ c small.
    let sum : y * w ≡ (rows + (y - rows)) * w = ap (λ n. n * w) (omega (arith, high)) in
    let split : (rows + (y - rows)) * w ≡ rows * w + (y - rows) * w = omega arith in
    let place : (4 * (y * w + x) + c) - 4 * (rows * w) ≡ 4 * ((y - rows) * w + x) + c = omega (arith, sum, split) in
    get_or-append_right a b (4 * (rows * w)) (4 * (y * w + x) + c) 0 long (omega (arith, sum, split)) ∙ ap (λ n. get_or b n 0) place)

-- two bands that were repainted are one that was
pub Repaints-both : (w top middle bottom : ℕ) (test : ℕ → ℕ → Bool) (image : ℕ → ℕ → Rgba) (a b c d : List ℕ) → top ≤ middle → length a ≡ 4 * ((middle - top) * w) → Repaints w top middle test image a c → Repaints w middle bottom test image b d → Repaints w top bottom test image (a ++ b) (c ++ d)
Repaints-both w top middle bottom test image a b c d ordered long one other = record {
  size = length-append c d ∙ (ap (λ n. n + length d) one.size ∙ (ap (λ n. length a + n) other.size ∙ back));
  pixels = λ x y wide low high. elim (cases_lt y middle) [
    | inl above ↦
        let after : pixel_in (c ++ d) ((y - top) * w + x) ≡ pixel_in c ((y - top) * w + x) = first_pixel c d w (middle - top) (y - top) x (one.size ∙ long) (omega (arith, low, above)) wide in
        let before : pixel_in (a ++ b) ((y - top) * w + x) ≡ pixel_in a ((y - top) * w + x) = first_pixel a b w (middle - top) (y - top) x long (omega (arith, low, above)) wide in
        rw (after, before) (one.pixels x y wide low above)
    | inr below ↦
        let apart : (y - top) - (middle - top) ≡ y - middle = omega (arith, ordered, below) in
        let after : pixel_in (c ++ d) ((y - top) * w + x) ≡ pixel_in d ((y - middle) * w + x) = rw apart at (later_pixel c d w (middle - top) (y - top) x (one.size ∙ long) (omega (arith, ordered, below))) in
        let before : pixel_in (a ++ b) ((y - top) * w + x) ≡ pixel_in b ((y - middle) * w + x) = rw apart at (later_pixel a b w (middle - top) (y - top) x long (omega (arith, ordered, below))) in
        rw (after, before) (other.pixels x y wide below high)
  ];
}
  where
    back : length a + length b ≡ length (a ++ b)
    back = sym (length-append a b)

-- where a band is cut, the bytes behind those of the first rows are those of the rows below them
pub HasRows-below : (band first below : Band) (bytes later : List ℕ) → IsCut band first below → HasRows band bytes → length later + 4 * ((first.bottom - first.top) * first.width) ≡ length bytes → HasRows below later
HasRows-below band first below bytes later cut rows left =
    let end : below.bottom ≡ band.bottom = ap (λ (it : Band). it.bottom) cut.below_is in
    let wide : below.width ≡ band.width = ap (λ (it : Band). it.width) cut.below_is in
    let top : first.top ≡ band.top = ap (λ (it : Band). it.top) cut.first_is in
    let bottom : first.bottom ≡ below.top = ap (λ (it : Band). it.bottom) cut.first_is in
    let width : first.width ≡ band.width = ap (λ (it : Band). it.width) cut.first_is in
    let took : length later + 4 * ((below.top - band.top) * band.width) ≡ length bytes = rw (bottom, top, width) at left in
    let some = cut.some in
    let within = cut.within in
    let sum : (band.bottom - band.top) * band.width ≡ ((below.top - band.top) + (band.bottom - below.top)) * band.width = ap (λ n. n * band.width) (omega (arith, some, within)) in
    let split : ((below.top - band.top) + (band.bottom - below.top)) * band.width ≡ (below.top - band.top) * band.width + (band.bottom - below.top) * band.width = omega arith in
    let size = rows.size in
    record { size = rw (end, wide) (omega (arith, took, sum, split, size)) }

-- and where both were repainted, the band was
pub Repaints-cut : (band first below : Band) (test : ℕ → ℕ → Bool) (image : ℕ → ℕ → Rgba) (old new a b c d : List ℕ) → IsCut band first below → length a ≡ 4 * ((first.bottom - first.top) * first.width) → old ≡ a ++ b → new ≡ c ++ d → Repaints first.width first.top first.bottom test image a c → Repaints below.width below.top below.bottom test image b d → Repaints band.width band.top band.bottom test image old new
Repaints-cut band first below test image old new a b c d cut long is_old is_new one other =
    let end : below.bottom ≡ band.bottom = ap (λ (it : Band). it.bottom) cut.below_is in
    let wide : below.width ≡ band.width = ap (λ (it : Band). it.width) cut.below_is in
    let top : first.top ≡ band.top = ap (λ (it : Band). it.top) cut.first_is in
    let bottom : first.bottom ≡ below.top = ap (λ (it : Band). it.bottom) cut.first_is in
    let width : first.width ≡ band.width = ap (λ (it : Band). it.width) cut.first_is in
    let some = cut.some in
    rw (is_old, is_new) (Repaints-both band.width band.top below.top band.bottom test image a b c d (omega (arith, some)) (rw (bottom, top, width) at long)
    (rw (bottom, top, width) at one) (rw (end, wide) at other))
