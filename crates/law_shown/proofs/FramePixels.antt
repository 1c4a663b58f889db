-- The pixels of a frame, and what a hit test finds there.
use Rattle.std.proofs.Common.{◌≡◌, ℕ, zero, suc, ◌+◌, ◌-◌, ◌*◌, ◌<◌, ◌≤◌, Bool, true, false, List, [], ◌∷◌, ◌++◌, length, get_or, Option, Some, None, pos, refl, sym, ap, subst, ◌∙◌, arith, inl, inr}
use Rattle.std.specs.Prelude.{if◌then◌else◌, ℤ}
use Rattle.std.specs.List.{flat_map, range_with_len}
use Rattle.std.proofs.lemmas.List.{get_or_append_left, get_or-append_right, length-append}
use Rattle.std.proofs.lemmas.Bool.Decides.{nat_tests}
use Rattle.sf_base.specs.Bytes.{pixel_in}
use Rattle.sf_base.specs.Geometry.{is_within}
use Rattle.sf_base.specs.declared.ids.LayerId.{LayerId}
use Rattle.sf_base.specs.declared.pixel.Rgba.{Rgba}
use Rattle.law_played.specs.sf_compose.Frames.{four_bytes, frame_bytes, row_bytes}
use Rattle.law_played.specs.sf_layer.declared.layer.Layer.{Layer}
use Rattle.law_played.specs.sf_output_plan.Due.{ImageDue, frame_due}
use Rattle.law_played.specs.sf_output_plan.declared.plan.Plan.{Plan}
use Rattle.law_played.specs.sf_output_shown.Copies.{written}
use Rattle.law_played.specs.sf_output_shown.Displays.{order_on}
use Rattle.law_played.specs.sf_output_shown.Hits.{front, hit_of}
use Rattle.law_played.specs.sf_picture.declared.picture.Picture.{Picture}
use Rattle.law_played.specs.sf_view.Image.{image_in, opaque_black}
use Rattle.law_played.specs.sf_view.Placements.{is_in_display}
use Rattle.law_played.specs.Frames.{frame_of}
use Rattle.law_images.specs.Seen.{IsSeenIn}
use Rattle.law_images.proofs.CopyCounts.{none_written}
use Rattle.law_images.proofs.FrontLemmas.{black_behind, seen_in_front}

-- the item at a place of lists of one length, one behind the other
in_rows : (row : ℕ → List ℕ) (n from many y j : ℕ) → ((k : ℕ) → length (row k) ≡ n) → y < many → j < n → get_or (flat_map row (range_with_len from many)) (y * n + j) 0 ≡ get_or (row (from + y)) j 0
in_rows row n from zero y j long low small = absurd (omega (arith, low))
in_rows row n from (suc many) zero j long low small =
    let here : 0 * n + j ≡ j = grind arith in
    let first : from ≡ from + 0 = omega arith in
    let fits : j < length (row from) = subst (λ k. j < k) (sym (long from)) small in
    ap (λ i. get_or (row from ++ flat_map row (range_with_len (from + 1) many)) i 0) here
    ∙ get_or_append_left (row from) (flat_map row (range_with_len (from + 1) many)) 0 j fits
    ∙ ap (λ k. get_or (row k) j 0) first
in_rows row n from (suc many) (suc y) j long low small =
    let past : n ≤ suc y * n + j = grind arith in
    let rest : (suc y * n + j) - n ≡ y * n + j = behind y n j in
    let next : (from + 1) + y ≡ from + suc y = omega arith in
    let fewer : y < many = omega (arith, low) in
    get_or-append_right (row from) (flat_map row (range_with_len (from + 1) many)) n (suc y * n + j) 0 (long from) past
    ∙ ap (λ i. get_or (flat_map row (range_with_len (from + 1) many)) i 0) rest
    ∙ in_rows row n (from + 1) many y j long fewer small
    ∙ ap (λ k. get_or (row k) j 0) next
  where
    behind : (y n j : ℕ) → (suc y * n + j) - n ≡ y * n + j
    behind y n j = let e : suc y * n ≡ n + y * n = grind arith in omega (arith, e)

row_long : (at : ℕ → Rgba) (from width : ℕ) → length (flat_map (λ x. four_bytes (at x)) (range_with_len from width)) ≡ width * 4
row_long at from zero = refl
row_long at from (suc width) = let rest = row_long at (from + 1) width in omega (arith, rest)

-- a byte of a frame
byte_at : (at : ℕ → ℕ → Rgba) (width height x y k : ℕ) → x < width → y < height → k < 4 → get_or (frame_bytes at width height) (4 * (y * width + x) + k) 0 ≡ get_or (four_bytes (at x y)) k 0
unfolding frame_bytes row_bytes
byte_at at width height x y k wide high small =
    let row : ℕ → List ℕ = λ y. flat_map (λ x. four_bytes (at x y)) (range_with_len 0 width) in
    let place : 4 * (y * width + x) + k ≡ y * (width * 4) + (x * 4 + k) = grind arith in
    let inside : x * 4 + k < width * 4 = omega (arith, wide, small) in
    ap (λ i. get_or (flat_map row (range_with_len 0 height)) i 0) place
    ∙ in_rows row (width * 4) 0 height y (x * 4 + k) (λ z. row_long (λ x. at x z) 0 width) high inside
    ∙ ap (λ z. get_or (row z) (x * 4 + k) 0) (from_0 y)
    ∙ in_rows (λ x. four_bytes (at x y)) 4 0 width x k (λ z. refl) wide small
    ∙ ap (λ z. get_or (four_bytes (at z y)) k 0) (from_0 x)
  where
    from_0 : (n : ℕ) → 0 + n ≡ n
    from_0 n = omega arith

-- a pixel of a frame
pub pixel_at : (at : ℕ → ℕ → Rgba) (width height x y : ℕ) → x < width → y < height → pixel_in (frame_bytes at width height) (y * width + x) ≡ at x y
pixel_at at width height x y wide high =
    let red = byte_at at width height x y 0 wide high (omega arith) in
    let green = byte_at at width height x y 1 wide high (omega arith) in
    let blue = byte_at at width height x y 2 wide high (omega arith) in
    let alpha = byte_at at width height x y 3 wide high (omega arith) in
    let first : get_or (frame_bytes at width height) (4 * (y * width + x)) 0 ≡ (at x y).r = ap (λ i. get_or (frame_bytes at width height) i 0) (and_0 (4 * (y * width + x))) ∙ red in
    λ i. record { r = first i; g = green i; b = blue i; a = alpha i }
  where
    and_0 : (n : ℕ) → n ≡ n + 0
    and_0 n = omega arith

-- the pixel of the scene's own display at a point, where there are no mirrors
frame_pixel : (pictures : ℕ → Picture) (plan : Plan) (layers : List Layer) (x y : ℕ) → plan.mirrors ≡ [] → x < plan.width → y < plan.height
    → pixel_in (frame_of pictures (frame_due plan (written layers plan.mirrors))) (y * plan.width + x) ≡ image_in pictures layers (order_on layers plan.stacks 0) (pos x) (pos y)
unfolding frame_of
frame_pixel pictures plan layers x y none wide high =
    let alone : written layers plan.mirrors ≡ layers = ap (written layers) none ∙ none_written layers in
    ap (λ (tree : List Layer). pixel_in (frame_of pictures (frame_due plan tree)) (y * plan.width + x)) alone
    ∙ pixel_at (λ x y. image_in pictures layers (order_on layers plan.stacks 0) (pos x) (pos y)) plan.width plan.height x y wide high

found : (layers : List Layer) (stacks : List (ℕ × ℕ)) (width height x y : ℕ) → is_in_display width height (pos x) (pos y) ≡ true
    → hit_of layers stacks width height (pos x) (pos y) ≡ front layers (order_on layers stacks 0) (pos x) (pos y)
found layers stacks width height x y inside = ap (λ (b : Bool). if b then front layers (order_on layers stacks 0) (pos x) (pos y) else None) inside

on_display : (width height x y : ℕ) → x < width → y < height → is_in_display width height (pos x) (pos y) ≡ true
on_display width height x y wide high = rw (inside width x wide, inside height y high) refl
  where
    inside : (extent at : ℕ) → at < extent → is_within (pos 0) extent (pos at) ≡ true
    inside extent at low = grind (arith, nat_tests)

pub hit_seen : (pictures : ℕ → Picture) (plan : Plan) (layers : List Layer) (x y : ℕ) → plan.mirrors ≡ [] → x < plan.width → y < plan.height
    → IsSeenIn pictures layers (pos x) (pos y) (pixel_in (frame_of pictures (frame_due plan (written layers plan.mirrors))) (y * plan.width + x)) (hit_of layers plan.stacks plan.width plan.height (pos x) (pos y))
hit_seen pictures plan layers x y none wide high =
    let inside = on_display plan.width plan.height x y wide high in
    rw (frame_pixel pictures plan layers x y none wide high, found layers plan.stacks plan.width plan.height x y inside) (seen_in_front pictures layers (order_on layers plan.stacks 0) (pos x) (pos y))

pub nothing_hit : (pictures : ℕ → Picture) (plan : Plan) (layers : List Layer) (x y : ℕ) → plan.mirrors ≡ [] → x < plan.width → y < plan.height
    → hit_of layers plan.stacks plan.width plan.height (pos x) (pos y) ≡ None → pixel_in (frame_of pictures (frame_due plan (written layers plan.mirrors))) (y * plan.width + x) ≡ opaque_black
nothing_hit pictures plan layers x y none wide high hit =
    let inside = on_display plan.width plan.height x y wide high in
    frame_pixel pictures plan layers x y none wide high
    ∙ black_behind pictures layers (order_on layers plan.stacks 0) (pos x) (pos y) (sym (found layers plan.stacks plan.width plan.height x y inside) ∙ hit)
