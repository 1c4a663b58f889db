-- The rounded product by shifts, and by a product.
use Rattle.std.proofs.Common.{◌≡◌, ℕ, ◌+◌, ◌-◌, ◌*◌, ◌/◌, ◌%◌, ◌≤◌, arith, Bool, true, false, cond, refl, subst, List, [], ◌∷◌, length}
use Rattle.std.specs.Prelude.{min}
use lib.Dec.{ltb}
use lib.Lanes.{top, zip2}
use lib.ListN.{replicate}
use Rattle.sf_base.specs.Blend.{product}
use Rattle.sf_rows.specs.inner.Channels.{capped_sum, mix}

-- a product of two channels
pub product_le : (x y : ℕ) → x ≤ 255 → y ≤ 255 → x * y ≤ 65025
product_le x y hx hy = grind arith

pub rounded_le : (p : ℕ) → p ≤ 65025 → (p + 127) / 255 ≤ 255
rounded_le p le = omega arith

pub product_small : (x y : ℕ) → x ≤ 255 → y ≤ 255 → product x y ≤ 255
unfolding product
product_small x y hx hy = rounded_le (x * y) (product_le x y hx hy)

-- one lane
pub lane_of : (p : ℕ) → p ≤ 65025 → (p % 65536 + 128) % 65536 * 257 % 4294967296 / 65536 ≡ (p + 127) / 255
lane_of p le = omega arith

pub one_lane : (x y : ℕ) → x ≤ 255 → y ≤ 255 → (x * y % 65536 + 128) % 65536 * 257 % 4294967296 / 65536 ≡ product x y
unfolding product
one_lane x y hx hy = lane_of (x * y) (product_le x y hx hy)

-- a sum that is capped by a comparison and a choice
capped_by : (x y : ℕ) (b : Bool) → x ≤ 255 → y ≤ 255 → ltb y (255 - x) ≡ b → (x + cond (top 7 (cond b 255 0)) y (255 - x)) % 256 ≡ min 255 (x + y)
capped_by x y true hx hy e = grind arith
capped_by x y false hx hy e = grind arith

pub one_capped : (x y : ℕ) → x ≤ 255 → y ≤ 255 → (x + cond (top 7 (cond (ltb y (255 - x)) 255 0)) y (255 - x)) % 256 ≡ capped_sum x y
unfolding capped_sum
one_capped x y hx hy = capped_by x y (ltb y (255 - x)) hx hy refl

-- products with 255
pub whole_right : (x : ℕ) → product x 255 ≡ x
unfolding product
whole_right x = omega arith

pub whole_left : (x : ℕ) → x ≤ 255 → product 255 x ≡ x
unfolding product
whole_left x h = omega arith

whole_lanes : (xs : List ℕ) → zip2 product xs (replicate (length xs) 255) ≡ xs
whole_lanes [] = refl
whole_lanes (x ∷ xs) = rw (whole_right x, whole_lanes xs) refl

pub by_whole : (xs : List ℕ) (n : ℕ) → length xs ≡ n → zip2 product xs (replicate n 255) ≡ xs
by_whole xs n long = subst (λ n. zip2 product xs (replicate n 255) ≡ xs) long (whole_lanes xs)

-- a share of a channel is no more than the share
times_le : (x s : ℕ) → x ≤ 255 → x * s ≤ 255 * s
times_le x s h = grind arith

pub share_le : (x s : ℕ) → x ≤ 255 → product x s ≤ s
unfolding product
share_le x s h = omega (arith, times_le x s h)

pub mix_small : (share x y : ℕ) → share ≤ 255 → x ≤ 255 → y ≤ 255 → mix share x y ≤ 255
unfolding mix
mix_small share x y hs hx hy = omega (arith, share_le x share hx, share_le y (255 - share) hy)

pub mix_lane : (share x y : ℕ) → share ≤ 255 → x ≤ 255 → y ≤ 255 → (product x share + product y (255 - share)) % 65536 ≡ mix share x y
unfolding mix
mix_lane share x y hs hx hy = omega (arith, share_le x share hx, share_le y (255 - share) hy)
