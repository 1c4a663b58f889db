-- Channels of rows by their indices: what the kernels' inner steps compute, byte by byte.
use Rattle.std.specs.Prelude.{ℕ, ◌+◌, ◌-◌, ◌*◌, ◌/◌, ◌%◌, ◌<◌, ◌≤◌, ◌≡◌}
use Rattle.std.specs.Prelude.{min, List, ◌∷◌, [], length, slice_index, if◌then◌else◌, ◌==◌}
use Rattle.sf_base.specs.Blend.{product, blended}
use Rattle.sf_base.specs.declared.pixel.Rgba.{Rgba}

-- the index of the alpha of the pixel that has this channel
unfoldable pub alpha_index : ℕ → ℕ
alpha_index k = k / 4 * 4 + 3

-- channel k of a row of sources over a row of destinations
unfoldable pub row_channel : List ℕ → List ℕ → ℕ → ℕ → ℕ
row_channel dst src alpha k = blended (slice_index dst k) (slice_index src k) alpha (product (slice_index src (alpha_index k)) alpha)

-- channel k of a row of sources whose own alphas are taken as 255
unfoldable pub opaque_source : List ℕ → ℕ → ℕ
opaque_source src k = if k % 4 == 3 then 255 else slice_index src k

-- channel k of a row of such sources over a row of destinations
unfoldable pub opaque_channel : List ℕ → List ℕ → ℕ → ℕ → ℕ
opaque_channel dst src alpha k = blended (slice_index dst k) (opaque_source src k) alpha (product 255 alpha)

-- channel k of a row of one colour
unfoldable pub colour_part : Rgba → ℕ → ℕ
colour_part colour k = slice_index (colour.r ∷ colour.g ∷ colour.b ∷ colour.a ∷ []) (k % 4)

-- channel k of one colour over a row of destinations
unfoldable pub colour_channel : List ℕ → Rgba → ℕ → ℕ → ℕ
colour_channel dst colour alpha k = blended (slice_index dst k) (colour_part colour k) alpha (product colour.a alpha)

-- each channel before an index is what the rule says of it, and the rest is as it was
pub record PaintedUpTo (old : List ℕ) (channel : ℕ → ℕ) (at : ℕ) (new : List ℕ) : Type 0 where
  pub len : length new ≡ length old
  pub each : (k : ℕ) → k < at → slice_index new k ≡ channel k
  pub rest : (k : ℕ) → at ≤ k → slice_index new k ≡ slice_index old k

-- whole pixels were painted, up to an index
pub record PaintedPixels (old : List ℕ) (channel : ℕ → ℕ) (at : ℕ) (new : List ℕ) : Type 0 where
  pub whole : at % 4 ≡ 0
  pub within : at ≤ length old
  pub painted : PaintedUpTo old channel at new

-- a sum of two channels, 255 at most
unfoldable pub capped_sum : ℕ → ℕ → ℕ
capped_sum x y = min 255 (x + y)

-- a channel times a share of 255, plus another times what the share leaves
unfoldable pub mix : ℕ → ℕ → ℕ → ℕ
mix share x y = product x share + product y (255 - share)
