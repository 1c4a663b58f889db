-- Pixels that leave nothing of what they are painted over.
use Rattle.std.specs.Prelude.{◌≡◌, ℕ, ◌<◌, ◌≤◌, ◌/◌, ◌%◌, List, length}
use Rattle.sf_base.specs.Bytes.{pixel_in}

-- the pixels below a number are those of a source, where their alphas are 255
pub record CopiesBelow (number : ℕ) (source new : List ℕ) : Type 0 where
  pub same : (k : ℕ) → k < number → pixel_in new k ≡ pixel_in source k
  pub solid : (k : ℕ) → k < number → (pixel_in source k).a ≡ 255

-- so many bytes, of whole pixels, are copied from a row of such sources
pub record CopiesTo (at : ℕ) (source new : List ℕ) : Type 0 where
  pub whole : at % 4 ≡ 0
  pub within : at ≤ length source
  pub size : length new ≡ length source
  pub copied : CopiesBelow (at / 4) source new
