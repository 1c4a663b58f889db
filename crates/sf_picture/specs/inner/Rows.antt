-- A row of a picture that is painted from its last fill to its first.
use Rattle.std.specs.Prelude.{◌≡◌, ℕ, ◌+◌, ◌*◌, ◌<◌, ◌≤◌, List, length, slice_index, take}
use Rattle.sf_base.specs.Bytes.{pixel_in}
use Rattle.sf_base.specs.declared.pixel.Rgba.{Rgba}
use Rattle.sf_picture.specs.Pixels.{colour_at, pixel_at}
use Rattle.sf_picture.specs.declared.picture.Picture.{Picture}

-- the pixels that a table says are painted, from a pixel on, are so in the table itself
pub record LeapsOverPainted (leaps : List ℕ) : Type 0 where
  pub over : (i j : ℕ) → i ≤ j → j < i + slice_index leaps i → 0 < slice_index leaps j

-- the pixels from one on and before another are painted, too
pub record Marks (old new : List ℕ) (left right : ℕ) : Type 0 where
  pub size : length new ≡ length old
  pub inside : (i : ℕ) → left ≤ i → i < right → 0 < slice_index new i
  pub before : (i : ℕ) → i < left → slice_index new i ≡ slice_index old i
  pub behind : (i : ℕ) → right ≤ i → slice_index new i ≡ slice_index old i
  pub leaps : LeapsOverPainted new

-- while a table is marked up to a pixel
pub record MarksTo (old new : List ℕ) (left at right : ℕ) : Type 0 where
  pub size : length new ≡ length old
  pub inside : (i : ℕ) → left ≤ i → i < at → 0 < slice_index new i
  pub before : (i : ℕ) → i < left → slice_index new i ≡ slice_index old i
  pub behind : (i : ℕ) → at ≤ i → slice_index new i ≡ slice_index old i
  pub reach : (i j : ℕ) → right ≤ j → j < i + slice_index new i → j < i + slice_index old i

-- of a row that starts at a pixel, the bare pixels from one on and before another have the colour, and no other changed
pub record PaintsBare (leaps old new : List ℕ) (first left right : ℕ) (colour : Rgba) : Type 0 where
  pub bare : (i : ℕ) → left ≤ i → i < right → slice_index leaps i ≡ 0 → pixel_in new (first + i) ≡ colour
  pub painted : (i : ℕ) → left ≤ i → i < right → 0 < slice_index leaps i → pixel_in new (first + i) ≡ pixel_in old (first + i)
  pub below : (n : ℕ) → n < first + left → pixel_in new n ≡ pixel_in old n
  pub above : (n : ℕ) → first + right ≤ n → pixel_in new n ≡ pixel_in old n

-- each of so many pixels is painted
pub record ArePainted (leaps : List ℕ) (count : ℕ) : Type 0 where
  pub each : (i : ℕ) → i < count → 0 < slice_index leaps i

-- what was painted still is
pub record KeepsPainted (old new : List ℕ) : Type 0 where
  pub size : length new ≡ length old
  pub each : (i : ℕ) → 0 < slice_index old i → 0 < slice_index new i

-- the painted pixels of a row are the picture's, and the first so many fills determine the bare ones
pub record ShowsMarked (picture : Picture) (count y : ℕ) (leaps bytes : List ℕ) : Type 0 where
  pub painted : (x : ℕ) → x < picture.width → 0 < slice_index leaps x → pixel_in bytes (y * picture.width + x) ≡ pixel_at picture x y
  pub bare : (x : ℕ) → x < picture.width → slice_index leaps x ≡ 0 → colour_at picture.fills x y ≡ colour_at (take count picture.fills) x y

-- the pixels of a row are the picture's
pub record ShowsRow (picture : Picture) (y : ℕ) (bytes : List ℕ) : Type 0 where
  pub pixels : (x : ℕ) → x < picture.width → pixel_in bytes (y * picture.width + x) ≡ pixel_at picture x y

-- no pixel but those of a row changed
pub record KeepsRows (width y : ℕ) (old new : List ℕ) : Type 0 where
  pub below : (n : ℕ) → n < y * width → pixel_in new n ≡ pixel_in old n
  pub above : (n : ℕ) → y * width + width ≤ n → pixel_in new n ≡ pixel_in old n

-- the pixels of so many rows are the picture's
pub record ShowsRows (picture : Picture) (count : ℕ) (bytes : List ℕ) : Type 0 where
  pub pixels : (x y : ℕ) → x < picture.width → y < count → pixel_in bytes (y * picture.width + x) ≡ pixel_at picture x y
