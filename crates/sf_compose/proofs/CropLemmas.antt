-- The pixels of a crop that stands at a place.
use Rattle.std.proofs.Common.{◌≡◌, ℕ, suc, ◌+◌, ◌-◌, ◌*◌, ◌<◌, ◌≤◌, Bool, true, false, ◌&&◌, List, refl, sym, ap, arith, ℤ, pos, negsuc, neg_ℤ, ◌+ℤ◌, ◌≤ℤ◌, int_le, int_lt}
use Rattle.std.proofs.lemmas.Bool.{true_from_ne_false}
use Rattle.std.proofs.lemmas.Int.{ints}
use Rattle.std.proofs.Math.Nat.{mul-le-mul_right}
use Rattle.sf_base.specs.declared.geometry.Rect.{Rect}
use Rattle.sf_damage.specs.sf_picture.declared.picture.Picture.{Picture}
use Rattle.sf_base.specs.Bytes.{pixel_in}
use Rattle.sf_damage.specs.sf_picture.Pixels.{pixel_at, ShowsPicture}
use Rattle.sf_damage.specs.sf_picture.Solid.{IsSolid}
use Rattle.sf_base.specs.Geometry.{is_within, LiesWithin}
use Rattle.sf_damage.specs.sf_view.Contents.{unsigned}
use Rattle.sf_compose.specs.declared.crop.Crop.{Crop}
use Rattle.sf_compose.specs.inner.Crops.{crop_pixel}

pub both_left : (a b : Bool) → (a && b) ≡ true → a ≡ true
both_left true b h = refl
both_left false b h = h

pub both_right : (a b : Bool) → (a && b) ≡ true → b ≡ true
both_right true b h = h
both_right false b h = cc

unsigned-is : (a : ℤ) → pos 0 ≤ℤ a → pos (unsigned a) ≡ a
unsigned-is (pos n) h = refl
unsigned-is (negsuc n) h = absurd (omega (arith, ints, h))

place_in-is : (at extent : ℕ) (place edge : ℤ) → is_within place extent (pos at) ≡ true → pos 0 ≤ℤ edge → pos (unsigned ((pos at +ℤ neg_ℤ place) +ℤ edge)) ≡ (pos at +ℤ neg_ℤ place) +ℤ edge
place_in-is at extent place edge within low =
    let p : int_le place (pos at) ≡ true = both_left _ _ within in
    unsigned-is _ (omega (arith, ints, p, low))

pub place_below : (at extent size : ℕ) (place edge : ℤ) → is_within place extent (pos at) ≡ true → pos 0 ≤ℤ edge → (edge +ℤ pos extent) ≤ℤ pos size → unsigned ((pos at +ℤ neg_ℤ place) +ℤ edge) < size
place_below at extent size place edge within low high =
    let p : int_le place (pos at) ≡ true = both_left _ _ within in
    let q : int_lt (pos at) (place +ℤ pos extent) ≡ true = both_right (int_le place (pos at)) _ within in
    let e = place_in-is at extent place edge within low in
    omega (arith, ints, p, q, e, high)

pub place_moved : (left at extent : ℕ) (place edge : ℤ) → left ≤ at → is_within place extent (pos left) ≡ true → pos 0 ≤ℤ edge → unsigned ((pos at +ℤ neg_ℤ place) +ℤ edge) ≡ unsigned ((pos left +ℤ neg_ℤ place) +ℤ edge) + (at - left)
place_moved left at extent place edge after within low =
    let p : int_le place (pos left) ≡ true = both_left _ _ within in
    let e = place_in-is left extent place edge within low in
    let f : pos (unsigned ((pos at +ℤ neg_ℤ place) +ℤ edge)) ≡ (pos at +ℤ neg_ℤ place) +ℤ edge = unsigned-is _ (omega (arith, ints, p, low, after)) in
    omega (arith, ints, e, f, after)

-- the columns of a row of a crop lie in its picture
pub columns_below : (left right extent size column : ℕ) (place edge : ℤ) → left < right → is_within place extent (pos left) ≡ true → is_within place extent (pos (right - 1)) ≡ true → pos 0 ≤ℤ edge → (edge +ℤ pos extent) ≤ℤ pos size → column ≡ unsigned ((pos left +ℤ neg_ℤ place) +ℤ edge) → column + (right - left) ≤ size
columns_below left right extent size column place edge ordered first last low high e =
    let b = place_below (right - 1) extent size place edge last low high in
    let m = place_moved left (right - 1) extent place edge (omega arith) first low in
    omega (arith, b, m, e)

-- rows lie one after another
pub row_room : (row column n w h : ℕ) → row < h → column + n ≤ w → (row * w + column) + n ≤ w * h
row_room row column n w h low narrow =
    let above : suc row * w ≤ h * w = mul-le-mul_right w low in
    let next : suc row * w ≡ row * w + w = omega arith in
    let oriented : h * w ≡ w * h = omega arith in
    omega (arith, above, next, oriented)

pub row_small : (row column w h : ℕ) → row < h → h ≤ 512 → w ≤ 512 → column ≤ w → row * w + column ≤ 262144
row_small row column w h low few narrow inside =
    let above : suc row * w ≤ 512 * w = mul-le-mul_right w (omega arith) in
    let next : suc row * w ≡ row * w + w = omega arith in
    omega (arith, above, next)

-- the pixels of a row of a crop are in its picture
pub crop_room : (picture : Picture) (rect : Rect) (across down : ℤ) (y left right from : ℕ) → LiesWithin rect picture.width picture.height → left < right → is_within across rect.width (pos left) ≡ true → is_within across rect.width (pos (right - 1)) ≡ true → is_within down rect.height (pos y) ≡ true → from ≡ unsigned ((pos y +ℤ neg_ℤ down) +ℤ rect.y) * picture.width + unsigned ((pos left +ℤ neg_ℤ across) +ℤ rect.x) → from + (right - left) ≤ picture.width * picture.height
crop_room picture rect across down y left right from lies ordered first last within is =
    let narrow = columns_below left right rect.width picture.width _ across rect.x ordered first last lies.across.low lies.across.high refl in
    let low = place_below y rect.height picture.height down rect.y within lies.down.low lies.down.high in
    rw is (row_room _ _ (right - left) picture.width picture.height low narrow)

-- and few
pub crop_small : (picture : Picture) (rect : Rect) (across down : ℤ) (y left from : ℕ) → LiesWithin rect picture.width picture.height → picture.height ≤ 512 → picture.width ≤ 512 → is_within across rect.width (pos left) ≡ true → is_within down rect.height (pos y) ≡ true → from ≡ unsigned ((pos y +ℤ neg_ℤ down) +ℤ rect.y) * picture.width + unsigned ((pos left +ℤ neg_ℤ across) +ℤ rect.x) → from ≤ 262144
crop_small picture rect across down y left from lies few narrow first within is =
    let column = place_below left rect.width picture.width across rect.x first lies.across.low lies.across.high in
    let low = place_below y rect.height picture.height down rect.y within lies.down.low lies.down.high in
    rw is (row_small _ _ picture.width picture.height low few narrow (omega (arith, column)))

-- the next row of a crop starts so many pixels further on as its picture is wide
pub next_row : (from w column y extent : ℕ) (place edge : ℤ) → is_within place extent (pos y) ≡ true → pos 0 ≤ℤ edge → from ≡ unsigned ((pos y +ℤ neg_ℤ place) +ℤ edge) * w + column → from + w ≡ unsigned ((pos (y + 1) +ℤ neg_ℤ place) +ℤ edge) * w + column
next_row from w column y extent place edge within low is =
    let moved = place_moved y (y + 1) extent place edge (omega arith) within low in
    let next : unsigned ((pos (y + 1) +ℤ neg_ℤ place) +ℤ edge) ≡ suc (unsigned ((pos y +ℤ neg_ℤ place) +ℤ edge)) = omega (arith, moved) in
    let row : unsigned ((pos (y + 1) +ℤ neg_ℤ place) +ℤ edge) * w ≡ suc (unsigned ((pos y +ℤ neg_ℤ place) +ℤ edge)) * w = ap (λ (n : ℕ). n * w) next in
    let more : suc (unsigned ((pos y +ℤ neg_ℤ place) +ℤ edge)) * w ≡ unsigned ((pos y +ℤ neg_ℤ place) +ℤ edge) * w + w = omega arith in
    omega (arith, is, row, more)

-- a pixel of a row of a crop
pub row_pixel : (picture : Picture) (bytes : List ℕ) (rect : Rect) (across down : ℤ) (y left right column row k : ℕ) → ShowsPicture picture bytes → LiesWithin rect picture.width picture.height → left < right → is_within across rect.width (pos left) ≡ true → is_within across rect.width (pos (right - 1)) ≡ true → is_within down rect.height (pos y) ≡ true → column ≡ unsigned ((pos left +ℤ neg_ℤ across) +ℤ rect.x) → row ≡ unsigned ((pos y +ℤ neg_ℤ down) +ℤ rect.y) → k < right - left → pixel_in bytes ((row * picture.width + column) + k) ≡ pixel_at picture (unsigned ((pos (left + k) +ℤ neg_ℤ across) +ℤ rect.x)) (unsigned ((pos y +ℤ neg_ℤ down) +ℤ rect.y))
row_pixel picture bytes rect across down y left right column row k shows lies ordered first last within is_column is_row low_k =
    let narrow = columns_below left right rect.width picture.width column across rect.x ordered first last lies.across.low lies.across.high is_column in
    let low : row < picture.height = rw is_row (place_below y rect.height picture.height down rect.y within lies.down.low lies.down.high) in
    let moved = place_moved left (left + k) rect.width across rect.x (omega arith) first lies.across.low in
    let there : unsigned ((pos (left + k) +ℤ neg_ℤ across) +ℤ rect.x) ≡ column + k = omega (arith, moved, is_column) in
    let at : (row * picture.width + column) + k ≡ row * picture.width + (column + k) = omega arith in
    rw (at, there, sym is_row) (shows.pixels (column + k) row (omega (arith, narrow, low_k)) low)

-- the rows of a crop that is as wide as its picture start at column 0
pub column_none : (width extent column : ℕ) (place edge : ℤ) → 0 < width → is_within place extent (pos 0) ≡ true → is_within place extent (pos (width - 1)) ≡ true → pos 0 ≤ℤ edge → (edge +ℤ pos extent) ≤ℤ pos width → column ≡ unsigned ((pos 0 +ℤ neg_ℤ place) +ℤ edge) → column ≡ 0
column_none width extent column place edge some first last low high is =
    let narrow = columns_below 0 width extent width column place edge some first last low high is in
    omega (arith, narrow)

-- so many rows further down is so many times a row further on
rows_on : (from top y w : ℕ) → top ≤ y → (from + (y - top)) * w ≡ from * w + (y - top) * w
rows_on from top y w down = omega arith

-- a pixel of rows of a crop that is as wide as its picture
pub rows_pixel : (picture : Picture) (bytes : List ℕ) (rect : Rect) (across down : ℤ) (w top x y from : ℕ) → w ≡ picture.width → ShowsPicture picture bytes → LiesWithin rect picture.width picture.height → 0 < w → is_within across rect.width (pos 0) ≡ true → is_within across rect.width (pos (w - 1)) ≡ true → is_within down rect.height (pos top) ≡ true → is_within down rect.height (pos y) ≡ true → from ≡ unsigned ((pos top +ℤ neg_ℤ down) +ℤ rect.y) * picture.width + unsigned ((pos 0 +ℤ neg_ℤ across) +ℤ rect.x) → x < w → top ≤ y → pixel_in bytes (from + ((y - top) * w + x)) ≡ pixel_at picture (unsigned ((pos x +ℤ neg_ℤ across) +ℤ rect.x)) (unsigned ((pos y +ℤ neg_ℤ down) +ℤ rect.y))
rows_pixel picture bytes rect across down w top x y from is_w shows lies some first last upper within is wide after =
    let column : unsigned ((pos 0 +ℤ neg_ℤ across) +ℤ rect.x) ≡ 0 = column_none w rect.width _ across rect.x some first last lies.across.low (rw is_w lies.across.high) refl in
    let low : unsigned ((pos y +ℤ neg_ℤ down) +ℤ rect.y) < picture.height = place_below y rect.height picture.height down rect.y within lies.down.low lies.down.high in
    let moved_down = place_moved top y rect.height down rect.y after upper lies.down.low in
    let moved_across = place_moved 0 x rect.width across rect.x (omega arith) first lies.across.low in
    let there : unsigned ((pos x +ℤ neg_ℤ across) +ℤ rect.x) ≡ x = omega (arith, moved_across, column) in
    let rows = rows_on (unsigned ((pos top +ℤ neg_ℤ down) +ℤ rect.y)) top y picture.width after in
    let row : unsigned ((pos y +ℤ neg_ℤ down) +ℤ rect.y) * picture.width ≡ (unsigned ((pos top +ℤ neg_ℤ down) +ℤ rect.y) + (y - top)) * picture.width = ap (λ (n : ℕ). n * picture.width) moved_down in
    let same : (y - top) * w ≡ (y - top) * picture.width = ap (λ (n : ℕ). (y - top) * n) is_w in
    let at : from + ((y - top) * w + x) ≡ unsigned ((pos y +ℤ neg_ℤ down) +ℤ rect.y) * picture.width + x = omega (arith, is, column, rows, row, same) in
    rw (at, there) (shows.pixels x (unsigned ((pos y +ℤ neg_ℤ down) +ℤ rect.y)) (omega (arith, wide, is_w)) low)

-- each pixel of a crop of a solid picture is solid
pub crop_solid : (picture : Picture) (rect : Rect) (across down : ℤ) (y left right at : ℕ) → IsSolid picture → LiesWithin rect picture.width picture.height → left < right → is_within across rect.width (pos left) ≡ true → is_within across rect.width (pos (right - 1)) ≡ true → is_within down rect.height (pos y) ≡ true → left ≤ at → at < right → (pixel_at picture (unsigned ((pos at +ℤ neg_ℤ across) +ℤ rect.x)) (unsigned ((pos y +ℤ neg_ℤ down) +ℤ rect.y))).a ≡ 255
crop_solid picture rect across down y left right at solid lies ordered first last within from to =
    let narrow = columns_below left right rect.width picture.width _ across rect.x ordered first last lies.across.low lies.across.high refl in
    let moved = place_moved left at rect.width across rect.x from first lies.across.low in
    let low = place_below y rect.height picture.height down rect.y within lies.down.low lies.down.high in
    solid.alphas _ _ (omega (arith, narrow, moved, to)) low

-- from the first pixel of rows to the first one of the last of them
pub rows_between : (from last w column r q top bottom : ℕ) → from ≡ r * w + column → last ≡ q * w + column → q ≡ r + ((bottom - 1) - top) → top < bottom → last ≡ from + ((bottom - 1) - top) * w
rows_between from last w column r q top bottom is_from is_last moved ordered =
    let row : q * w ≡ (r + ((bottom - 1) - top)) * w = ap (λ (n : ℕ). n * w) moved in
    let rows : (r + ((bottom - 1) - top)) * w ≡ r * w + ((bottom - 1) - top) * w = omega arith in
    omega (arith, is_from, is_last, row, rows)

pub rows_count : (w top bottom : ℕ) → top < bottom → ((bottom - 1) - top) * w + w ≡ (bottom - top) * w
rows_count w top bottom ordered =
    let one : bottom - top ≡ suc ((bottom - 1) - top) = omega arith in
    let more : suc ((bottom - 1) - top) * w ≡ ((bottom - 1) - top) * w + w = omega arith in
    let same : (bottom - top) * w ≡ suc ((bottom - 1) - top) * w = ap (λ (n : ℕ). n * w) one in
    omega (arith, more, same)

both_true : (a b : Bool) → a ≡ true → b ≡ true → (a && b) ≡ true
both_true a b p q = rw (p, q) refl

-- between two points of a span all are in it
pub within_between : (place : ℤ) (extent first last at : ℕ) → is_within place extent (pos first) ≡ true → is_within place extent (pos last) ≡ true → first ≤ at → at ≤ last → is_within place extent (pos at) ≡ true
within_between place extent first last at f l after before =
    let p : int_le place (pos first) ≡ true = both_left _ _ f in
    let q : int_lt (pos last) (place +ℤ pos extent) ≡ true = both_right (int_le place (pos last)) _ l in
    both_true _ _ (true_from_ne_false (int_le place (pos at)) (λ no. omega (arith, ints, p, after, no))) (true_from_ne_false (int_lt (pos at) (place +ℤ pos extent)) (λ no. omega (arith, ints, q, before, no)))

-- the pixel of a crop's row that is painted at a number of a frame, where the row starts at a pixel
pub shown_in_row : (picture : Picture) (crop : Crop) (left right y start x : ℕ) (pixels : List ℕ) → left ≤ x → x < right → ((k : ℕ) → k < right - left → pixel_in pixels k ≡ crop_pixel picture crop (left + k) y)
    → pixel_in pixels ((start + x) - (start + left)) ≡ crop_pixel picture crop x y
shown_in_row picture crop left right y start x pixels from to each =
    let place : (start + x) - (start + left) ≡ x - left = omega (arith, from) in
    let column : left + (x - left) ≡ x = omega (arith, from) in
    rw place (rw column at (each (x - left) (omega (arith, from, to))))
