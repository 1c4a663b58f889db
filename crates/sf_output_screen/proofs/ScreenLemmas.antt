-- Frames of views, whole and composed again.
use Rattle.std.proofs.Common.{◌≡◌, ℕ, ◌-◌, ◌<◌, ◌≤◌, Option, Some, None, get_or, inl, inr, refl, subst, sym, ℤ, Ok, Err, Result, List, [], ◌++◌, OnOk, ap, arith, drop, length, length-append, length-drop, length-take, pos, take, ◌∙◌}
use Rattle.std.specs.Prelude.{nat_lt, slice_get}
use Rattle.std.specs.List.{position, position_or_len}
use Rattle.std.specs.Option.{option_map_or}
use Rattle.std.proofs.lemmas.Bool.{cases_Bool, ltb-false, ltb-true}
use Rattle.std.proofs.lemmas.List.Folds.{find_at}
use Rattle.std.proofs.lemmas.Option.{none-some, same_Some, slice_get_past, slice_get_read}
use Rattle.std.proofs.lemmas.List.{append-nil, drop_all, drop_at, length-take-le, take_all, take_at}
use borrow.Rule.Slice.PartMut.{post_of, put_mid}
use Rattle.sf_base.specs.Geometry.{covers}
use Rattle.sf_base.specs.declared.geometry.Rect.{Rect}
use Rattle.sf_compose.specs.Again.{ShowsView}
use Rattle.sf_compose.specs.Frames.{KeepsRest, ShowsPart}
use Rattle.sf_compose.specs.Readings.{read_image}
use Rattle.sf_compose.specs.Sources.{HasSources}
use Rattle.sf_compose.proofs.AgainLemmas.{composed_again}
use Rattle.sf_compose.proofs.FrameLemmas.{covers_display}
use Rattle.sf_compose.proofs.ReadingLemmas.{read_image-same}
use Rattle.sf_compose.proofs.RowLemmas.{frame-from}
use Rattle.sf_compose.specs.sf_damage.Damage.{Damages}
use Rattle.sf_compose.specs.sf_picture.declared.picture.Picture.{Picture}
use Rattle.sf_compose.specs.sf_region.Points.{has}
use Rattle.sf_output.specs.declared.image.ImageId.{ImageId}
use Rattle.sf_output_screen.specs.ScreenLists.{bare_screen, is_of, screen_of}
use Rattle.sf_output_screen.specs.declared.screens.OutputScreen.{OutputScreen}
use Rattle.sf_output_screen.specs.Screens.{IsSameSize, IsWhole, image_bytes}
use Rattle.sf_compose.specs.sf_view.Stacks.{view_image}
use Rattle.sf_compose.specs.sf_view.Views.{ViewOf}

pub on_ok : {T E : Type 0} (P Q : Type 0) (r : Result T E) → (P → Q) → OnOk r P → OnOk r Q
on_ok P Q (Ok x) f p = f p
on_ok P Q (Err e) f p = p

-- a part that is the whole display shows the view
pub whole_shows : (picture : ℕ → Picture) (view : ViewOf) (contents : List Picture) (sources : List ℕ) (part : List Rect) (frame : List ℕ)
    → ((x y : ℤ) → has part x y ≡ covers (record { x = pos 0; y = pos 0; width = view.width; height = view.height }) x y)
    → HasSources picture view contents sources → ShowsPart view part (read_image contents view sources) frame → ShowsView picture view frame
whole_shows picture view contents sources part frame all has_sources shown = record {
  pixels = λ x y wide high.
      shown.pixels x y wide high (all (pos x) (pos y) ∙ covers_display view.width view.height x y wide high)
      ∙ read_image-same picture view contents sources x y has_sources;
}

-- what differs was composed over the old frame
pub again_shows : (picture : ℕ → Picture) (old new : ViewOf) (contents : List Picture) (sources : List ℕ) (part : List Rect) (before after : List ℕ)
    → IsSameSize before new old → Damages old new part → ShowsPart new part (read_image contents new sources) after → KeepsRest new part before after
    → HasSources picture new contents sources → ShowsView picture old before → ShowsView picture new after
again_shows picture old new contents sources part before after same damage shown rest has_sources last =
    composed_again picture old new part before after (record {
      wide = same.wide;
      high = same.high;
      damage = damage;
      last = last;
      shown = record { pixels = λ x y wide high at. shown.pixels x y wide high at ∙ read_image-same picture new contents sources x y has_sources };
      rest = rest;
    })

-- a whole frame that shows a view has its bytes
pub shown_bytes : (picture : ℕ → Picture) (view : ViewOf) (frame : List ℕ) → IsWhole view frame → ShowsView picture view frame → frame ≡ image_bytes picture view
unfolding image_bytes
shown_bytes picture view frame whole shown =
    frame-from frame (λ x y. view_image picture view (pos x) (pos y)) view.width view.height whole shown.pixels

-- what is put behind the first eight bytes, to the end
pub put_behind : (xs ys : List ℕ) → 8 ≤ length xs → length ys ≡ length xs - 8 → put_mid 8 (length xs - 8) xs ys ≡ take 8 xs ++ ys
put_behind xs ys room len =
    let rest : post_of 8 (length xs - 8) xs ≡ [] = drop_all (length xs - 8) (drop 8 xs) (omega (arith, length-drop 8 xs)) in
    ap (λ (l : List ℕ). take 8 xs ++ (ys ++ l)) rest ∙ ap (λ (l : List ℕ). take 8 xs ++ l) (append-nil ys)

-- is there
pub behind : (xs ys : List ℕ) → 8 ≤ length xs → length ys ≡ length xs - 8 → drop 8 (put_mid 8 (length xs - 8) xs ys) ≡ ys
behind xs ys room len = ap (λ (l : List ℕ). drop 8 l) (put_behind xs ys room len) ∙ drop_at (take 8 xs) ys 8 (length-take-le 8 xs room)

-- as many bytes as there were
pub again_long : (xs ys : List ℕ) → length ys ≡ length (take (length xs - 8) (drop 8 xs)) → length ys ≡ length xs - 8
again_long xs ys long = omega (arith, long, length-drop 8 xs, length-take (length xs - 8) (drop 8 xs))

-- a part that goes to the end is all that is behind its beginning
pub all_behind : (xs : List ℕ) → take (length xs - 8) (drop 8 xs) ≡ drop 8 xs
all_behind xs = take_all (length xs - 8) (drop 8 xs) (omega (arith, length-drop 8 xs))

-- what was composed behind the first eight bytes of a block is there when the block is written back
pub composed_behind : (xs ys old : List ℕ) (len : ℕ) → length xs ≡ len → 8 ≤ len → length ys ≡ len - 8
    → drop 8 (take len (put_mid 8 (length xs - 8) xs ys ++ drop (length (put_mid 8 (length xs - 8) xs ys)) old)) ≡ ys
composed_behind xs ys old len long room part =
    let there = put_behind xs ys (omega (arith, long, room)) (omega (arith, long, part)) in
    let put : length (put_mid 8 (length xs - 8) xs ys) ≡ len =
    ap length there ∙ omega (arith, length-append (take 8 xs) ys, length-take-le 8 xs (omega (arith, long, room)), part, room) in
    ap (λ (l : List ℕ). drop 8 l) (take_at (put_mid 8 (length xs - 8) xs ys) _ len put)
    ∙ behind xs ys (omega (arith, long, room)) (omega (arith, long, part))

-- the screen of an image by its index among all, or the bare one where it has none
pub own_at : (screens : List OutputScreen) (of : ImageId) (index : ℕ) (one : OutputScreen) → Some index ≡ position (is_of of) screens → one ≡ get_or screens index one → one.screen ≡ screen_of screens of
own_at screens of index one e is = elim (cases_Bool (nat_lt (position_or_len (is_of of) screens) (length screens))) [
  | inl below ↦
      let same : index ≡ position_or_len (is_of of) screens = same_Some index (position_or_len (is_of of) screens) (rw below at e) in
      let there : slice_get screens index ≡ Some one = slice_get_read screens (length screens) index one refl (subst (λ (n : ℕ). n < length screens) (sym same) (ltb-true (position_or_len (is_of of) screens) (length screens) below)) is in
      sym (ap (λ (o : Option OutputScreen). option_map_or (λ (one : OutputScreen). one.screen) o bare_screen) (find_at (is_of of) screens ∙ (ap (slice_get screens) (sym same) ∙ there)))
  | inr none ↦ absurd (none-some index (sym (rw none at e)))
]

pub bare_at : (screens : List OutputScreen) (of : ImageId) → None ≡ position (is_of of) screens → bare_screen ≡ screen_of screens of
bare_at screens of e = elim (cases_Bool (nat_lt (position_or_len (is_of of) screens) (length screens))) [
  | inl below ↦ absurd (none-some (position_or_len (is_of of) screens) (rw below at e))
  | inr none ↦
      sym (ap (λ (o : Option OutputScreen). option_map_or (λ (one : OutputScreen). one.screen) o bare_screen)
      (find_at (is_of of) screens ∙ slice_get_past screens (position_or_len (is_of of) screens) (ltb-false (position_or_len (is_of of) screens) (length screens) none)))
]
