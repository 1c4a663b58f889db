-- A frame that is composed over the frame before.
use Rattle.std.proofs.Common.{◌≡◌, ℕ, ◌+◌, ◌*◌, ◌<◌, Bool, true, false, ◌&&◌, if◌then◌else◌, List, length, refl, sym, ◌∙◌, ap, subst, pos, ℤ}
use Rattle.std.specs.Prelude.{nat_eq}
use Rattle.std.proofs.lemmas.Bool.{both_ways}
use Rattle.sf_base.proofs.Decisions.{rgba_decides}
use Rattle.sf_base.specs.Bytes.{pixel_in}
use Rattle.sf_base.specs.declared.geometry.Rect.{Rect}
use Rattle.sf_base.specs.declared.pixel.Rgba.{Rgba}
use Rattle.sf_damage.specs.Damage.{Damages}
use Rattle.sf_damage.specs.sf_picture.declared.picture.Picture.{Picture}
use Rattle.sf_damage.specs.sf_region.Points.{has}
use Rattle.sf_damage.specs.sf_view.Image.{opaque_black}
use Rattle.sf_damage.specs.sf_view.Stacks.{Sheet, stack, under_stack, view_image}
use Rattle.sf_damage.specs.sf_view.Views.{ViewOf}
use Rattle.sf_compose.specs.Again.{IsComposed, IsComposedAgain, ShowsView}
use Rattle.sf_compose.specs.Frames.{frame_bytes}
use Rattle.sf_compose.proofs.RowLemmas.{frame-from}

-- colours that can't differ are equal
same_colour : (p q : Rgba) → ((p ≡ q → ⊥) → ⊥) → p ≡ q
same_colour p q close = by_test (nat_eq p.r q.r && (nat_eq p.g q.g && (nat_eq p.b q.b && nat_eq p.a q.a))) refl
  where
    by_test : (b : Bool) → (nat_eq p.r q.r && (nat_eq p.g q.g && (nat_eq p.b q.b && nat_eq p.a q.a))) ≡ b → p ≡ q
    by_test true t = (rgba_decides p q).0 t
    by_test false t = absurd (close (λ e. both_ways _ t ((rgba_decides p q).1 e)))

-- beside what differs two views have the same image
same_beside : (picture : ℕ → Picture) (old new : ViewOf) (part : List Rect) (x y : ℤ) → Damages old new part → has part x y ≡ false → view_image picture old x y ≡ view_image picture new x y
unfolding view_image
same_beside picture old new part x y damage lacks =
    same_colour (under_stack picture x y opaque_black (stack old x y)) (under_stack picture x y opaque_black (stack new x y))
    (λ apart. both_ways (has part x y) lacks ((damage.points x y).1 (λ same. apart (ap (λ (s : List Sheet). under_stack picture x y opaque_black s) same))))

pub composed_again : (picture : ℕ → Picture) (old new : ViewOf) (part : List Rect) (before after : List ℕ) → IsComposedAgain picture old new part before after → ShowsView picture new after
composed_again picture old new part before after a = record {
  pixels = λ x y wide high. by_test x y wide high (has part (pos x) (pos y)) refl;
}
  where
    last : (x y : ℕ) → x < new.width → y < new.height → pixel_in before (y * new.width + x) ≡ view_image picture old (pos x) (pos y)
    last x y wide high =
        ap (λ (w : ℕ). pixel_in before (y * w + x)) (sym a.wide)
        ∙ a.last.pixels x y (subst (λ (w : ℕ). x < w) (sym a.wide) wide) (subst (λ (h : ℕ). y < h) (sym a.high) high)

    by_test : (x y : ℕ) → x < new.width → y < new.height → (b : Bool) → has part (pos x) (pos y) ≡ b → pixel_in after (y * new.width + x) ≡ view_image picture new (pos x) (pos y)
    by_test x y wide high true t = a.shown.pixels x y wide high t
    by_test x y wide high false t = a.rest.pixels x y wide high t ∙ (last x y wide high ∙ same_beside picture old new part (pos x) (pos y) a.damage t)

-- the bytes of a frame, from what its part shows and what stays
composed_bytes : (view : ViewOf) (part : List Rect) (image : ℕ → ℕ → Rgba) (before after : List ℕ) → length before ≡ 4 * (view.width * view.height) → IsComposed view part image before after → after ≡ frame_bytes (λ x y. if has part (pos x) (pos y) then image x y else pixel_in before (y * view.width + x)) view.width view.height
composed_bytes view part image before after size a =
    frame-from after (λ x y. if has part (pos x) (pos y) then image x y else pixel_in before (y * view.width + x)) view.width view.height (a.rest.size ∙ size) (λ x y wide high. by_test x y wide high (has part (pos x) (pos y)) refl)
  where
    by_test : (x y : ℕ) → x < view.width → y < view.height → (b : Bool) → has part (pos x) (pos y) ≡ b → pixel_in after (y * view.width + x) ≡ (if has part (pos x) (pos y) then image x y else pixel_in before (y * view.width + x))
    by_test x y wide high true t = rw t (a.shown.pixels x y wide high t)
    by_test x y wide high false t = rw t (a.rest.pixels x y wide high t)

pub one_frame : (view : ViewOf) (part : List Rect) (image : ℕ → ℕ → Rgba) (before one other : List ℕ) → length before ≡ 4 * (view.width * view.height) → IsComposed view part image before one → IsComposed view part image before other → one ≡ other
one_frame view part image before one other size a b = composed_bytes view part image before one size a ∙ sym (composed_bytes view part image before other size b)
