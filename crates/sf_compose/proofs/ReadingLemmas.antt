-- Pixels that are read from the contents, and those of the pictures.
use Rattle.std.proofs.Common.{◌≡◌, ℕ, zero, suc, ◌<◌, length, get_or, arith, Bool, true, false, List, [], ◌∷◌, filter, map, refl, sym, ℤ, pos, subst}
use Rattle.std.specs.List.{AllZip}
use Rattle.std.proofs.lemmas.Option.{get_or_from_slice_get, slice_get_within}
use Rattle.sf_base.specs.Geometry.{LiesWithin}
use Rattle.sf_base.specs.declared.pixel.Rgba.{Rgba}
use Rattle.sf_damage.specs.sf_layer.declared.shown.Shown.{Shown}
use Rattle.sf_damage.specs.sf_picture.declared.picture.Picture.{Picture}
use Rattle.sf_damage.specs.sf_view.declared.content.Content.{Content}
use Rattle.sf_damage.specs.sf_view.declared.content.Content.TheVariants as content
use Rattle.sf_damage.specs.sf_view.declared.drawn.Drawn.{Drawn}
use Rattle.sf_damage.specs.sf_view.Contents.{pixel_of}
use Rattle.sf_damage.specs.sf_view.Image.{opaque_black}
use Rattle.sf_damage.specs.sf_view.Stacks.{sheet_of, stack, under_stack, view_image}
use Rattle.sf_damage.specs.sf_view.Views.{ViewOf, is_in_clip}
use Rattle.sf_compose.specs.Readings.{AreReadable, content_at, IsReadable, no_picture, read_image, under_drawn}
use Rattle.sf_compose.specs.Sources.{HasSource, HasSources, IsSource}

content_at-source : (picture : ℕ → Picture) (contents : List Picture) (shown : Shown) (source : ℕ) → IsSource picture contents shown source → content_at contents source ≡ picture shown.picture
content_at-source picture contents shown source s = get_or_from_slice_get contents source (picture shown.picture) no_picture s.content

IsReadable-source : (picture : ℕ → Picture) (contents : List Picture) (shows : Content) (source : ℕ) → HasSource picture contents shows source → IsReadable contents shows source
IsReadable-source picture contents (content.Colour _) source s = tt
IsReadable-source picture contents (content.Buffer shown) source s = record {
  within = slice_get_within contents source (picture shown.picture) s.content;
  crop = subst (λ (p : Picture). LiesWithin shown.crop p.width p.height) (sym (content_at-source picture contents shown source s)) s.crop;
}

all_readable : (picture : ℕ → Picture) (contents : List Picture) (layers : List Drawn) (sources : List ℕ) → AllZip (λ drawn source. HasSource picture contents drawn.content source) layers sources → AllZip (λ drawn source. IsReadable contents drawn.content source) layers sources
all_readable picture contents [] [] all = tt
all_readable picture contents [] (s ∷ ss) all = absurd all
all_readable picture contents (d ∷ ds) [] all = absurd all
all_readable picture contents (d ∷ ds) (s ∷ ss) all = (IsReadable-source picture contents d.content s all.0, all_readable picture contents ds ss all.1)

-- what has a source can be read
pub AreReadable-sources : (picture : ℕ → Picture) (view : ViewOf) (contents : List Picture) (sources : List ℕ) → HasSources picture view contents sources → AreReadable contents view.drawn sources
AreReadable-sources picture view contents sources has = record { all = all_readable picture contents view.drawn sources has.all }

at_place : (contents : List Picture) (layers : List Drawn) (sources : List ℕ) → AllZip (λ drawn source. IsReadable contents drawn.content source) layers sources → (i : ℕ) (d : Drawn) (e : ℕ) → i < length layers → IsReadable contents (get_or layers i d).content (get_or sources i e)
at_place contents [] sources all i d e h = absurd (omega arith)
at_place contents (l ∷ ls) [] all i d e h = absurd all
at_place contents (l ∷ ls) (s ∷ ss) all zero d e h = all.0
at_place contents (l ∷ ls) (s ∷ ss) all (suc i) d e h = at_place contents ls ss all.1 i d e (omega arith)

pub readable_at : (contents : List Picture) (layers : List Drawn) (sources : List ℕ) (i : ℕ) (d : Drawn) (e : ℕ) → AreReadable contents layers sources → i < length layers → IsReadable contents (get_or layers i d).content (get_or sources i e)
readable_at contents layers sources i d e r h = at_place contents layers sources r.all i d e h

-- a pixel of a source is one of the picture
pixel_of-source : (picture : ℕ → Picture) (contents : List Picture) (shows : Content) (source orient : ℕ) (place : ℤ × ℤ) (x y : ℤ) → HasSource picture contents shows source → pixel_of (λ _. content_at contents source) shows orient place x y ≡ pixel_of picture shows orient place x y
pixel_of-source picture contents (content.Colour _) source orient place x y s = refl
pixel_of-source picture contents (content.Buffer shown) source orient place x y s = rw (content_at-source picture contents shown source s) refl

under-same : (picture : ℕ → Picture) (contents : List Picture) (x y : ℤ) (layers : List Drawn) (sources : List ℕ) → AllZip (λ drawn source. HasSource picture contents drawn.content source) layers sources → (under : Rgba) → under_drawn contents x y under layers sources ≡ under_stack picture x y under (map sheet_of (filter (λ drawn. is_in_clip drawn x y) layers))
under-same picture contents x y [] [] all under = refl
under-same picture contents x y [] (s ∷ ss) all under = absurd all
under-same picture contents x y (d ∷ ds) [] all under = absurd all
under-same picture contents x y (d ∷ ds) (s ∷ ss) all under =
    by_test (is_in_clip d x y) refl (under-same picture contents x y ds ss all.1)
  where
    by_test : (b : Bool) → is_in_clip d x y ≡ b → ((u : Rgba) → under_drawn contents x y u ds ss ≡ under_stack picture x y u (map sheet_of (filter (λ drawn. is_in_clip drawn x y) ds))) → under_drawn contents x y under (d ∷ ds) (s ∷ ss) ≡ under_stack picture x y under (map sheet_of (filter (λ drawn. is_in_clip drawn x y) (d ∷ ds)))
    by_test true t rest = rw (t, pixel_of-source picture contents d.content s d.orient d.place x y all.0) (rest _)
    by_test false t rest = rw t (rest under)

-- what is read is the image of the view
pub read_image-same : (picture : ℕ → Picture) (view : ViewOf) (contents : List Picture) (sources : List ℕ) (x y : ℕ) → HasSources picture view contents sources → read_image contents view sources x y ≡ view_image picture view (pos x) (pos y)
unfolding read_image view_image stack
read_image-same picture view contents sources x y has = under-same picture contents (pos x) (pos y) view.drawn sources has.all opaque_black
