-- The layer in front at a point is the one that was painted last.
use Rattle.std.proofs.Common.{rules, ◌≡◌, ℕ, ℤ, Bool, true, false, if◌then◌else◌, List, [], ◌∷◌, reverse, Option, Some, None, refl, sym, ap, subst, ◌∙◌}
use Rattle.std.specs.Prelude.{find}
use Rattle.std.proofs.lemmas.Grind.{reverse_onto}
use Rattle.std.proofs.lemmas.List.Folds.{find-append}
use Rattle.std.specs.Option.{option_map, option_or}
use Rattle.sf_base.specs.declared.ids.LayerId.{LayerId}
use Rattle.sf_base.specs.declared.pixel.Rgba.{Rgba}
use Rattle.sf_layer.specs.declared.layer.Layer.{Layer}
use Rattle.sf_picture.specs.declared.picture.Picture.{Picture}
use Rattle.sf_view.specs.Contents.{content_of}
use Rattle.sf_view.specs.Image.{drawn_in, image_in, is_in_layer, opaque_black, paint_content, under_layers}
use Rattle.sf_output_shown.specs.Hits.{front}
use Rattle.law_images.specs.Seen.{IsSeenIn}

-- the last of these layers that the point is in
abbrev last_in : List Layer → ℤ → ℤ → List Layer → Option Layer
last_in tree x y layers = find (λ (layer : Layer). is_in_layer tree layer x y) (reverse layers)

-- what is seen of layers over a pixel: that pixel where the point is in none, else the last of them over some pixel
abbrev Seen : (ℕ → Picture) → List Layer → ℤ → ℤ → Rgba → Rgba → Option Layer → Type 0
Seen picture tree x y under pixel None = pixel ≡ under
Seen picture tree x y under pixel (Some layer) = (below : Rgba) × (pixel ≡ paint_content picture tree layer x y below (content_of layer))

-- the last of a list and one more in front
reverse-one : {X : Type 0} (p : X → Bool) (x : X) (xs : List X) → find p (reverse (x ∷ xs)) ≡ option_or (find p (reverse xs)) (find p (x ∷ []))
reverse-one p x xs = ap (find p) (reverse_onto xs x []) ∙ find-append p (reverse xs) (x ∷ [])

-- a layer of which the point is, under others of which it may be
abbrev one : (ℕ → Picture) → List Layer → ℤ → ℤ → Rgba → Layer → Rgba
one picture tree x y under layer = if is_in_layer tree layer x y then paint_content picture tree layer x y under (content_of layer) else under

seen_first : (picture : ℕ → Picture) (tree : List Layer) (x y : ℤ) (under pixel : Rgba) (layer : Layer) (found : Option Layer) (inside : Bool)
    → Seen picture tree x y (if inside then paint_content picture tree layer x y under (content_of layer) else under) pixel found
    → Seen picture tree x y under pixel (option_or found (if inside then Some layer else None))
seen_first picture tree x y under pixel layer (Some last) inside s = s
seen_first picture tree x y under pixel layer None true s = (under, s)
seen_first picture tree x y under pixel layer None false s = s

seen : (picture : ℕ → Picture) (tree : List Layer) (x y : ℤ) (layers : List Layer) (under : Rgba) → Seen picture tree x y under (under_layers picture tree x y under layers) (last_in tree x y layers)
seen picture tree x y [] under = refl
seen picture tree x y (layer ∷ layers) under =
    subst (Seen picture tree x y under (under_layers picture tree x y (one picture tree x y under layer) layers)) (sym (reverse-one (λ (l : Layer). is_in_layer tree l x y) layer layers))
    (seen_first picture tree x y under _ layer (last_in tree x y layers) (is_in_layer tree layer x y) (seen picture tree x y layers (one picture tree x y under layer)))

by_number : (picture : ℕ → Picture) (tree : List Layer) (x y : ℤ) (under pixel : Rgba) (found : Option Layer) → Seen picture tree x y under pixel found
    → IsSeenIn picture tree x y pixel (option_map (λ (layer : Layer). layer.number) found)
by_number picture tree x y under pixel None s = tt
by_number picture tree x y under pixel (Some layer) s = record { layer = layer; below = s.0; named = refl; painted = s.1 }

pub seen_in_front : (picture : ℕ → Picture) (tree : List Layer) (order : List LayerId) (x y : ℤ) → IsSeenIn picture tree x y (image_in picture tree order x y) (front tree order x y)
unfolding image_in drawn_in
seen_in_front picture tree order x y = by_number picture tree x y opaque_black _ (last_in tree x y (drawn_in tree order)) (seen picture tree x y (drawn_in tree order) opaque_black)

nothing_seen : (picture : ℕ → Picture) (tree : List Layer) (x y : ℤ) (under pixel : Rgba) (found : Option Layer) → Seen picture tree x y under pixel found
    → option_map (λ (layer : Layer). layer.number) found ≡ None → pixel ≡ under
nothing_seen picture tree x y under pixel None s none = s
nothing_seen picture tree x y under pixel (Some layer) s none = search rules

pub black_behind : (picture : ℕ → Picture) (tree : List Layer) (order : List LayerId) (x y : ℤ) → front tree order x y ≡ None → image_in picture tree order x y ≡ opaque_black
unfolding image_in drawn_in
black_behind picture tree order x y none = nothing_seen picture tree x y opaque_black _ (last_in tree x y (drawn_in tree order)) (seen picture tree x y (drawn_in tree order) opaque_black) none
