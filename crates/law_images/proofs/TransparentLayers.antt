-- What is transparent leaves pixels as they are.
use Rattle.std.proofs.Common.{rules, ◌≡◌, ℕ, ℤ, ◌≤◌, ◌+◌, ◌*◌, ◌/◌, ◌==◌, Bool, true, false, not, if◌then◌else◌, List, [], ◌∷◌, Option, Some, None, refl, sym, ap, ◌∙◌, arith, min}
use Rattle.std.proofs.lemmas.Bool.{eqb-true}
use Rattle.sf_base.specs.Blend.{blended, product}
use Rattle.sf_base.specs.Paint.{painted}
use Rattle.sf_base.specs.declared.pixel.Rgba.{Rgba}
use Rattle.sf_rows.proofs.RoundedProducts.{whole_right}
use Rattle.sf_layer.specs.declared.layer.Layer.{Layer}
use Rattle.sf_picture.specs.declared.picture.Picture.{Picture}
use Rattle.sf_view.specs.declared.content.Content.{Content}
use Rattle.sf_view.specs.Contents.{content_of, pixel_of, source_of}
use Rattle.sf_view.specs.Image.{is_in_layer, layer_alpha, layer_place, opaque_black, paint_content, under_layers}
use Rattle.law_images.specs.Pixels.{IsPixel, transparent}
use Rattle.law_images.specs.Seen.{that_show}

none_of : (s : ℕ) → product s 0 ≡ 0
unfolding product
none_of s = let e : s * 0 ≡ 0 = omega arith in ap (λ n. (n + 127) / 255) e

of_none : (a : ℕ) → product 0 a ≡ 0
unfolding product
of_none a = let e : 0 * a ≡ 0 = omega arith in ap (λ n. (n + 127) / 255) e

least : (d : ℕ) → d ≤ 255 → min 255 (0 + d) ≡ d
least d small = grind arith

-- a source of which nothing is painted, over a channel
channel_kept : (d s : ℕ) (alpha : ℕ) → d ≤ 255 → product s alpha ≡ 0 → blended d s alpha 0 ≡ d
unfolding blended
channel_kept d s alpha small none =
    ap (λ n. min 255 (n + product d 255)) none ∙ ap (λ n. min 255 (0 + n)) (whole_right d) ∙ least d small

pub unpainted : (under source : Rgba) → IsPixel under → painted under source 0 ≡ under
unfolding painted
unpainted under source p =
    rw (none_of source.a, channel_kept under.r source.r 0 p.red (none_of source.r), channel_kept under.g source.g 0 p.green (none_of source.g), channel_kept under.b source.b 0 p.blue (none_of source.b), channel_kept under.a source.a 0 p.alpha (none_of source.a)) refl

pub clear : (under : Rgba) (alpha : ℕ) → IsPixel under → painted under transparent alpha ≡ under
unfolding painted
clear under alpha p =
    rw (of_none alpha, channel_kept under.r 0 alpha p.red (of_none alpha), channel_kept under.g 0 alpha p.green (of_none alpha), channel_kept under.b 0 alpha p.blue (of_none alpha), channel_kept under.a 0 alpha p.alpha (of_none alpha)) refl

-- what is painted is a pixel again
small : (n : ℕ) → min 255 n ≤ 255
small n = grind arith

painted_pixel : (under source : Rgba) (alpha : ℕ) → IsPixel (painted under source alpha)
unfolding painted blended
painted_pixel under source alpha = record { red = small _; green = small _; blue = small _; alpha = small _ }

content_pixel : (picture : ℕ → Picture) (tree : List Layer) (layer : Layer) (x y : ℤ) (under : Rgba) (content : Option Content) → IsPixel under → IsPixel (paint_content picture tree layer x y under content)
content_pixel picture tree layer x y under None p = p
content_pixel picture tree layer x y under (Some content) p = painted_pixel under _ _

content_clear : (picture : ℕ → Picture) (tree : List Layer) (layer : Layer) (x y : ℤ) (under : Rgba) (content : Option Content) → layer_alpha tree layer ≡ 0 → IsPixel under → paint_content picture tree layer x y under content ≡ under
content_clear picture tree layer x y under None none p = refl
content_clear picture tree layer x y under (Some content) none p =
    let source : Rgba = source_of layer.opaque (pixel_of picture content layer.orient (layer_place tree layer) x y) in
    ap (λ a. painted under source a) none ∙ unpainted under source p

-- a pixel under one layer
abbrev next : (ℕ → Picture) → List Layer → ℤ → ℤ → Rgba → Layer → Rgba
next picture tree x y under layer = if is_in_layer tree layer x y then paint_content picture tree layer x y under (content_of layer) else under

either_pixel : (inside : Bool) (a b : Rgba) → IsPixel a → IsPixel b → IsPixel (if inside then a else b)
either_pixel true a b p q = p
either_pixel false a b p q = q

either_same : (inside : Bool) (a b : Rgba) → a ≡ b → (if inside then a else b) ≡ b
either_same true a b same = same
either_same false a b same = refl

next_pixel : (picture : ℕ → Picture) (tree : List Layer) (x y : ℤ) (under : Rgba) (layer : Layer) → IsPixel under → IsPixel (next picture tree x y under layer)
next_pixel picture tree x y under layer p = either_pixel (is_in_layer tree layer x y) _ under (content_pixel picture tree layer x y under (content_of layer) p) p

next_clear : (picture : ℕ → Picture) (tree : List Layer) (x y : ℤ) (under : Rgba) (layer : Layer) → layer_alpha tree layer ≡ 0 → IsPixel under → next picture tree x y under layer ≡ under
next_clear picture tree x y under layer none p = either_same (is_in_layer tree layer x y) _ under (content_clear picture tree layer x y under (content_of layer) none p)

-- the first layer left out or not, where the others may be
first_alone : (picture : ℕ → Picture) (tree : List Layer) (x y : ℤ) (layer : Layer) (layers : List Layer) (under : Rgba) → IsPixel under
    → ((u : Rgba) → IsPixel u → under_layers picture tree x y u (that_show tree layers) ≡ under_layers picture tree x y u layers)
    → (none : Bool) → (layer_alpha tree layer == 0) ≡ none
    → under_layers picture tree x y under (if not none then layer ∷ that_show tree layers else that_show tree layers) ≡ under_layers picture tree x y (next picture tree x y under layer) layers
first_alone picture tree x y layer layers under p rest true none =
    rest under p ∙ sym (ap (λ u. under_layers picture tree x y u layers) (next_clear picture tree x y under layer (eqb-true _ _ none) p))
first_alone picture tree x y layer layers under p rest false none = rest (next picture tree x y under layer) (next_pixel picture tree x y under layer p)

pub shown_alone : (picture : ℕ → Picture) (tree : List Layer) (x y : ℤ) (layers : List Layer) (under : Rgba) → IsPixel under
    → under_layers picture tree x y under (that_show tree layers) ≡ under_layers picture tree x y under layers
shown_alone picture tree x y [] under p = refl
shown_alone picture tree x y (layer ∷ layers) under p =
    first_alone picture tree x y layer layers under p (λ u q. shown_alone picture tree x y layers u q) (layer_alpha tree layer == 0) refl

pub black_pixel : IsPixel opaque_black
black_pixel = record { red = search rules; green = search rules; blue = search rules; alpha = search rules }
