-- Each image is opaque.
use Rattle.std.proofs.Common.{◌≡◌, ℕ, ℤ, ◌+◌, ◌-◌, Bool, true, false, if◌then◌else◌, List, [], ◌∷◌, Option, Some, None, refl, ap, ◌∙◌, arith, min}
use Rattle.sf_base.specs.Blend.{blended, product}
use Rattle.sf_base.specs.Paint.{painted}
use Rattle.sf_base.specs.declared.ids.LayerId.{LayerId}
use Rattle.sf_base.specs.declared.pixel.Rgba.{Rgba}
use Rattle.sf_rows.proofs.RoundedProducts.{whole_left}
use Rattle.sf_layer.specs.declared.layer.Layer.{Layer}
use Rattle.sf_picture.specs.declared.picture.Picture.{Picture}
use Rattle.sf_view.specs.declared.content.Content.{Content}
use Rattle.sf_view.specs.Contents.{content_of}
use Rattle.sf_view.specs.Image.{image_in, is_in_layer, opaque_black, paint_content, under_layers, drawn_in}

-- what a source covers of 255 and what it leaves of it come to 255
whole : (c : ℕ) → min 255 (c + (255 - c)) ≡ 255
whole c = grind arith

-- an opaque channel stays so under any source
stays : (s a : ℕ) → blended 255 s a (product s a) ≡ 255
unfolding blended
stays s a = ap (λ n. min 255 (product s a + n)) (whole_left (255 - product s a) (omega arith)) ∙ whole (product s a)

painted_opaque : (under source : Rgba) (alpha : ℕ) → under.a ≡ 255 → (painted under source alpha).a ≡ 255
unfolding painted
painted_opaque under source alpha h = ap (λ d. blended d source.a alpha (product source.a alpha)) h ∙ stays source.a alpha

content_opaque : (picture : ℕ → Picture) (tree : List Layer) (layer : Layer) (x y : ℤ) (under : Rgba) (content : Option Content) → under.a ≡ 255 → (paint_content picture tree layer x y under content).a ≡ 255
content_opaque picture tree layer x y under None h = h
content_opaque picture tree layer x y under (Some content) h = painted_opaque under _ _ h

either : (inside : Bool) (a b : Rgba) → a.a ≡ 255 → b.a ≡ 255 → (if inside then a else b).a ≡ 255
either true a b h k = h
either false a b h k = k

pub layers_opaque : (picture : ℕ → Picture) (tree : List Layer) (x y : ℤ) (layers : List Layer) (under : Rgba) → under.a ≡ 255 → (under_layers picture tree x y under layers).a ≡ 255
layers_opaque picture tree x y [] under h = h
layers_opaque picture tree x y (layer ∷ layers) under h =
    layers_opaque picture tree x y layers (if is_in_layer tree layer x y then paint_content picture tree layer x y under (content_of layer) else under)
    (either (is_in_layer tree layer x y) _ under (content_opaque picture tree layer x y under (content_of layer) h) h)

pub image_opaque : (picture : ℕ → Picture) (tree : List Layer) (order : List LayerId) (x y : ℤ) → (image_in picture tree order x y).a ≡ 255
unfolding image_in
image_opaque picture tree order x y = layers_opaque picture tree x y (drawn_in tree order) opaque_black refl
