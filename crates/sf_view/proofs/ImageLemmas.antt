-- The image of a tree and that of its view.
use Rattle.std.proofs.Common.{◌≡◌, ℕ, ◌<◌, Bool, true, false, List, [], ◌∷◌, refl, ap, ◌∙◌, sym, pos, filter, map}
use Rattle.std.specs.List.{AllZip}
use Rattle.sf_base.specs.Paint.{painted}
use Rattle.sf_base.specs.declared.pixel.Rgba.{Rgba}
use Rattle.sf_base.specs.declared.ids.LayerId.{LayerId}
use Rattle.sf_tree.specs.DrawOrder.{draw_order}
use Rattle.sf_tree.specs.sf_layer.declared.layer.Layer.{Layer}
use Rattle.sf_picture.specs.declared.picture.Picture.{Picture}
use Rattle.sf_view.specs.declared.drawn.Drawn.{Drawn}
use Rattle.sf_view.specs.Contents.{content_of, pixel_of, source_of}
use Rattle.sf_view.specs.Image.{drawn_in, image, image_in, is_in_layer, opaque_black, paint_content, under_layers}
use Rattle.sf_view.specs.Stacks.{sheet_of, stack, under_stack, view_image}
use Rattle.sf_view.specs.Views.{Draws, ViewOf, Views, ViewsInOrder, is_in_clip}

-- a drawn layer paints what its layer does
painted-same : (picture : ℕ → Picture) (tree : List Layer) (width height x y : ℕ) (layer : Layer) (drawn : Drawn) (under : Rgba) → Draws tree width height layer drawn → painted under (source_of drawn.opaque (pixel_of picture drawn.content drawn.orient drawn.place (pos x) (pos y))) drawn.alpha ≡ paint_content picture tree layer (pos x) (pos y) under (content_of layer)
painted-same picture tree width height x y layer drawn under d = rw (sym d.content, d.opaque, d.place, d.alpha, d.orient) refl

under-same : (picture : ℕ → Picture) (tree : List Layer) (width height x y : ℕ) → x < width → y < height → (layers : List Layer) (drawn : List Drawn) → AllZip (Draws tree width height) layers drawn → (under : Rgba) → under_stack picture (pos x) (pos y) under (map sheet_of (filter (λ d. is_in_clip d (pos x) (pos y)) drawn)) ≡ under_layers picture tree (pos x) (pos y) under layers
under-same picture tree width height x y wide high [] [] all under = refl
under-same picture tree width height x y wide high [] (d ∷ ds) all under = absurd all
under-same picture tree width height x y wide high (l ∷ ls) [] all under = absurd all
under-same picture tree width height x y wide high (l ∷ ls) (d ∷ ds) all under =
    by_test (is_in_clip d (pos x) (pos y)) refl (under-same picture tree width height x y wide high ls ds all.1)
  where
    by_test : (b : Bool) → is_in_clip d (pos x) (pos y) ≡ b → ((u : Rgba) → under_stack picture (pos x) (pos y) u (map sheet_of (filter (λ e. is_in_clip e (pos x) (pos y)) ds)) ≡ under_layers picture tree (pos x) (pos y) u ls) → under_stack picture (pos x) (pos y) under (map sheet_of (filter (λ e. is_in_clip e (pos x) (pos y)) (d ∷ ds))) ≡ under_layers picture tree (pos x) (pos y) under (l ∷ ls)
    by_test true t rest =
        let layer_is : is_in_layer tree l (pos x) (pos y) ≡ true = sym (all.0.clip x y wide high) ∙ t in
        rw (t, layer_is) (rest _ ∙ ap (λ u. under_layers picture tree (pos x) (pos y) u ls) (painted-same picture tree width height x y l d under all.0))
    by_test false t rest =
        let layer_is : is_in_layer tree l (pos x) (pos y) ≡ false = sym (all.0.clip x y wide high) ∙ t in
        rw (t, layer_is) (rest under)

pub view_image-order : (picture : ℕ → Picture) (tree : List Layer) (order : List LayerId) (width height : ℕ) (view : ViewOf) → ViewsInOrder tree order width height view → (x y : ℕ) → x < width → y < height → view_image picture view (pos x) (pos y) ≡ image_in picture tree order (pos x) (pos y)
unfolding view_image stack image_in
view_image-order picture tree order width height view v x y wide high = under-same picture tree width height x y wide high (drawn_in tree order) view.drawn v.drawn opaque_black

pub view_image-same : (picture : ℕ → Picture) (tree : List Layer) (width height : ℕ) (view : ViewOf) → Views tree width height view → (x y : ℕ) → x < width → y < height → view_image picture view (pos x) (pos y) ≡ image picture tree (pos x) (pos y)
unfolding image
view_image-same picture tree width height view v x y wide high = view_image-order picture tree (draw_order tree) width height view v x y wide high
