use Rattle.std.proofs.Common.{◌∙◌, map, pos, sym, ap}
use Rattle.sf_base.specs.Geometry.{covers}
use Rattle.sf_base.specs.Paint.{painted}
use Rattle.sf_base.specs.declared.pixel.Rgba.{Rgba}
use Rattle.sf_compose.specs.inner.Painting.{is_in_area}
use Rattle.sf_damage.specs.sf_view.Views.{is_in_clip}
use Rattle.sf_compose.proofs.CropLemmas.{both_right}
use Rattle.sf_damage.specs.sf_view.Contents.{source_of}
use Rattle.sf_compose.proofs.LayerLemmas.{colour_pixel, in_shown_box, in_upright_box, Paints-one, shown_pixel, upright_pixel}
use Rattle.sf_compose.proofs.layer.paint_layer.Goals as goal

pub paint_crop-requires-clause-inside : goal.paint_crop-requires-clause-inside
unfolding covers
paint_crop-requires-clause-inside g c = λ x y t. rw c.crop_of.ensures
    (in_upright_box c.in-Buffer.shown.crop c.args.layer.now.drawn.now.orient c.args.layer.now.drawn.now.place (pos x) (pos y) c.if-drawn-eq0.true
    (in_shown_box c.args.layer.now.drawn.now c.in-Buffer.shown (pos x) (pos y) c.in-Buffer.is
    (c.requires.paintable.inside x y (both_right (is_in_area c.args.area x y) (is_in_clip c.args.layer.now.drawn.now (pos x) (pos y)) (sym (c.cut-area.ensures.points x y) ∙ t)))))

pub paint_oriented-requires-clause-inside : goal.paint_oriented-requires-clause-inside
unfolding covers
paint_oriented-requires-clause-inside g c = λ x y t. rw c.oriented_of.ensures
    (in_shown_box c.args.layer.now.drawn.now c.in-Buffer.shown (pos x) (pos y) c.in-Buffer.is
    (c.requires.paintable.inside x y (both_right (is_in_area c.args.area x y) (is_in_clip c.args.layer.now.drawn.now (pos x) (pos y)) (sym (c.cut-area.ensures.points x y) ∙ t))))

pub returns-in-Colour : goal.returns-in-Colour
unfolding covers
returns-in-Colour g c =
    Paints-one c.args.band.width c.args.band.top c.cut-area.result c.args.area (map g.C.Pixels.picture c.args.layer.now.contents.now) c.args.layer.now.drawn.now c.args.layer.now.source _ _ _ c.paint_area.ensures c.cut-area.ensures.points
    (λ x y under t. ap (λ (pixel : Rgba). painted under pixel c.args.layer.now.drawn.now.alpha) (c.seen_colour-colour.ensures ∙ colour_pixel (map g.C.Pixels.picture c.args.layer.now.contents.now) c.args.layer.now.drawn.now c.in-Colour.colour c.args.layer.now.source (pos x) (pos y) c.in-Colour.is))

pub returns-then-drawn-eq0 : goal.returns-then-drawn-eq0
unfolding covers
returns-then-drawn-eq0 g c =
    Paints-one c.args.band.width c.args.band.top c.cut-area.result c.args.area (map g.C.Pixels.picture c.args.layer.now.contents.now) c.args.layer.now.drawn.now c.args.layer.now.source _ _ _ (rw c.crop_of.ensures at c.paint_crop.ensures) c.cut-area.ensures.points
    (λ x y under t. ap (λ (pixel : Rgba). painted under pixel c.args.layer.now.drawn.now.alpha)
    (ap (λ (pixel : Rgba). source_of c.args.layer.now.drawn.now.opaque pixel) (upright_pixel c.read-picture.result.now c.in-Buffer.shown.crop c.args.layer.now.drawn.now.orient c.args.layer.now.drawn.now.place (pos x) (pos y) c.if-drawn-eq0.true)
    ∙ shown_pixel (map g.C.Pixels.picture c.args.layer.now.contents.now) c.args.layer.now.drawn.now c.in-Buffer.shown c.args.layer.now.source c.read-picture.result.now (pos x) (pos y) c.in-Buffer.is c.read-picture.ensures))

pub returns-else-drawn-eq0 : goal.returns-else-drawn-eq0
unfolding covers
returns-else-drawn-eq0 g c =
    Paints-one c.args.band.width c.args.band.top c.cut-area.result c.args.area (map g.C.Pixels.picture c.args.layer.now.contents.now) c.args.layer.now.drawn.now c.args.layer.now.source _ _ _ (rw c.oriented_of.ensures at c.paint_oriented.ensures) c.cut-area.ensures.points
    (λ x y under t. ap (λ (pixel : Rgba). painted under pixel c.args.layer.now.drawn.now.alpha) (shown_pixel (map g.C.Pixels.picture c.args.layer.now.contents.now) c.args.layer.now.drawn.now c.in-Buffer.shown c.args.layer.now.source c.read-picture.result.now (pos x) (pos y) c.in-Buffer.is c.read-picture.ensures))
