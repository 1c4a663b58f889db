use Rattle.std.proofs.Common.{◌∙◌, ap, map, pos, refl, sym}
use Rattle.sf_base.specs.Paint.{painted}
use Rattle.sf_base.specs.declared.pixel.Rgba.{Rgba}
use Rattle.sf_compose.proofs.GroundLemmas.{covers_point, may_hide-parts}
use Rattle.sf_compose.proofs.LayerLemmas.{copied_one, in_shown_box, in_upright_box, upright_pixel}
use Rattle.sf_compose.proofs.PaintLemmas.{Paints-same}
use Rattle.sf_compose.proofs.layer.copy_layer.Goals as goal

pub copy_crop-requires-clause-inside : goal.copy_crop-requires-clause-inside
copy_crop-requires-clause-inside g c = λ x y t.
    let may = may_hide-parts c.args.area c.args.layer.now.drawn.now (sym c.may_hide.ensures ∙ c.if-not-may_hide.false) in
    rw c.crop_of.ensures
    (in_upright_box c.in-Buffer.shown.crop c.args.layer.now.drawn.now.orient c.args.layer.now.drawn.now.place (pos x) (pos y) c.if-drawn-eq0.true
    (in_shown_box c.args.layer.now.drawn.now c.in-Buffer.shown (pos x) (pos y) c.in-Buffer.is (c.requires.paintable.inside x y (covers_point c.args.area c.args.layer.now.drawn.now.clip x y may.2 t))))

pub copy_oriented-requires-clause-inside : goal.copy_oriented-requires-clause-inside
copy_oriented-requires-clause-inside g c = λ x y t.
    let may = may_hide-parts c.args.area c.args.layer.now.drawn.now (sym c.may_hide.ensures ∙ c.if-not-may_hide.false) in
    rw c.oriented_of.ensures
    (in_shown_box c.args.layer.now.drawn.now c.in-Buffer.shown (pos x) (pos y) c.in-Buffer.is (c.requires.paintable.inside x y (covers_point c.args.area c.args.layer.now.drawn.now.clip x y may.2 t)))

pub returns-then-drawn-eq0-clause-copied : goal.returns-then-drawn-eq0-clause-copied
returns-then-drawn-eq0-clause-copied g c = λ yes ground.
    let may = may_hide-parts c.args.area c.args.layer.now.drawn.now (sym c.may_hide.ensures ∙ c.if-not-may_hide.false) in
    Paints-same _ _ _ _ _ _ _ _ (rw c.crop_of.ensures at (c.copy_crop.ensures.copied yes ground)) (λ x y. refl)
    (λ x y under t. ap (λ (pixel : Rgba). painted (ground x y) pixel 255) (upright_pixel c.read-picture.result.now c.in-Buffer.shown.crop c.args.layer.now.drawn.now.orient c.args.layer.now.drawn.now.place (pos x) (pos y) c.if-drawn-eq0.true)
    ∙ copied_one (map g.C.Pixels.picture c.args.layer.now.contents.now) c.args.layer.now.drawn.now c.in-Buffer.shown c.args.layer.now.source c.read-picture.result.now (pos x) (pos y) (ground x y) c.in-Buffer.is c.read-picture.ensures may.0 may.1
    (covers_point c.args.area c.args.layer.now.drawn.now.clip x y may.2 t))

pub returns-else-drawn-eq0-clause-copied : goal.returns-else-drawn-eq0-clause-copied
returns-else-drawn-eq0-clause-copied g c = λ yes ground.
    let may = may_hide-parts c.args.area c.args.layer.now.drawn.now (sym c.may_hide.ensures ∙ c.if-not-may_hide.false) in
    Paints-same _ _ _ _ _ _ _ _ (rw c.oriented_of.ensures at (c.copy_oriented.ensures.copied yes ground)) (λ x y. refl)
    (λ x y under t. copied_one (map g.C.Pixels.picture c.args.layer.now.contents.now) c.args.layer.now.drawn.now c.in-Buffer.shown c.args.layer.now.source c.read-picture.result.now (pos x) (pos y) (ground x y) c.in-Buffer.is c.read-picture.ensures may.0 may.1
    (covers_point c.args.area c.args.layer.now.drawn.now.clip x y may.2 t))
