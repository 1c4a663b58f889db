use Rattle.std.proofs.Common.{◌&&◌, map, pos, refl}
use Rattle.std.proofs.lemmas.Bool.{and_parts}
use Rattle.sf_damage.specs.sf_region.Points.{has}
use Rattle.sf_damage.specs.sf_view.Image.{opaque_black}
use Rattle.sf_compose.specs.inner.Painting.{is_in_area, Paints}
use Rattle.sf_compose.specs.Readings.{read_image, under_drawn}
use Rattle.sf_compose.proofs.BegunLemmas.{AreSeenAt-visible, Repaints-area}
use Rattle.sf_compose.proofs.ScatteredLemmas.{inside}
use Rattle.sf_compose.proofs.scattered.compose_scattered.Goals as goal

pub compose_layers-requires-clause-visible : goal.compose_layers-requires-clause-visible
compose_layers-requires-clause-visible g c =
    AreSeenAt-visible (has c.args.part.now) (λ x y. is_in_area c.area_of-area.result x y && has c.args.part.now (pos x) (pos y)) c.args.composition.now.view.now.drawn c.args.shows.now
    (λ x y t. (and_parts _ _ t).1) c.requires.visible

pub returns : goal.returns
unfolding read_image
returns g c =
    let painted : Paints c.args.band.width c.args.band.top (λ x y. is_in_area c.area_of-area.result x y && has c.args.part.now (pos x) (pos y)) (λ x y under. under_drawn (map g.C.Pixels.picture c.args.composition.now.contents.now) (pos x) (pos y) opaque_black c.args.composition.now.view.now.drawn c.args.composition.now.sources.now) c.args.frame.now c.compose_layers.new.frame = c.compose_layers.ensures in
    Repaints-area _ _ _ (λ x y. is_in_area c.area_of-area.result x y && has c.args.part.now (pos x) (pos y)) _ _ _ _ _ painted
    (λ x y wide low high. inside (is_in_area c.area_of-area.result x y) (has c.args.part.now (pos x) (pos y)) (c.area_of-area.ensures.points x y wide low high))
    (λ x y under. refl)
