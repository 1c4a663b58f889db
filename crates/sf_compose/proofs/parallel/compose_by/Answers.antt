use Rattle.std.proofs.Common.{map, pos}
use Rattle.sf_damage.specs.sf_region.Points.{has}
use Rattle.sf_compose.specs.Readings.{read_image}
use Rattle.sf_compose.proofs.FrameLemmas.{KeepsRest-repaints, ShowsPart-repaints}
use Rattle.sf_compose.proofs.parallel.compose_by.Goals as goal

pub returns-clause-image : goal.returns-clause-image
returns-clause-image g c =
    ShowsPart-repaints c.args.composition.now.view.now _ _ _ c.args.part.now _ _ _ c.all_rows-rows.ensures.width c.all_rows-rows.ensures.top c.all_rows-rows.ensures.bottom
    (c.start_each.ensures (λ x y. has c.args.part.now (pos x) (pos y)) (read_image (map g.C.Pixels.picture c.args.composition.now.contents.now) c.args.composition.now.view.now c.args.composition.now.sources.now) (λ band before after call. call.1))

pub returns-clause-rest : goal.returns-clause-rest
returns-clause-rest g c =
    KeepsRest-repaints c.args.composition.now.view.now _ _ _ c.args.part.now _ _ _ c.all_rows-rows.ensures.width c.all_rows-rows.ensures.top c.all_rows-rows.ensures.bottom
    (c.start_each.ensures (λ x y. has c.args.part.now (pos x) (pos y)) (read_image (map g.C.Pixels.picture c.args.composition.now.contents.now) c.args.composition.now.view.now c.args.composition.now.sources.now) (λ band before after call. call.1))
