use Rattle.sf_compose.proofs.FrameLemmas.{KeepsRest-repaints, ShowsPart-repaints}
use Rattle.sf_compose.proofs.one.compose_seen.Goals as goal

pub returns-clause-image : goal.returns-clause-image
returns-clause-image g c = ShowsPart-repaints c.args.view.now _ _ _ c.args.part.now _ _ _ c.all_rows.ensures.width c.all_rows.ensures.top c.all_rows.ensures.bottom c.compose_band.ensures

pub returns-clause-rest : goal.returns-clause-rest
returns-clause-rest g c = KeepsRest-repaints c.args.view.now _ _ _ c.args.part.now _ _ _ c.all_rows.ensures.width c.all_rows.ensures.top c.all_rows.ensures.bottom c.compose_band.ensures
