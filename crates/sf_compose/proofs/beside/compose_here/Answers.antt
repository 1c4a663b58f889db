use Rattle.sf_compose.proofs.beside.compose_here.Goals as goal

pub returns : goal.returns
returns g c = λ test image repaints. repaints c.args.band _ _ c.f.ensures
