use Rattle.std.proofs.Common.{refl, rules}
use Rattle.sf_compose.proofs.BandLemmas.{HasRows-below, Repaints-cut}
use Rattle.sf_compose.proofs.beside.+bands.Goals as goal

pub start_each-start_beside-requires-clause-below : goal.start_each-start_beside-requires-clause-below
start_each-start_beside-requires-clause-below g t c κs within =
    HasRows-below c.args.band c.cut_off-cut.result.first c.cut_off-cut.result.below c.args.bytes.now c.split_at_mut-now.result.1.now c.cut_off-cut.ensures c.requires.room (search rules)

pub start_each-returns : goal.start_each-returns
start_each-returns g t c = λ test image repaints.
    Repaints-cut c.args.band c.cut_off-cut.result.first c.cut_off-cut.result.below test image c.args.bytes.now _ _ _ _ _ c.cut_off-cut.ensures (search rules) c.split_at_mut-now.ensures.value refl
    (c.start_beside.ensures.first test image repaints) (c.start_beside.ensures.below test image repaints)
