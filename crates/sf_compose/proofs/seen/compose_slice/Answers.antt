use Rattle.std.proofs.Common.{◌≡◌, ◌<◌, ap, length, arith}
use Rattle.sf_compose.specs.inner.Painting.{is_in_area}
use Rattle.sf_compose.proofs.BegunLemmas.{Spares-then}
use Rattle.sf_compose.proofs.SeenLemmas.{IsBegun-ended}
use Rattle.sf_compose.proofs.seen.compose_slice.Goals as goal

pub paint_shown-requires-clause-inside : goal.paint_shown-requires-clause-inside
paint_shown-requires-clause-inside g c = rw c.drawn-layers.ensures.drawn at c.loop-at-test.true

pub loop-at-preserved : goal.loop-at-preserved
loop-at-preserved g c =
    let within : c.loop-at.at < length c.args.composition.now.view.now.drawn = rw c.drawn-layers.ensures.drawn at c.loop-at-test.true in
    (omega (arith, within), Spares-then _ _ (is_in_area c.args.area) _ _ _ c.loop-at.invariant.1 c.paint_shown.ensures.spared, c.paint_shown.ensures.begun)

pub returns : goal.returns
returns g c =
    let all : length c.drawn-layers.result.now ≡ length c.args.composition.now.view.now.drawn = ap length c.drawn-layers.ensures.drawn in
    IsBegun-ended _ _ (is_in_area c.args.area) _ _ _ c.loop-at.at _ _ (omega (arith, all, c.loop-at.invariant.0, c.loop-at-test.false)) c.loop-at.invariant.1 c.loop-at.invariant.2
