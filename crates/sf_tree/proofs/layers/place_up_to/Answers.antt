use Rattle.std.proofs.Common.{arith}
use Rattle.sf_tree.proofs.Places.{stands_before, stands_here}
use Rattle.sf_tree.proofs.layers.place_up_to.Goals as goal

pub loop-place-preserved : goal.loop-place-preserved
loop-place-preserved c = record {
  inside = omega (arith, c.loop-place.invariant.inside);
  stands = stands_before c.args.list.now c.args.id c.loop-place.place _ c.loop-place.invariant.stands c.loop-place-test.true;
}

pub returns : goal.returns
returns c = stands_here c.args.list.now c.args.id c.loop-place.place _ c.requires.distinct c.loop-place.invariant.inside c.loop-place-test.false
