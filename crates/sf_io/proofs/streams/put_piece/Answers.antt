use Rattle.std.proofs.Common.{arith}
use Rattle.std.proofs.lemmas.Grind.{common_steps}
use Rattle.std.proofs.lemmas.List.{take_rest}
use Rattle.sf_io.proofs.StreamLemmas.{Appends-take_add}
use Rattle.sf_io.proofs.streams.put_piece.Goals as goal

pub loop-done-preserved : goal.loop-done-preserved
loop-done-preserved g c = record {
  within = grind (arith, common_steps);
  so_far = Appends-take_add _ _ _ _ _ _ c.loop-done.invariant.so_far (rw take_rest at c.in-Ok.ensures.bytes);
  later = omega arith;
}
