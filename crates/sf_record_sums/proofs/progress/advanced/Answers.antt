use Rattle.std.proofs.Common.{arith, ◌∙◌, ap, sym}
use Rattle.std.proofs.lemmas.Grind.{common_steps}
use Rattle.std.proofs.lemmas.List.{take_rest, drop_all}
use Rattle.sf_record_sums.specs.Steps.{after}
use Rattle.sf_record_sums.proofs.TallyLemmas.{on_after}
use Rattle.sf_record_sums.proofs.progress.advanced.Goals as goal

pub loop-done-preserved : goal.loop-done-preserved
loop-done-preserved c = record {
  within = grind (arith, common_steps);
  so_far = on_after _ _ _ c.args.piece.now c.loop-done.done c.first_bytes-count.result.1 c.loop-done.invariant.so_far (rw take_rest at c.first_bytes-count.ensures.after);
}

pub returns : goal.returns
unfolding after
returns c = sym (ap (after c.loop-done.progress) (drop_all c.loop-done.done c.args.piece.now c.loop-done-test.false)) ∙ c.loop-done.invariant.so_far
