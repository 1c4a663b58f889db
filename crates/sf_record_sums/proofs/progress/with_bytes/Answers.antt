use Rattle.std.proofs.Common.{sym, ◌∙◌, ap}
use Rattle.std.proofs.lemmas.List.{drop_all}
use Rattle.sf_record_sums.specs.Steps.{added_up}
use Rattle.sf_record_sums.proofs.TallyLemmas.{added_next}
use Rattle.sf_record_sums.proofs.progress.with_bytes.Goals as goal

pub loop-byte-preserved : goal.loop-byte-preserved
loop-byte-preserved c = added_next _ _ _ _ _ c.loop-byte-test.true c.from.ensures c.sum_of-sum.ensures ∙ c.loop-byte.invariant

pub returns : goal.returns
unfolding added_up
returns c = sym (ap (added_up c.loop-byte.sum) (drop_all c.loop-byte.byte-index c.args.bytes.now c.loop-byte-test.false)) ∙ c.loop-byte.invariant
