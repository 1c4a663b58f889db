use Rattle.std.proofs.Common.{arith, ◌∙◌}
use Rattle.std.proofs.lemmas.List.{get_or_default, length-set}
use Rattle.std.proofs.lemmas.List.Edits.{map_over_more}
use Rattle.sf_slots.specs.Queue.{unmarked}
use Rattle.sf_slots.specs.Told.{unused}
use Rattle.sf_slots.proofs.Lists.{mapped_all, get_or-own}
use Rattle.sf_slots.proofs.limits.unmark_slots.Goals as goal

pub loop-at-preserved : goal.loop-at-preserved
loop-at-preserved c = record {
  changed = rw (c.unmark.ensures, c.index_mut.ensures.value ∙ get_or_default c.loop-at.slots.items c.loop-at.at c.index_mut.result.now unused (omega (arith, c.loop-at.invariant.sized))) (map_over_more unmarked c.args.slots.now.items c.loop-at.slots.items c.loop-at.at _ (omega (arith, c.requires)) c.loop-at.invariant.changed (get_or-own c.loop-at.slots.items c.loop-at.at unused (omega (arith, c.loop-at.invariant.sized))));
  sized = rw length-set c.loop-at.invariant.sized;
}

pub returns : goal.returns
returns c = c.loop-at.invariant.changed ∙ mapped_all unmarked c.args.slots.now.items c.loop-at.at (omega (arith, c.requires))
