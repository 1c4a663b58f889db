use Rattle.std.proofs.Common.{arith, ◌∙◌, None}
use Rattle.std.proofs.lemmas.List.{length-set}
use Rattle.std.proofs.lemmas.List.Edits.{map_over_more}
use Rattle.sf_slots.proofs.Lists.{mapped_all, get_or-own}
use Rattle.sf_slots.proofs.limits.drop_rights.Goals as goal

pub loop-at-preserved : goal.loop-at-preserved
loop-at-preserved g c = record {
  changed = rw c.take_right.ensures.after (map_over_more (λ right. None) c.args.rights.now.items c.loop-at.rights.items c.loop-at.at _ (omega (arith, c.requires)) c.loop-at.invariant.changed (get_or-own c.loop-at.rights.items c.loop-at.at None (omega (arith, c.loop-at.invariant.sized))));
  sized = rw (c.take_right.ensures.after, length-set) c.loop-at.invariant.sized;
}

pub returns : goal.returns
returns g c = c.loop-at.invariant.changed ∙ mapped_all (λ right. None) c.args.rights.now.items c.loop-at.at (omega (arith, c.requires))
