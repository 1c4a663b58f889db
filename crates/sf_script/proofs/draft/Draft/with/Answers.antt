use Rattle.sf_script.proofs.DraftLemmas.{few_names}
use Rattle.sf_script.proofs.draft.Draft.with.Goals as goal

pub invariant_of-result : goal.invariant_of-result
invariant_of-result c = record {
  few_names = rw c.in_ok-names.ensures (few_names _ _ c.self.invariant.few_names (rw (← c.self.view_is) at c.requires.fits.name));
  stacked = rw c.in_ok-scene.ensures (c.in_ok-layers.ensures _ c.self.invariant.stacked);
}
