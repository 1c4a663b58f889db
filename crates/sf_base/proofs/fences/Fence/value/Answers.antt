use Rattle.std.proofs.Common.{◌∙◌, sym, ap}
use Rattle.sf_base.specs.Kept.{fence_of}
use Rattle.sf_base.proofs.NoPoints.{no_value}
use Rattle.sf_base.proofs.fences.Fence.value.Goals as goal

pub returns-in-None : goal.returns-in-None
returns-in-None c = sym (no_value _ _ (sym c.self.view_is ∙ ap fence_of c.in-None.is) c.requires.0 c.requires.1)
