use Rattle.std.proofs.Common.{◌∙◌, sym, ap, refl}
use Rattle.sf_base.specs.Kept.{fence_of}
use Rattle.sf_base.proofs.NoPoints.{none_open, none_signalled}
use Rattle.sf_base.proofs.fences.Fence.first_open.Goals as goal

pub returns-in-None-clause-signalled : goal.returns-in-None-clause-signalled
returns-in-None-clause-signalled c = (λ e. none_signalled _ _ (sym c.self.view_is ∙ ap fence_of c.in-None.is), λ signalled. refl)

pub returns-in-None-clause-lowest : goal.returns-in-None-clause-lowest
returns-in-None-clause-lowest c = none_open _ _ (sym c.self.view_is ∙ ap fence_of c.in-None.is)
