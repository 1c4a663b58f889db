use Rattle.std.proofs.Common.{◌∙◌, ap, sym}
use Rattle.sf_calls_stamped.specs.Objects.{history_of}
use Rattle.sf_calls_stamped.specs.Stamps.{unstamped}
use Rattle.sf_calls_stamped.proofs.StampLemmas.{without_stamps}
use Rattle.sf_calls_stamped.proofs.stamped.Stamped.into_object.Goals as goal

pub returns-clause-history : goal.returns-clause-history
returns-clause-history g c =
    sym (without_stamps _ (g.O.Object.history c.self.inside.object) c.self.invariant.many) ∙ ap (λ s. unstamped (history_of g.O.Object.history s)) c.self.view_is
