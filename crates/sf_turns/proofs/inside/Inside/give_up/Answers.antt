use Rattle.std.proofs.Common.{sym, ap, ◌∙◌, refl}
use Rattle.sf_turns.specs.Views.{TurnView}
use Rattle.sf_turns.proofs.inside.Inside.give_up.Goals as goal

pub give_back-requires-clause-token : goal.give_back-requires-clause-token
give_back-requires-clause-token g c = (_, c.self.invariant.2, refl, (let e = c.deref-3.ensures in cc), c.requires ∙ sym (ap (λ (v : TurnView g.row.P-Stamp.Denot). v.expects) c.self.view_is))
