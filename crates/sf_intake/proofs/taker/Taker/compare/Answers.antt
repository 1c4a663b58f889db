use Rattle.std.proofs.Common.{ap, ◌∙◌, sym}
use Rattle.sf_intake.specs.Passes.{known}
use Rattle.sf_intake.specs.Views.{SenderView, TakerView}
use Rattle.sf_intake.proofs.TakerLemmas.{begins_told}
use Rattle.sf_intake.proofs.taker.Taker.compare.Goals as goal

pub returns-clause-begins : goal.returns-clause-begins
returns-clause-begins g c =
    begins_told c.args.self.now c.args.sender.now (known c.self.inside.pass) (known c.sender.inside.pass)
    (ap (λ (t : TakerView g.row.L.Denot). t.taken) (sym c.self.view_is))
    (c.sender.invariant.0.number ∙ ap (λ (s : SenderView g.row.L.Denot). s.by.0) c.sender.view_is)
    (ap (λ (s : SenderView g.row.L.Denot). s.sent) c.sender.view_is) c.compare.ensures.ahead
