use Rattle.std.proofs.Common.{List, ◌++◌, ◌∙◌, ap, filter, sym}
use Rattle.sf_play_report.specs.inner.Plans.{is_numbered}
use Rattle.sf_play_report.proofs.PlanLemmas.{rising_more}
use Rattle.sf_play_report.proofs.plan.rising.Goals as goal

pub loop-number-preserved : goal.loop-number-preserved
loop-number-preserved g c =
    c.in_ok-push_numbered.ensures
    ∙ (ap (λ (l : List g.row.T.Denot). l ++ filter (is_numbered g.T.Numbered.number_of c.loop-number.number) c.args.items.now) c.loop-number.invariant
    ∙ sym (rising_more g.T.Numbered.number_of c.args.items.now c.loop-number.number c.loop-number.auto.number))
