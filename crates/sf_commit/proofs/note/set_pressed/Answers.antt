use Rattle.std.proofs.Common.{ap}
use Rattle.sf_commit_next.specs.sf_ready.Facts.{FactsOf}
use Rattle.sf_commit.proofs.PressedLemmas.{removed_one}
use Rattle.sf_commit.proofs.note.set_pressed.Goals as goal

pub returns-clause-pressed : goal.returns-clause-pressed
returns-clause-pressed c =
    removed_one c.args.layer c.args.has c.facts.inside.pressed.keys c.remove.new.self.keys c.args.facts.now.pressed c.if-has.false
    (ap (λ (f : FactsOf). f.pressed) c.facts.view_is) (λ k. c.remove.ensures.updates.0 k)
