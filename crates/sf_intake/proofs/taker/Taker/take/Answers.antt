use Rattle.sf_intake.proofs.TakerLemmas.{popped_and_gave}
use Rattle.sf_intake.proofs.taker.Taker.take.Goals as goal

pub returns-clause-ok : goal.returns-clause-ok
returns-clause-ok g c = popped_and_gave g.N.LeaseHome.holds c.args.self.now c.fill.new.self c.hand_over.new.self c.in_ok-list.list.items c.in_ok-fill.ensures.popped c.in_ok-fill.ensures.dry c.in_ok-list.ensures.ok c.in_ok-list.ensures.few c.in_ok-list.ensures.short
