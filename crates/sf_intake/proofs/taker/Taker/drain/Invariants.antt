use Rattle.sf_intake.specs.Views.{HasPopped}
use Rattle.sf_intake.proofs.taker.Taker.drain.Given as goal

abbrev pub invariant-loop : goal.invariant-loop
invariant-loop g l = record {
  steps : (goal.iterator-loop g).can_next l.iterator' × (goal.iterator-loop g).is_finite l.iterator';
  popped : HasPopped l.fn.self l.self;
}
