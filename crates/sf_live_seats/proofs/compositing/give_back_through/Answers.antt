use Rattle.sf_live_seats.proofs.VsyncKnowledge.{seat_goes_on}
use Rattle.sf_live_seats.proofs.compositing.give_back_through.Goals as goal

pub returns-clause-goes : goal.returns-clause-goes
returns-clause-goes g c =
    let reads = c.give_back.ensures.reads in seat_goes_on c.args.turns.now c.give_back.new.eye _ reads.mark reads.ends reads.keeps
