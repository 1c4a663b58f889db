use Rattle.sf_live_seats.proofs.VsyncKnowledge.{seat_goes_on, vsync_ends}
use Rattle.sf_live_seats.proofs.compositing.vsync_through.Goals as goal

pub returns-clause-goes : goal.returns-clause-goes
returns-clause-goes g c =
    let ends = vsync_ends _ c.args.handler.now c.commit.new.self c.args.turns.now c.commit.new.eye c.args.arrived.items c.args.seen.now c.args.expected c.commit.result c.commit.ensures.decides c.commit.ensures.stops in
    seat_goes_on c.args.turns.now c.commit.new.eye ends.0 c.commit.ensures.mark ends.1 c.commit.ensures.keeps
