use Rattle.std.proofs.Common.{◌≡◌, ap}
use Rattle.sf_actor_set.specs.sf_actor.Makers.{BufferOf}
use Rattle.sf_actor_set.specs.sf_surface.Reading.{PlainLease}
use Rattle.law_rights.proofs.InTurnSteps.{vsync_in_turn}
use Rattle.law_rights.proofs.turns.a_vsync_leaves_draws_in_turn.Goals as goal

abbrev at : PlainLease → BufferOf
at plain = record { queue = plain.queue.0; number = plain.held.number }

pub returns : goal.returns
returns g c = λ vsync draws.
    let one = vsync.one in
    vsync_in_turn vsync.scene one.before.home one.before.ofs one.before.view one.before.handler _ one.buffers one.view one.handler one.vsync one.stands (λ a b same. ap at same) vsync.declared vsync.makers draws
