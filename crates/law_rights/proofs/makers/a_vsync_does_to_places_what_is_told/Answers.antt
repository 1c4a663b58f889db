use Rattle.std.proofs.Common.{ap}
use Rattle.sf_actor_set.specs.sf_actor.Makers.{BufferOf}
use Rattle.sf_actor_set.specs.sf_surface.Reading.{PlainLease}
use Rattle.law_rights.proofs.VsyncLedger.{vsync_returns}
use Rattle.law_rights.proofs.makers.a_vsync_does_to_places_what_is_told.Goals as goal

abbrev at : PlainLease → BufferOf
at plain = record { queue = plain.queue.0; number = plain.held.number }

pub returns-clause-tells : goal.returns-clause-tells
returns-clause-tells g c = λ one other same. ap at same

pub returns-clause-returns : goal.returns-clause-returns
returns-clause-returns g c = λ one. vsync_returns _ one.buffers one.before.home one.before.ofs one.before.view one.view one.before.handler one.handler one.vsync one.stands (λ a b same. ap at same)
