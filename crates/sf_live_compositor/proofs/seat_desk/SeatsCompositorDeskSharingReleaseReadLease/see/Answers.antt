use Rattle.std.proofs.Common.{ap, ◌∙◌}
use Rattle.sf_live_threads.specs.sf_live_seats.declared.seats.Seats.{Seats}
use Rattle.sf_live_compositor.proofs.seat_desk.SeatsCompositorDeskSharingReleaseReadLease.see.Goals as goal

pub returns-clause-stands : goal.returns-clause-stands
returns-clause-stands g c = record { own = c.see.ensures.own; first = ap (λ (s : Seats g.row.B.Denot). s.by) c.see.ensures.same ∙ c.requires.stands.first }

pub returns-clause-sees : goal.returns-clause-sees
returns-clause-sees g c = record { sees = c.see.ensures.sees; same = c.see.ensures.same; stays = c.see.ensures.stays }
