use Rattle.std.proofs.Common.{ap, ◌∙◌}
use Rattle.sf_live_threads.specs.sf_live_seats.declared.seats.Seats.{Seats}
use Rattle.sf_live_compositor.proofs.SeatGrowth.{first_on}
use Rattle.sf_live_compositor.proofs.seat_desk.SeatsCompositorDeskSharingReleaseReadLease.decide.Goals as goal

pub vsync-requires : goal.vsync-requires
vsync-requires g c = record {
  own = c.take.ensures.own.own_turns;
  rising = λ alive. c.requires.rising c.take.new.self c.in_ok-arrived.arrived.items (record { own = c.take.ensures.own; changes = c.take.ensures.changes; takes = c.in_ok-arrived.ensures.took });
}

pub returns-in_err-arrived-clause-stands : goal.returns-in_err-arrived-clause-stands
returns-in_err-arrived-clause-stands g c =
    record { own = c.take.ensures.own; first = ap (λ (s : Seats g.row.B.Denot). s.by) c.take.ensures.changes.same ∙ c.requires.stands.first }

pub returns-in_err-committed-clause-stands : goal.returns-in_err-committed-clause-stands
returns-in_err-committed-clause-stands g c =
    first_on g.B.TableName.table c.args.with.now.locks.now c.take.new.self c.vsync.new.self (record { same = c.vsync.ensures.same; goes = c.vsync.ensures.goes })
    (record { own = c.take.ensures.own; first = ap (λ (s : Seats g.row.B.Denot). s.by) c.take.ensures.changes.same ∙ c.requires.stands.first })

pub returns-clause-stands : goal.returns-clause-stands
returns-clause-stands g c =
    first_on g.B.TableName.table c.args.with.now.locks.now c.take.new.self c.vsync.new.self (record { same = c.vsync.ensures.same; goes = c.vsync.ensures.goes })
    (record { own = c.take.ensures.own; first = ap (λ (s : Seats g.row.B.Denot). s.by) c.take.ensures.changes.same ∙ c.requires.stands.first })

pub returns-clause-decides : goal.returns-clause-decides
returns-clause-decides g c = record {
  took = c.take.new.self;
  arrived = c.in_ok-arrived.arrived.items;
  takes = record { own = c.take.ensures.own; changes = c.take.ensures.changes; takes = c.in_ok-arrived.ensures.took };
  decides = c.in_ok-committed.ensures.decides;
  same = record { same = c.vsync.ensures.same; goes = c.vsync.ensures.goes };
}
