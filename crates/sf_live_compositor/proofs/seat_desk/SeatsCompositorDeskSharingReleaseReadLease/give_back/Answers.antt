use Rattle.std.proofs.Common.{ap, subst, ◌∙◌}
use Rattle.std.specs.Prelude.{OnOk}
use Rattle.sf_live_threads.specs.sf_commit.Releases.{ReleaseOf}
use Rattle.sf_live_threads.specs.sf_surface.declared.call.QCall.TheVariants as call
use Rattle.sf_live_threads.specs.sf_surface.declared.call.QReply.{QReply}
use Rattle.sf_live_threads.specs.sf_surface.Tokens.{ReadLeaseOf}
use Rattle.sf_live_threads.specs.sf_actor.Desks.{MadeCall}
use Rattle.sf_live_threads.specs.sf_live_seats.declared.seats.Seats.{Seats}
use Rattle.sf_live_threads.specs.sf_live_seats.Seats.{home_of, view_of}
use Rattle.sf_live_compositor.proofs.ReturnedFrame.{ends_given, given, gives_back, gives_it, step_given}
use Rattle.sf_live_compositor.proofs.seat_desk.SeatsCompositorDeskSharingReleaseReadLease.give_back.Goals as goal

pub settle-requires-clause-ends : goal.settle-requires-clause-ends
settle-requires-clause-ends g c =
    let home = home_of c.args.with.now.locks.now c.args.self.now in
    ends_given home (view_of c.args.self.now) (view_of c.call.new.self) c.args.self.now.by c.args.number c.frame.inside.queue.0 c.frame.inside.lease c.frame.inside.fence c.requires.stands.first c.call.result c.call.ensures.made

pub returns-clause-stands : goal.returns-clause-stands
returns-clause-stands g c = record { own = c.call.ensures.own; first = ap (λ (s : Seats g.row.B.Denot). s.by) c.call.ensures.changes.same ∙ c.requires.stands.first }

pub returns-clause-gives : goal.returns-clause-gives
returns-clause-gives g c =
    let home = home_of c.args.with.now.locks.now c.args.self.now in
    gives_back g.B.TableName.table c.args.with.now.locks.now c.args.number c.args.frame c.args.self.now c.call.new.self c.settle.result c.call.ensures.changes
    (step_given _ c.call.result c.settle.result c.settle.ensures c.call.ensures.step)
    (gives_it home (view_of c.args.self.now) (view_of c.call.new.self) c.args.number c.args.frame c.settle.result
    (subst
    (λ (r : ReleaseOf ReadLeaseOf). OnOk c.settle.result ((reply : QReply g.row.B.Denot)
    × MadeCall home (view_of c.args.self.now) (view_of c.call.new.self) 0 r.queue.0 (c.args.number, call.Release r.lease r.fence) reply)) c.frame.view_is
    (given home (view_of c.args.self.now) (view_of c.call.new.self) c.args.self.now.by c.args.number c.frame.inside.queue.0 c.frame.inside.lease c.frame.inside.fence c.requires.stands.first c.call.result c.settle.result
    c.settle.ensures c.call.ensures.made)))
