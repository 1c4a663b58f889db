use Rattle.sf_live_compositor.specs.Vsyncs.{Sitting}
use Rattle.sf_live_compositor.proofs.Due.{stage_due}
use Rattle.sf_live_compositor.proofs.compositor.CompositorVisit.visit.Goals as goal

pub make_next-requires-sync-R : goal.make_next-requires-sync-R
make_next-requires-sync-R g c = λ lives outlives. record { shared = c.requires.kept.1.0.shared }

pub make_next-requires-clause-kept : goal.make_next-requires-clause-kept
make_next-requires-clause-kept g c κs within = (c.requires.kept.0, c.requires.kept.1.1)

pub is_worth_a_thread-requires : goal.is_worth_a_thread-requires
is_worth_a_thread-requires g c =
    let start = c.requires.kept.0 in
    let now = c.make_next.new.self in
    let sitting : Sitting g.row.B.Denot = record { handler = now.decider.handler; seats = c.make_next.new.first.seats; number = now.vsyncs } in
    record {
      stage = stage_due _ g.B.TableName.table c.args.locks.now now.period now.shows.plan start.decider.handler.tree.most now.shows.timelines.items (g.K.Sink.taken start.sink.now) (g.K.Sink.taken now.sink.now) now.screens sitting now.due
          (c.in-Ok.ensures.kept start c.requires.kept.1.1).log.sits;
    }

pub settle-requires : goal.settle-requires
settle-requires g c = (
  record { shared = c.requires.kept.1.0.shared },
  (c.requires.kept.0, c.args.locks.now, c.make_next.new.first, c.in-Ok.ensures.kept c.requires.kept.0 c.requires.kept.1.1),
)

pub returns-in-Err-clause-ended : goal.returns-in-Err-clause-ended
returns-in-Err-clause-ended g c = λ start was.
    c.in-Err.ensures.ended start c.args.locks.now c.make_next.new.first (c.in-Ok.ensures.kept start was.1)
