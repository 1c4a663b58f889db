use Rattle.std.proofs.Common.{Some, Err, ap, arith, refl, sym, ◌∙◌}
use Rattle.sf_play_write.specs.declared.shows.Shows.{Shows}
use Rattle.sf_play_write.specs.sf_record.declared.encode.RunFault.{RunFault}
use Rattle.sf_live_compositor.specs.Vsyncs.{Sitting}
use Rattle.sf_live_compositor.proofs.Due.{cut_by, cut_due, cut_so, sits_all, sits_then, told_by, written_by}
use Rattle.sf_live_compositor.proofs.FaultCounts.{rose_since, same_fault}
use Rattle.sf_live_compositor.proofs.compositor.Compositor.settle.Goals as goal

pub returns-in-Ok-clause-kept : goal.returns-in-Ok-clause-kept
returns-in-Ok-clause-kept g c = λ start locks first was.
    let self = c.args.self.now in
    let plan = self.shows.plan in
    let timelines = self.shows.timelines.items in
    let due = sym c.in-Some.is ∙ c.take.ensures.value in
    let sitting : Sitting g.row.B.Denot = record { handler = self.decider.handler; seats = first.seats; number = self.vsyncs } in
    let faults = c.show_vsync.ensures.ended.later in
    let rose = was.faults_rise in (
      record {
        same = record { workers = was.same.workers; shows = was.same.shows; period = was.same.period; sink = was.same.sink };
        few = was.few;
        log = record {
          set = was.log.set;
          sits =
              sits_all _ g.B.TableName.table locks self.period plan start.decider.handler.tree.most timelines (g.K.Sink.taken start.sink.now) (g.K.Sink.taken c.show_vsync.new.sink) c.show_vsync.new.screens sitting c.take.new.self c.take.ensures.after
              (sits_then _ g.B.TableName.table locks self.period plan start.decider.handler.tree.most timelines (g.K.Sink.taken start.sink.now) (g.K.Sink.taken self.sink.now) self.screens sitting
              (g.K.Sink.taken c.show_vsync.new.sink) c.show_vsync.new.screens self.due was.log.sits
              (written_by plan (g.K.Sink.taken self.sink.now) (g.K.Sink.taken c.show_vsync.new.sink) self.screens c.show_vsync.new.screens self.decider.handler timelines timelines (Some c.in-Some.report) self.due refl due c.in-Ok.ensures.ok)
              (told_by plan (g.K.Sink.taken self.sink.now) (g.K.Sink.taken c.show_vsync.new.sink) self.decider.handler timelines timelines (Some c.in-Some.report) self.due refl due c.in-Ok.ensures.ended.ok));
          may = was.log.may;
        };
        faults_rise = omega (arith, rose, faults);
      },
      c.take.ensures.after,
    )

pub returns-in-Err-clause-ended : goal.returns-in-Err-clause-ended
returns-in-Err-clause-ended g c = λ start locks first was.
    let self = c.args.self.now in
    let plan = self.shows.plan in
    let timelines = self.shows.timelines.items in
    let due = sym c.in-Some.is ∙ c.take.ensures.value in
    let sitting : Sitting g.row.B.Denot = record { handler = self.decider.handler; seats = first.seats; number = self.vsyncs } in
    let faults = c.show_vsync.ensures.ended.later in
    let rose = was.faults_rise in
    record {
      same = record { workers = was.same.workers; shows = was.same.shows; period = was.same.period; sink = was.same.sink };
      cut = cut_so self.period start.period plan start.shows.plan start.decider.handler.tree.most timelines start.shows.timelines.items was.same.period
          (ap (λ (s : Shows). s.plan) was.same.shows) (ap (λ (s : Shows). s.timelines.items) was.same.shows)
          (cut_due _ g.B.TableName.table locks self.period plan start.decider.handler.tree.most timelines (g.K.Sink.taken start.sink.now) (g.K.Sink.taken self.sink.now) self.screens sitting
          self.due (g.K.Sink.taken c.show_vsync.new.sink) was.log.sits
          (cut_by plan (g.K.Sink.taken self.sink.now) (g.K.Sink.taken c.show_vsync.new.sink) self.decider.handler timelines timelines (Some c.in-Some.report) self.due refl due c.in-Err.ensures.ended.err));
      faults_rise = omega (arith, rose, faults);
      failed = λ is. rose_since (g.K.Sink.faults start.sink.now) (g.K.Sink.faults self.sink.now) (g.K.Sink.faults c.show_vsync.new.sink) rose
          (c.show_vsync.ensures.ended.failed (c.in-Err.is ∙ ap (λ (f : RunFault). Err f) (same_fault c.in-Err.fault is)));
    }
