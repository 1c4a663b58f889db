use Rattle.std.proofs.Common.{Err, ap, arith, refl, sym, ◌∙◌}
use Rattle.sf_play_write.specs.declared.shows.Shows.{Shows}
use Rattle.sf_play_write.specs.sf_record.declared.encode.RunFault.{RunFault}
use Rattle.sf_live_threads.specs.sf_live_seats.declared.first.FirstSeats.{FirstSeats}
use Rattle.sf_live_threads.proofs.sf_live_seats_lemmas.FirstSeatsKept.{stays_first}
use Rattle.sf_live_compositor.specs.Vsyncs.{Sitting}
use Rattle.sf_live_compositor.proofs.Due.{cut_due, cut_so, keeps_log, sits_behind, stage_due}
use Rattle.sf_live_compositor.proofs.FaultCounts.{rose_since, same_fault}
use Rattle.sf_live_compositor.proofs.compositor.Compositor.make_next.Goals as goal

pub show_next-requires-clause-next : goal.show_next-requires-clause-next
show_next-requires-clause-next g c κs within =
    let kept = c.requires.kept.1 in
    record { set = kept.log.set; own = c.requires.first.own; first = c.requires.first.number; early = omega (arith, c.requires.few); may = kept.log.may }

pub show_next-requires-clause-stage : goal.show_next-requires-clause-stage
show_next-requires-clause-stage g c κs within =
    let self = c.args.self.now in
    let start = c.requires.kept.0 in
    let old : Sitting g.row.B.Denot = record { handler = self.decider.handler; seats = c.args.first.now.seats; number = self.vsyncs } in
    stage_due _ g.B.TableName.table c.args.locks.now self.period self.shows.plan start.decider.handler.tree.most self.shows.timelines.items (g.K.Sink.taken start.sink.now) (g.K.Sink.taken self.sink.now) self.screens old self.due
    c.requires.kept.1.log.sits

pub returns-in-Ok-clause-first : goal.returns-in-Ok-clause-first
returns-in-Ok-clause-first g c =
    let new : FirstSeats g.row.B.Denot = record { seats = c.show_next.new.seats; took = c.args.first.now.took } in
    let vsync = c.in-Ok.ensures.makes.vsync in
    stays_first g.B.TableName.table c.args.locks.now c.args.first.now new c.requires.first vsync.own vsync.stays refl

pub returns-in-Ok-clause-kept : goal.returns-in-Ok-clause-kept
returns-in-Ok-clause-kept g c = λ start kept.
    let self = c.args.self.now in
    let now = c.show_next.new.self in
    let same = c.show_next.ensures.same in
    let report = c.in-Ok.made.report in
    let plan = self.shows.plan in
    let timelines = self.shows.timelines.items in
    let most = start.decider.handler.tree.most in
    let old : Sitting g.row.B.Denot = record { handler = self.decider.handler; seats = c.args.first.now.seats; number = self.vsyncs } in
    let new : Sitting g.row.B.Denot = record { handler = now.decider.handler; seats = c.show_next.new.seats; number = now.vsyncs } in
    let counted = c.in-Ok.ensures.makes.vsync.counted in
    let faults = c.show_next.ensures.ended.later in
    let rose = kept.faults_rise in
    record {
      same = record {
        workers = same.workers ∙ kept.same.workers;
        shows = same.shows ∙ kept.same.shows;
        period = same.period ∙ kept.same.period;
        sink = same.sink ∙ kept.same.sink;
      };
      few = omega (arith, counted, c.requires.few);
      log = keeps_log self.period now.period self.shows now.shows (sym same.period) (sym same.shows) (record {
        set = kept.log.set;
        sits =
            sits_behind _ g.B.TableName.table c.args.locks.now self.period plan most timelines (g.K.Sink.taken start.sink.now) (g.K.Sink.taken self.sink.now) self.screens old
            (g.K.Sink.taken now.sink.now) now.screens self.due new report kept.log.sits c.in-Ok.ensures.written c.in-Ok.ensures.ended.ok c.in-Ok.ensures.makes c.in-Ok.ensures.stage;
        may = c.in-Ok.ensures.may;
      });
      faults_rise = omega (arith, rose, faults);
    }

pub returns-in-Err-clause-ended : goal.returns-in-Err-clause-ended
returns-in-Err-clause-ended g c = λ start kept.
    let self = c.args.self.now in
    let now = c.show_next.new.self in
    let same = c.show_next.ensures.same in
    let old : Sitting g.row.B.Denot = record { handler = self.decider.handler; seats = c.args.first.now.seats; number = self.vsyncs } in
    let faults = c.show_next.ensures.ended.later in
    let rose = kept.faults_rise in
    record {
      same = record {
        workers = same.workers ∙ kept.same.workers;
        shows = same.shows ∙ kept.same.shows;
        period = same.period ∙ kept.same.period;
        sink = same.sink ∙ kept.same.sink;
      };
      cut = cut_so self.period start.period self.shows.plan start.shows.plan start.decider.handler.tree.most self.shows.timelines.items start.shows.timelines.items kept.same.period
          (ap (λ (s : Shows). s.plan) kept.same.shows) (ap (λ (s : Shows). s.timelines.items) kept.same.shows)
          (cut_due _ g.B.TableName.table c.args.locks.now self.period self.shows.plan start.decider.handler.tree.most self.shows.timelines.items (g.K.Sink.taken start.sink.now) (g.K.Sink.taken self.sink.now) self.screens old
          self.due (g.K.Sink.taken now.sink.now) kept.log.sits c.in-Err.ensures.ended.err);
      faults_rise = omega (arith, rose, faults);
      failed = λ is. rose_since (g.K.Sink.faults start.sink.now) (g.K.Sink.faults self.sink.now) (g.K.Sink.faults now.sink.now) rose
          (c.show_next.ensures.ended.failed (c.in-Err.is ∙ ap (λ (f : RunFault). Err f) (same_fault c.in-Err.fault is)));
    }
