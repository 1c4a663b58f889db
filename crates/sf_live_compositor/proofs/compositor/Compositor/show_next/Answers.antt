use Rattle.std.proofs.Common.{◌≤◌, Option, ap, arith, subst, sym, ◌∙◌, OnErr, OnOk}
use Rattle.std.specs.Prelude.{IfSome}
use Rattle.sf_play_write.specs.sf_play.Playing.{expected_by}
use Rattle.sf_play_write.specs.sf_play_report.Stages.{IsStage}
use Rattle.sf_play_write.specs.sf_play_report.declared.report.VsyncReport.{VsyncReport}
use Rattle.sf_live_compositor.specs.Sitting.{CutsDue, TellsDue, WritesDue}
use Rattle.sf_live_compositor.proofs.Due.{on_any, on_fault}
use Rattle.sf_live_compositor.proofs.compositor.Compositor.show_next.Goals as goal

pub returns-in-None-clause-same : goal.returns-in-None-clause-same
returns-in-None-clause-same g c = let same = c.show_first.ensures.same in record { workers = same.workers; shows = same.shows; period = same.period; sink = same.sink }

pub returns-in-None-clause-written : goal.returns-in-None-clause-written
returns-in-None-clause-written g c =
    let self = c.args.self.now in
    let new = c.show_first.new.self in
    on_any c.show_first.result
    (subst (λ (due : Option VsyncReport). WritesDue self.shows.plan self.shows.timelines.items (g.K.Sink.taken self.sink.now) (g.K.Sink.taken new.sink.now) self.screens new.screens self.decider.handler due)
    (sym c.in-None.is ∙ c.take.ensures.value) (ap (λ s. g.K.Sink.taken s.now) c.show_first.ensures.sink, c.show_first.ensures.shown))

pub show_behind-requires-clause-stage : goal.show_behind-requires-clause-stage
show_behind-requires-clause-stage g c κs within =
    let self = c.args.self.now in
    subst (λ (due : Option VsyncReport). IfSome due (λ (last : VsyncReport). IsStage expected_by self.shows.plan self.decider.handler)) (sym c.take.ensures.value ∙ c.in-Some.is) c.requires.stage

pub returns-in-Some-clause-same : goal.returns-in-Some-clause-same
returns-in-Some-clause-same g c = let same = c.show_behind.ensures.same in record { workers = same.workers; shows = same.shows; period = same.period; sink = same.sink }

pub returns-in-Some-clause-written : goal.returns-in-Some-clause-written
returns-in-Some-clause-written g c =
    let self = c.args.self.now in
    let new = c.show_behind.new.self in
    subst (λ (due : Option VsyncReport). OnOk c.show_behind.result (WritesDue self.shows.plan self.shows.timelines.items (g.K.Sink.taken self.sink.now) (g.K.Sink.taken new.sink.now) self.screens new.screens self.decider.handler due))
    (sym c.in-Some.is ∙ c.take.ensures.value) c.show_behind.ensures.written

pub returns-in-None-clause-ended : goal.returns-in-None-clause-ended
returns-in-None-clause-ended g c =
    let self = c.args.self.now in
    let new = c.show_first.new.self in
    let none = sym c.in-None.is ∙ c.take.ensures.value in
    record {
      ok = on_any c.show_first.result
          (subst (λ (due : Option VsyncReport). TellsDue self.shows.plan self.shows.timelines.items (g.K.Sink.taken self.sink.now) (g.K.Sink.taken new.sink.now) self.decider.handler due)
          none (ap (λ s. g.K.Sink.taken s.now) c.show_first.ensures.sink));
      err = on_fault c.show_first.result
          (subst (λ (due : Option VsyncReport). CutsDue self.shows.plan self.shows.timelines.items (g.K.Sink.taken self.sink.now) (g.K.Sink.taken new.sink.now) self.decider.handler due)
          none (ap (λ s. g.K.Sink.taken s.now) c.show_first.ensures.sink));
      later = subst (λ s. g.K.Sink.faults self.sink.now ≤ g.K.Sink.faults s.now) (sym c.show_first.ensures.sink) (omega arith);
      failed = λ fails. absurd (c.show_first.ensures.failed fails);
    }

pub returns-in-Some-clause-ended : goal.returns-in-Some-clause-ended
returns-in-Some-clause-ended g c =
    let self = c.args.self.now in
    let new = c.show_behind.new.self in
    let last = sym c.in-Some.is ∙ c.take.ensures.value in
    let ended = c.show_behind.ensures.ended in
    record {
      ok = subst (λ (due : Option VsyncReport). OnOk c.show_behind.result (TellsDue self.shows.plan self.shows.timelines.items (g.K.Sink.taken self.sink.now) (g.K.Sink.taken new.sink.now) self.decider.handler due))
          last ended.ok;
      err = subst (λ (due : Option VsyncReport). OnErr c.show_behind.result (CutsDue self.shows.plan self.shows.timelines.items (g.K.Sink.taken self.sink.now) (g.K.Sink.taken new.sink.now) self.decider.handler due))
          last ended.err;
      later = ended.later;
      failed = ended.failed;
    }
