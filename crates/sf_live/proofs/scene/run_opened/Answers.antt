use Rattle.std.proofs.Common.{◌≤◌, Bool, ap, arith, refl, rules, subst, sym, OnErr, OnOk}
use Rattle.sf_io.specs.Causes.{Rose}
use Rattle.sf_live_compositor.proofs.FaultCounts.{rose_since}
use Rattle.sf_live_compositor.proofs.sf_live_threads_lemmas.AttendLemmas.{of_ok}
use Rattle.sf_live_compositor.specs.sf_commit.Handlers.{HandlerOf}
use Rattle.sf_live_compositor.specs.sf_surface.Tokens.{ReadLeaseOf}
use Rattle.sf_live_compositor.specs.sf_live_seats.Seats.{tells_of}
use Rattle.sf_live.specs.Runs.{CutLive, LiveEnded, WroteLive}
use Rattle.sf_live.proofs.CutRuns.{cut_made}
use Rattle.sf_live.proofs.GoingOn.{shown_so}
use Rattle.sf_live.proofs.RunLemmas.{goes_from, has_come, of_err, run_came, starts_here}
use Rattle.sf_live.proofs.scene.run_opened.Goals as goal

pub run_threads-compositor-requires-clause-starts : goal.run_threads-compositor-requires-clause-starts
run_threads-compositor-requires-clause-starts g c κs within =
    let m = c.requires.starts.2 in (
      c.requires.starts.0,
      m.opens,
      starts_here _ c.requires.starts.0 m refl refl refl refl refl c.new.ensures refl,
    )

pub go_on-resumed-requires : goal.go_on-resumed-requires
go_on-resumed-requires g c =
    let m = c.requires.starts.2 in
    let came = of_ok _ c.run_threads-compositor.result.1 c.in-Ok.joined c.in-Ok.is
    (c.run_threads-compositor.ensures.together c.requires.starts.0 m.opens (starts_here _ c.requires.starts.0 m refl refl refl refl refl c.new.ensures refl)) in
    record {
      goes = (
        run_came _ _ _ _ _ _ _ _ c.in-Ok.joined came,
        c.args.opened.locks,
        c.requires.starts.1,
        (came.together, goes_from _ _ _ _ _ _ _ _ c.in-Ok.joined came c.requires.starts.1 c.args.opened c.args.setup _ _ refl m c.into_handler-handler.ensures refl),
      );
    }

pub run_rounds-requires-clause-shown : goal.run_rounds-requires-clause-shown
run_rounds-requires-clause-shown g c κs within =
    let m = c.requires.starts.2 in
    let came = of_ok _ c.run_threads-compositor.result.1 c.in-Ok.joined c.in-Ok.is
    (c.run_threads-compositor.ensures.together c.requires.starts.0 m.opens (starts_here _ c.requires.starts.0 m refl refl refl refl refl c.new.ensures refl)) in
    let now = c.run_threads-compositor.result.0 in
    let run = run_came _ _ _ _ _ _ _ _ c.in-Ok.joined came in (
      c.requires.starts.0,
      c.requires.starts.1,
      shown_so g.B.TableName.table run c.requires.starts.1 (g.K.Sink.taken now.sink.now) now.shows.timelines.items now.shows.timelines.items now.shows.plan now.screens c.go_on-resumed.result.player
          (has_come _ _ _ _ _ _ _ _ c.in-Ok.joined came m.asked.planned) refl
          (c.go_on-resumed.ensures.shown run c.args.opened.locks c.requires.starts.1 (
            came.together,
            goes_from _ _ _ _ _ _ _ _ c.in-Ok.joined came c.requires.starts.1 c.args.opened c.args.setup _ _ refl m c.into_handler-handler.ensures refl,
          )),
    )

pub returns-in-Err : goal.returns-in-Err
returns-in-Err g c = λ scene start m.
    let was = of_err _ c.run_threads-compositor.result.1 c.in-Err.fault c.in-Err.is c.run_threads-compositor.ensures.cut in
    let name = sym was.same.sink in
    record {
      ok = tt;
      err =
          subst (λ s. CutLive (tells_of c.args.opened.locks) scene start (g.K.Sink.taken s)) (search rules)
          (cut_made (tells_of c.args.opened.locks) scene start _ _ g.B.TableName.table _ _ _ _ _ m.same_period m.asked.planned (ap (λ (h : HandlerOf ReadLeaseOf). h.tree.most) m.handler_is) m.asked.rising m.begun was.cut);
      later = search rules;
      failed = search rules;
    }

pub returns-in-Ok : goal.returns-in-Ok
returns-in-Ok g c = λ scene start m.
    let came = of_ok _ c.run_threads-compositor.result.1 c.in-Ok.joined c.in-Ok.is
    (c.run_threads-compositor.ensures.together scene m.opens (starts_here _ scene m refl refl refl refl refl c.new.ensures refl)) in
    let name = sym came.same.sink in
    let now = c.run_threads-compositor.result.0 in
    let run = run_came _ _ _ _ _ _ _ _ c.in-Ok.joined came in
    let shown =
    shown_so g.B.TableName.table run start (g.K.Sink.taken now.sink.now) now.shows.timelines.items now.shows.timelines.items now.shows.plan now.screens c.go_on-resumed.result.player
    (has_come _ _ _ _ _ _ _ _ c.in-Ok.joined came m.asked.planned) refl
    (c.go_on-resumed.ensures.shown run c.args.opened.locks start (
      came.together,
      goes_from _ _ _ _ _ _ _ _ c.in-Ok.joined came start c.args.opened c.args.setup _ _ refl m c.into_handler-handler.ensures refl,
    )) in
    let ended =
    subst (λ (tells : Bool). LiveEnded tells scene c.run_rounds.result start (g.K.Sink.taken c.run_rounds.new.sink) (g.K.Sink.faults now.sink.now) (g.K.Sink.faults c.run_rounds.new.sink))
    (c.go_on-resumed.ensures.told run c.args.opened.locks came.together) (c.run_rounds.ensures scene start shown) in
    let rose = came.faults_rise in
    let later = ended.later in
    record {
      ok = subst (λ s. OnOk c.run_rounds.result (WroteLive (tells_of c.args.opened.locks) scene start (g.K.Sink.taken s))) (sym (c.sink-1.given.1 name)) ended.ok;
      err = subst (λ s. OnErr c.run_rounds.result (CutLive (tells_of c.args.opened.locks) scene start (g.K.Sink.taken s))) (sym (c.sink-1.given.1 name)) ended.err;
      later = subst (λ s. g.K.Sink.faults c.args.sink.now ≤ g.K.Sink.faults s) (sym (c.sink-1.given.1 name)) (omega (arith, rose, later));
      failed = λ fails.
          subst (λ s. Rose (g.K.Sink.faults c.args.sink.now) (g.K.Sink.faults s)) (sym (c.sink-1.given.1 name))
          (rose_since _ _ _ came.faults_rise (ended.failed fails));
    }
