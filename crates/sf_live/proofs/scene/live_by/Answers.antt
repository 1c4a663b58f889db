use Rattle.std.proofs.Common.{arith, rules}
use Rattle.sf_live_compositor.proofs.FaultCounts.{rose_since}
use Rattle.sf_live_compositor.specs.law_played.Played.{opening}
use Rattle.sf_live.proofs.CutRuns.{cut_unmade}
use Rattle.sf_live.proofs.scene.live_by.Goals as goal

pub returns-in-Err : goal.returns-in-Err
returns-in-Err g c = record {
  ok = tt;
  err = cut_unmade c.args.tells c.args.scene _ _ (c.in-Err.ensures.wrote (opening c.args.scene) c.opening.ensures).err;
  later = c.write_made.ensures.later;
  failed = search rules;
}

pub run_scene-requires-clause-begun : goal.run_scene-requires-clause-begun
run_scene-requires-clause-begun g c κs within = (g.K.Sink.taken c.args.sink.now, (c.in-Ok.ensures.wrote (opening c.args.scene) c.opening.ensures).ok)

pub returns : goal.returns
returns g c =
    let wrote = (c.in-Ok.ensures.wrote (opening c.args.scene) c.opening.ensures).ok in
    let ended = c.run_scene.ensures (g.K.Sink.taken c.args.sink.now) wrote in
    let before = c.write_made.ensures.later in
    let later = ended.later in
    record {
      ok = ended.ok;
      err = ended.err;
      later = omega (arith, before, later);
      failed = λ fails. rose_since _ _ _ before (ended.failed fails);
    }
