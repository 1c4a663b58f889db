use Rattle.std.proofs.Common.{arith, subst}
use Rattle.sf_play.specs.sf_script_scene.Limits.{IsWithinLimits}
use Rattle.sf_play_write.proofs.RunLemmas.{nothing_written}
use Rattle.sf_play_write.proofs.play.show_play.Goals as goal

pub returns-in-Err : goal.returns-in-Err
returns-in-Err g c = record {
  ok = tt;
  err = nothing_written c.args.scene (g.K.Sink.taken c.args.sink.now) (subst IsWithinLimits c.scene.view_is c.scene.invariant);
  later = omega arith;
  failed = λ fails. absurd (cc fails);
}

pub write_play-written-requires-clause-ready : goal.write_play-written-requires-clause-ready
write_play-written-requires-clause-ready g c = λ lives outlives. (
  c.args.scene,
  record { begins = c.in-Ok-new.ensures; asked = c.in-Ok.ensures; opens = c.opening-first.ensures },
)

pub returns-in-Ok-new : goal.returns-in-Ok-new
returns-in-Ok-new g c = c.write_play-written.ensures c.args.scene (record { begins = c.in-Ok-new.ensures; asked = c.in-Ok.ensures; opens = c.opening-first.ensures })

pub returns : goal.returns
returns g c = record {
  ok = tt;
  err = nothing_written c.args.scene (g.K.Sink.taken c.args.sink.now) (subst IsWithinLimits c.scene.view_is c.scene.invariant);
  later = omega arith;
  failed = λ fails. absurd (cc fails);
}
