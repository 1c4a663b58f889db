use Rattle.std.proofs.Common.{Bool, OnErr, OnOk, subst}
use Rattle.sf_live_compositor.proofs.FaultCounts.{rose_since}
use Rattle.sf_live_compositor.proofs.sf_play_write_lemmas.ClosingLemmas.{few_steps}
use Rattle.sf_live_compositor.proofs.sf_play_write_lemmas.WritingLemmas.{still_later}
use Rattle.sf_live_compositor.specs.sf_play.Players.{home_in}
use Rattle.sf_live.specs.Runs.{CutLive, WroteLive}
use Rattle.sf_live.proofs.EndLemmas.{live_cut, live_written}
use Rattle.sf_live.proofs.rounds.write_rounds.Goals as goal

pub write_rest-requires : goal.write_rest-requires
write_rest-requires g c =
    let has = c.in-Ok.ensures.ended.ok c.requires.shown.0 c.requires.shown.1 c.requires.shown.2 in
    few_steps g.B.TableName.table c.requires.shown.0 has.so c.show_rounds.new.run.player has.stands

pub returns : goal.returns
returns g c = λ scene start shown.
    let has = c.in-Ok.ensures.ended.ok scene start shown in
    record {
      ok =
          subst (λ (tells : Bool). OnOk c.write_rest.result (WroteLive tells scene start (g.K.Sink.taken c.write_rest.new.sink))) c.in-Ok.ensures.told
          (live_written g.B.TableName.table scene start (g.K.Sink.taken c.show_rounds.new.sink) (g.K.Sink.taken c.write_rest.new.sink) c.show_rounds.new.run.player has c.write_rest.result c.write_rest.ensures.ok);
      err =
          subst (λ (tells : Bool). OnErr c.write_rest.result (CutLive tells scene start (g.K.Sink.taken c.write_rest.new.sink))) c.in-Ok.ensures.told
          (live_cut g.B.TableName.table scene start (g.K.Sink.taken c.show_rounds.new.sink) (g.K.Sink.taken c.write_rest.new.sink) c.show_rounds.new.run.player has c.write_rest.result c.write_rest.ensures.err);
      later = still_later _ _ _ c.show_rounds.ensures.ended.later c.write_rest.ensures.later;
      failed = λ is. rose_since _ _ _ c.show_rounds.ensures.ended.later (c.write_rest.ensures.failed is);
    }

pub returns-in-Err : goal.returns-in-Err
returns-in-Err g c = λ scene start shown. record {
  ok = tt;
  err = c.in-Err.ensures.ended.err (home_in c.args.run.now.player.play).tells scene start shown;
  later = c.show_rounds.ensures.ended.later;
  failed = c.in-Err.ensures.ended.failed;
}
