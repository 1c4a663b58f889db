use Rattle.std.proofs.Common.{ap, refl, subst, Some}
use Rattle.std.specs.Prelude.{ℕ, List}
use Rattle.sf_live.proofs.sf_play_write_lemmas.WritingLemmas.{one_part, one_written}
use Rattle.sf_live.specs.sf_play_write.Runs.{WroteRun}
use Rattle.sf_live.proofs.RunLemmas.{wanting}
use Rattle.sf_app.proofs.ShownLemmas.{cut_shows_nothing, err_then, ok_then, sum_shows, sum_shows_part}
use Rattle.sf_app.proofs.summary.sum_up.Goals as goal

pub returns-in-Ok : goal.returns-in-Ok
returns-in-Ok g c =
    let whole = subst (λ (t : List ℕ). WroteRun c.args.scene (Some t) (Some c.play.new.sink)) c.new-tally.ensures c.in-Ok.ensures.ok in
    record {
      ok = ok_then c.write_record.result (sum_shows c.args.scene c.play.new.sink c.summary.result _ _ whole c.summary.ensures)
          (one_written c.write_record.result _ _ _ _ refl c.write_record.ensures.ok c.write_record.ensures.fits);
      err = err_then c.write_record.result (sum_shows_part c.args.scene c.play.new.sink c.summary.result _ _ whole c.summary.ensures)
          (one_part c.write_record.result _ _ _ _ refl c.write_record.ensures.err c.write_record.ensures.begun (λ wanting. ap g.K.Sink.taken (c.write_record.ensures.nothing wanting)));
      later = c.write_record.ensures.later;
      failed = c.write_record.ensures.failed;
    }

pub returns-in-Err : goal.returns-in-Err
returns-in-Err g c = wanting _ _ _ (cut_shows_nothing c.args.scene _ _ (g.K.Sink.taken c.args.sink.now) c.in-Err.ensures.err)
