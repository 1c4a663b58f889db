use Rattle.std.proofs.Common.{◌≡◌, ap, arith, subst}
use Rattle.std.specs.Prelude.{IfOk}
use Rattle.sf_play_write.proofs.WritingLemmas.{one_part, one_written, part_none}
use Rattle.sf_play_write.proofs.writing.write_made.Goals as goal

pub returns-in-Ok-clause-wrote : goal.returns-in-Ok-clause-wrote
returns-in-Ok-clause-wrote g c = λ shown is.
    let same = subst (λ m. IfOk m (λ it. it ≡ shown)) c.in-Ok.is is in
    record {
      ok = one_written c.write_record.result _ _ _ shown same c.write_record.ensures.ok c.write_record.ensures.fits;
      err = one_part c.write_record.result _ _ _ shown same c.write_record.ensures.err c.write_record.ensures.begun (λ wanting. ap g.K.Sink.taken (c.write_record.ensures.nothing wanting));
      later = c.write_record.ensures.later;
      failed = c.write_record.ensures.failed;
    }

pub returns-in-Err-clause-wrote : goal.returns-in-Err-clause-wrote
returns-in-Err-clause-wrote g c = λ shown is. record { ok = tt; err = part_none (g.K.Sink.taken c.args.sink.now) _; later = omega arith; failed = λ fails. absurd (cc fails) }
