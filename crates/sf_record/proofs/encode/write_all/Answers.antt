use Rattle.std.proofs.Common.{arith, subst, sym, take}
use Rattle.std.specs.Io.KnownBytes.{Appends}
use Rattle.sf_record.specs.Records.{bytes_of}
use Rattle.sf_record.proofs.WriteLemmas.{fit_next, first_more, write_next, write_cut}
use Rattle.sf_record.proofs.encode.write_all.Goals as goal

pub loop-record-preserved : goal.loop-record-preserved
loop-record-preserved g c = record {
  so_far = write_next _ _ _ _ _ _ c.loop-record-test.true c.record-item.is c.loop-record.invariant.so_far c.in-Ok.ensures.ok;
  whole = first_more _ _ _ _ _ _ c.loop-record-test.true c.record-item.is c.loop-record.invariant.whole c.in-Ok.ensures.ok;
  fitting = fit_next _ _ _ c.loop-record-test.true c.record-item.is c.loop-record.invariant.fitting c.in-Ok.ensures.fits;
  later = omega arith;
}

pub returns-in-Err-clause-err : goal.returns-in-Err-clause-err
returns-in-Err-clause-err g c = write_cut _ _ _ _ _ _ c.loop-record-test.true c.record-item.is c.loop-record.invariant.so_far c.in-Err.ensures.err

pub returns-in-Err-clause-whole : goal.returns-in-Err-clause-whole
returns-in-Err-clause-whole g c =
    let took = g.K.Sink.taken in
    let front = bytes_of (take c.loop-record.record-index c.args.records.now) in
    λ e. (c.loop-record.record-index, omega arith, subst (λ s. Appends (took c.args.sink.now) (took s) front) (sym (c.in-Err.ensures.nothing e)) c.loop-record.invariant.whole)
