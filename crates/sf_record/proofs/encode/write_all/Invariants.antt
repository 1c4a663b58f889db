use Rattle.std.proofs.Common.{◌≤◌, All, drop, take}
use Rattle.std.specs.Io.KnownBytes.{Appends}
use Rattle.sf_record.specs.Fitting.{RecordFits}
use Rattle.sf_record.specs.Records.{bytes_of}
use Rattle.sf_record.proofs.WriteLemmas.{WrittenOf}
use Rattle.sf_record.proofs.encode.write_all.Given as goal

abbrev pub invariant-loop-record : goal.invariant-loop-record
invariant-loop-record g l =
    let taken = g.K.Sink.taken in
    let faults = g.K.Sink.faults in
    record {
      so_far : WrittenOf (taken l.fn.sink) (taken l.sink) (bytes_of (drop l.record-index l.records)) (bytes_of l.records);
      whole : Appends (taken l.fn.sink) (taken l.sink) (bytes_of (take l.record-index l.records));
      fitting : All RecordFits (take l.record-index l.records);
      later : faults l.fn.sink ≤ faults l.sink;
    }
