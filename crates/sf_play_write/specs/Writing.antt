-- What is written of what happens.
use Rattle.std.specs.Prelude.{ℕ, ◌≤◌, List, All, IfOk, IsErrOf, OnErr, Option, Result, length, take}
use Rattle.std.specs.Io.KnownBytes.{Appends}
use Rattle.sf_io.specs.Causes.{Rose}
use Rattle.sf_io.specs.Streams.{TookPrefix}
use Rattle.sf_play.specs.sf_record.Fitting.{RecordFits}
use Rattle.sf_play.specs.sf_record.Records.{bytes_of}
use Rattle.sf_play.specs.sf_record.declared.encode.RunFault.{RunFault}
use Rattle.sf_play.specs.sf_record.declared.encode.RunFault.TheVariants.{WriteFault}
use Rattle.sf_play.specs.sf_record.declared.record.Record.{Record}

-- records were written, whose numbers fit their fields
pub record Writes (old new : Option (List ℕ)) (records : List Record) : Type 0 where
  pub bytes : Appends old new (bytes_of records)
  pub fits : All RecordFits records

-- a prefix of records was written: some whole, and then at most one that is cut; the numbers of those that were begun fit their fields
pub record WritesPart (old new : Option (List ℕ)) (records : List Record) : Type 0 where
  pub begun : ℕ
  pub few : begun ≤ length records
  pub fits : All RecordFits (take begun records)
  pub bytes : TookPrefix old new (bytes_of (take begun records))

-- a prefix of some records was written, whose numbers fit their fields: some whole, and then at most one that is cut
pub record CutSome (old new : Option (List ℕ)) : Type 0 where
  pub records : List Record
  pub fits : All RecordFits records
  pub bytes : TookPrefix old new (bytes_of records)

-- How a call ended that writes to a sink: what is done, by the value that it gives, or after a fault what is cut short. The sink's count of
-- faults did not fall, and it rose where the sink is why.
pub record WritingEnded {A : Type 0} (result : Result A RunFault) (before after : ℕ) (done : A → Type 0) (cut : Type 0) : Type 0 where
  pub ok : IfOk result done
  pub err : OnErr result cut
  pub later : before ≤ after
  pub failed : IsErrOf result WriteFault → Rose before after

-- how the writing of records ended: all of them were written, or a prefix
abbrev pub Wrote : {S A : Type 0} → (S → Option (List ℕ)) → (S → ℕ) → S → S → Result A RunFault → List Record → Type 0
Wrote taken faults old new result records =
    WritingEnded result (faults old) (faults new) (λ _. Writes (taken old) (taken new) records) (WritesPart (taken old) (taken new) records)
