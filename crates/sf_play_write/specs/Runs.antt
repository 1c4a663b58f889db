-- What is written of a whole play.
use Rattle.std.specs.Prelude.{ℕ, true, List, Option, Result}
use Rattle.sf_play.specs.sf_script_scene.Scene.{SceneValue}
use Rattle.sf_play.specs.sf_record.declared.encode.RunFault.{RunFault}
use Rattle.sf_play.specs.sf_record.declared.record.Record.{Record}
use Rattle.sf_play.specs.law_played.Ends.{ArePlayRecords}
use Rattle.sf_play.specs.law_play_order.Happening.{HappenedInOrder}
use Rattle.sf_play_write.specs.Writing.{Writes, WritesPart, WritingEnded}

-- the records of a run were written: they are those of the scene's play, and they mean what a played run means, in order
pub record WroteRun (scene : SceneValue) (old new : Option (List ℕ)) : Type 0 where
  pub records : List Record
  pub is_play : ArePlayRecords scene records
  pub means : HappenedInOrder true scene records
  pub written : Writes old new records

-- a prefix of the records of the scene's play was written
pub record CutRun (scene : SceneValue) (old new : Option (List ℕ)) : Type 0 where
  pub records : List Record
  pub is_play : ArePlayRecords scene records
  pub written : WritesPart old new records

-- how the play of a scene ended: its records were written to the sink, or a prefix of them
abbrev pub PlayEnded : {S A : Type 0} → (S → Option (List ℕ)) → (S → ℕ) → S → S → Result A RunFault → SceneValue → Type 0
PlayEnded taken faults old new result scene =
    WritingEnded result (faults old) (faults new) (λ _. WroteRun scene (taken old) (taken new)) (CutRun scene (taken old) (taken new))
