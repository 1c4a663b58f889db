-- What is written of a scene's run: its records, or of a play the one record that sums them up.
use Rattle.std.specs.Prelude.{ℕ, Bool, true, false, List, [], ◌∷◌, Option, Result}
use Rattle.sf_live.specs.Runs.{CutLive, MeansLive, WroteLive}
use Rattle.sf_app_options.specs.declared.options.Run.{Run}
use Rattle.sf_app_options.specs.declared.options.Run.TheVariants as run
use Rattle.sf_script_scene.specs.Scene.{SceneValue}
use Rattle.sf_record_sums.specs.sf_record.Records.{bytes_of, record_bytes}
use Rattle.sf_record_sums.specs.sf_record.declared.encode.RunFault.{RunFault}
use Rattle.sf_record_sums.specs.sf_record.declared.record.Record.{Record}
use Rattle.sf_record_sums.specs.sf_record.declared.record.Record.TheVariants as rec
use Rattle.sf_live.specs.law_played.Ends.{ArePlayRecords}
use Rattle.sf_live.specs.law_play_order.Happening.{HappenedInOrder}
use Rattle.sf_live.specs.sf_play_write.Writing.{Writes, WritesPart, WritingEnded}
use Rattle.sf_record_sums.specs.Summaries.{summary_of, wrapped}

-- what is written of records: they themselves, or under `--summary` the one record of what they come to, each number modulo 2^64
abbrev pub records_shown : Bool → List Record → List Record
records_shown true records = rec.Summ (wrapped (summary_of records)) ∷ []
records_shown false records = records

-- the bytes of records, or under `--summary` those of the one record of what they come to, each number modulo 2^64
abbrev pub bytes_shown : Bool → List Record → List ℕ
bytes_shown true records = record_bytes (rec.Summ (wrapped (summary_of records)))
bytes_shown false records = bytes_of records

-- What the records of a run mean: what a played run means, or a run in threads, and that its calls, arrivals and vsyncs are in one
-- order. In a play no vsync passes over an arrival, either.
abbrev pub Means : Run → Bool → SceneValue → List Record → Type 0
Means run.Live tells scene records = MeansLive tells scene records
Means _ tells scene records = HappenedInOrder tells scene records

-- the play of a scene was shown whole: its records, which mean what a played run means, in order, or their summary
pub record ShowsPlay (summary : Bool) (scene : SceneValue) (old new : Option (List ℕ)) : Type 0 where
  pub records : List Record
  pub is_play : ArePlayRecords scene records
  pub means : HappenedInOrder true scene records
  pub written : Writes old new (records_shown summary records)

-- a prefix was written of what shows the play of a scene
pub record ShowsPart (summary : Bool) (scene : SceneValue) (old new : Option (List ℕ)) : Type 0 where
  pub records : List Record
  pub is_play : ArePlayRecords scene records
  pub written : WritesPart old new (records_shown summary records)

-- a scene's run was shown whole: the records of a run in threads, in which a sender learns its place or not, or what shows the scene's play
abbrev pub ShowsRun : Run → Bool → Bool → SceneValue → Option (List ℕ) → Option (List ℕ) → Type 0
ShowsRun run.Live summary tells scene old new = WroteLive tells scene old new
ShowsRun _ summary tells scene old new = ShowsPlay summary scene old new

-- a prefix was written: of a run in threads, or of what shows the scene's play
abbrev pub ShowsRunPart : Run → Bool → Bool → SceneValue → Option (List ℕ) → Option (List ℕ) → Type 0
ShowsRunPart run.Live summary tells scene old new = CutLive tells scene old new
ShowsRunPart _ summary tells scene old new = ShowsPart summary scene old new

-- how a play ended that is summed up
abbrev pub SumEnded : {A : Type 0} → SceneValue → Result A RunFault → Option (List ℕ) → Option (List ℕ) → ℕ → ℕ → Type 0
SumEnded scene result old new before after = WritingEnded result before after (λ _. ShowsPlay true scene old new) (ShowsPart true scene old new)
