-- What the statuses of a run say.
use Rattle.std.specs.Prelude.{◌≡◌, ◌≢◌, ◌≤◌, ◌⊎◌, ℕ, true, false, List, Option, None, Some, Result, Ok, Err}
use Rattle.std.specs.Io.KnownBytes.{Appends, Consumes, IsAtEnd}
use Rattle.sf_io.specs.Causes.{Rose}
use Rattle.sf_io.specs.Streams.{Took, TookPrefix}
use Rattle.sf_app_options.specs.declared.options.Options.{Options}
use Rattle.sf_script_scene.specs.Scene.{SceneValue}
use Rattle.law_generated.specs.sf_script.Parse.{parsed_of}
use Rattle.law_generated.specs.sf_script.declared.fault.ScriptFault.{ScriptFault}
use Rattle.sf_record_sums.specs.sf_record.declared.encode.RunFault.{RunFault}
use Rattle.sf_record_sums.specs.sf_record.declared.encode.RunFault.TheVariants as run_fault
use Rattle.sf_record_sums.specs.sf_record.declared.record.Record.TheVariants as rec
use Rattle.sf_record_sums.specs.sf_record.declared.record.Record.{Record}
use Rattle.sf_record_sums.specs.sf_record.Records.{record_bytes}
use Rattle.sf_live.specs.sf_play_write.Writing.{CutSome, WritingEnded}
use Rattle.sf_app.specs.Shown.{Means, ShowsRun, ShowsRunPart, bytes_shown}
use Rattle.sf_app.specs.Words.{IsScript, IsTold, is_gen, tells_place}

-- status 0: the words ask for a run, its script spells a scene, and the run of the scene was shown: its records, or a play's summary
pub record PlayedScript (asked : Option Options) (left rest taken now : Option (List ℕ)) : Type 0 where
  pub options : Options
  pub right : asked ≡ Some options
  pub bytes : List ℕ
  pub script : IsScript options left rest bytes
  pub scene : SceneValue
  pub spelled : parsed_of bytes ≡ Ok scene
  pub run : ShowsRun options.run options.summary (tells_place options) scene taken now

-- what status 0 means: what was written shows records that stand to the scene as those of a played run do, those of a play in order; in
-- it a sender learns its place, unless the words ask for a queue of arrivals
pub record MeansScript (asked : Option Options) (left rest taken now : Option (List ℕ)) : Type 0 where
  pub options : Options
  pub right : asked ≡ Some options
  pub bytes : List ℕ
  pub script : IsScript options left rest bytes
  pub scene : SceneValue
  pub spelled : parsed_of bytes ≡ Ok scene
  pub records : List Record
  pub means : Means options.run (tells_place options) scene records
  pub written : Appends taken now (bytes_shown options.summary records)

-- a fault of this cause, which has no place
abbrev pub at_no_place : ℕ → ScriptFault
at_no_place cause = record { line = 0; word = 0; cause = cause }

-- the bytes of the record that shows the place of a fault
abbrev pub fault_bytes : ScriptFault → List ℕ
fault_bytes fault = record_bytes (rec.Sflt fault)

-- what the script that was asked for spells: what was read to its end or generated, or a script that is too long
pub data Spells (options : Options) (left rest : Option (List ℕ)) : Result SceneValue ScriptFault → Type 0 where
  spells : (bytes : List ℕ) (spelled : Result SceneValue ScriptFault) → IsScript options left rest bytes → parsed_of bytes ≡ spelled → Spells options left rest spelled
  too_long_to_spell : is_gen options.run ≡ false → Took left rest 1048577 → Spells options left rest (Err (at_no_place 9))

-- all bytes were read and have this fault, or more bytes than a script may have were read
pub data NoScene (left rest : Option (List ℕ)) : ScriptFault → Type 0 where
  misspelled : (bytes : List ℕ) (fault : ScriptFault) → Consumes left rest bytes → IsAtEnd rest → parsed_of bytes ≡ Err fault → NoScene left rest fault
  too_long : Took left rest 1048577 → NoScene left rest (at_no_place 9)

-- status 2: the words ask for what is read to be played, and it spells no scene, or is too long; the place of the fault was written
pub record RefusedScript (asked : Option Options) (left rest taken now : Option (List ℕ)) : Type 0 where
  pub options : Options
  pub right : asked ≡ Some options
  pub reads : is_gen options.run ≡ false
  pub fault : ScriptFault
  pub cause : NoScene left rest fault
  pub written : Appends taken now (fault_bytes fault)

-- of what a script asks for a prefix was written: of what shows the scene's run, or of the record of the fault
abbrev pub PrefixOf : Options → Result SceneValue ScriptFault → Option (List ℕ) → Option (List ℕ) → Type 0
PrefixOf options (Ok scene) old new = ShowsRunPart options.run options.summary (tells_place options) scene old new
PrefixOf options (Err fault) old new = TookPrefix old new (fault_bytes fault)

-- of whatever script the words ask for, if it is known, a prefix was written of what it asks for; without right words nothing
abbrev pub WritesPrefix : Option Options → Option (List ℕ) → Option (List ℕ) → Option (List ℕ) → Type 0
WritesPrefix None left old new = new ≡ old
WritesPrefix (Some options) left old new = (bytes : List ℕ) → IsTold options left bytes → PrefixOf options (parsed_of bytes) old new

-- how the run of a scene ended that the words ask for; the counts are those of the sink's faults
abbrev pub ShownEnded : {A : Type 0} → Options → SceneValue → Result A RunFault → Option (List ℕ) → Option (List ℕ) → ℕ → ℕ → Type 0
ShownEnded options scene result old new before after =
    WritingEnded result before after (λ _. ShowsRun options.run options.summary (tells_place options) scene old new)
    (ShowsRunPart options.run options.summary (tells_place options) scene old new)

-- the status of a run that wrote all, or ended with a fault
abbrev pub status_of : Result (Unit {0}) RunFault → ℕ
status_of (Ok _) = 0
status_of (Err run_fault.WriteFault) = 4
status_of (Err run_fault.NoMemory) = 5

-- how a script that spells this was played: what the status says, and what was written whatever it is; the counts are those
-- of the sink's faults
pub record ScriptEnded (options : Options) (spelled : Result SceneValue ScriptFault) (status : ℕ) (taken now : Option (List ℕ)) (before after : ℕ) : Type 0 where
  pub played : status ≡ 0 → (scene : SceneValue) × (spelled ≡ Ok scene) × ShowsRun options.run options.summary (tells_place options) scene taken now
  pub refused : status ≡ 2 → (fault : ScriptFault) × (spelled ≡ Err fault) × Appends taken now (fault_bytes fault)
  pub write_failed : status ≡ 4 → Rose before after
  pub range : status ≤ 5
  pub begun : status ≢ 1
  pub read : status ≢ 3
  pub prefix : PrefixOf options spelled taken now
  pub cut : CutSome taken now

-- of a source what it has left and the count of its faults, and of a sink what it took and the count of its faults
module _ {S K : Type 0} (left : S → Option (List ℕ)) (reads : S → ℕ) (taken : K → Option (List ℕ)) (writes : K → ℕ) where
  -- how a run ended that was asked for: what its status says, and what was read and written whatever it is
  pub record RunEnded (asked : Option Options) (status : ℕ) (source rest : S) (sink now : K) : Type 0 where
    pub played : status ≡ 0 → PlayedScript asked (left source) (left rest) (taken sink) (taken now)
    -- only wrong words are answered by 1; they are answered so but where memory runs out before
    -- they are read
    pub usage : status ≡ 1 → asked ≡ None
    pub wrong : asked ≡ None → (status ≡ 1) ⊎ (status ≡ 5)
    pub untouched : asked ≡ None → (rest ≡ source) × (now ≡ sink)
    pub refused : status ≡ 2 → RefusedScript asked (left source) (left rest) (taken sink) (taken now)
    pub read_failed : status ≡ 3 → Rose (reads source) (reads rest)
    pub silent : status ≡ 3 → now ≡ sink
    pub write_failed : status ≡ 4 → Rose (writes sink) (writes now)
    pub range : status ≤ 5
    -- a generated script is played without reading
    pub unread : (options : Options) → asked ≡ Some options → is_gen options.run ≡ true → rest ≡ source
    -- a prefix was written of what the script asks for
    pub prefix : WritesPrefix asked (left source) (taken sink) (taken now)
    -- whole records were written, and then at most one that is cut
    pub cut : CutSome (taken sink) (taken now)
