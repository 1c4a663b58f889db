-- What a scene of version 1 shows where it is played in version 2.
use Rattle.std.specs.Prelude.{◌≡◌, ◌≢◌, List, ◌∷◌, All}
use Rattle.sf_script_scene.specs.Limits.{IsWithinLimits}
use Rattle.sf_script_scene.specs.Scene.{SceneValue}
use Rattle.sf_record.specs.declared.record.Record.{Record}
use Rattle.sf_record.specs.declared.record.Record.TheVariants as rec
use Rattle.law_played.specs.Ends.{ArePlayRecords}
use Rattle.law_played.specs.Played.{opening}

-- the same scene, in version 2
abbrev pub in_version_2 : SceneValue → SceneValue
in_version_2 scene = record scene { version = 2 }

-- it is no commit that was rejected because there were as many layers as there can be
abbrev pub HadRoom : Record → Type 0
HadRoom (rec.Comm commit) = commit.result ≢ 5
HadRoom other = Unit {0}

-- where each commit of the play of a scene of version 1 had room, the records of the play are those of the same scene in
-- version 2, except for the version in the first one
abbrev pub ArePlayedAlike : Type 0
ArePlayedAlike = (scene : SceneValue) (records : List Record) → IsWithinLimits scene → scene.version ≡ 1 → All HadRoom records
    → ArePlayRecords scene (opening scene ∷ records) → ArePlayRecords (in_version_2 scene) (opening (in_version_2 scene) ∷ records)
