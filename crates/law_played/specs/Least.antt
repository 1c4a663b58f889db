-- The least scene that shows something, and the records of its run: one actor makes a red layer, and a vsync commits it.
use Rattle.std.specs.Prelude.{List, [], ◌∷◌, Some}
use Rattle.sf_script_scene.specs.Scene.{SceneValue, bare_scene}
use Rattle.sf_script_scene.specs.declared.change.Change.TheVariants as change
use Rattle.sf_script_scene.specs.declared.step.ActorScript.{ActorScript}
use Rattle.sf_script_scene.specs.declared.step.Step.{Step}
use Rattle.sf_script_scene.specs.declared.step.Step.TheVariants as step
use Rattle.sf_record.specs.sf_output.declared.image.ImageId.TheVariants as id
use Rattle.sf_record.specs.sf_output.declared.output.Output.TheVariants as out
use Rattle.sf_record.specs.declared.event.Event.{Event}
use Rattle.sf_record.specs.declared.event.Event.TheVariants as event
use Rattle.sf_record.specs.declared.event.VsyncRecords.{VsyncRecords}
use Rattle.sf_record.specs.declared.record.CommitRecord.{CommitRecord}
use Rattle.sf_record.specs.declared.record.Record.{Record}
use Rattle.law_played.specs.Played.{Shows, records_of}

-- a transaction with a new colour layer, 5, and its colour, red, is applied under token 1
abbrev pub least_steps : List Step
least_steps =
    step.Tx 1
    ∷ step.Set 1 5 (change.CreateColour (Some 0))
    ∷ step.Set 1 5 (change.Colour (record { r = 255; g = 0; b = 0; a = 255 }))
    ∷ step.Apply 1 1
    ∷ []

abbrev pub least_script : ActorScript
least_script = record { number = 1; steps = least_steps }

-- on a display of 2 x 1 pixels
abbrev pub least_scene : SceneValue
least_scene = record (bare_scene 1 2 1 16666667) { actors = least_script ∷ [] }

abbrev pub least_commit : CommitRecord
least_commit = record { token = 1; arrival = 1; result = 0; operation = 0; buffers = [] }

-- the first vsync commits it and shows two red pixels
abbrev pub least_vsync : VsyncRecords
least_vsync = record {
  number = 1;
  expected = 16666667;
  timelines = [];
  commits = least_commit ∷ [];
  shown = out.Image (record { of = id.Frame; shows = 255 ∷ 0 ∷ 0 ∷ 255 ∷ 255 ∷ 0 ∷ 0 ∷ 255 ∷ [] }) ∷ [];
}

abbrev pub least_events : List Event
least_events =
    event.Reply (record { actor = 1; step = 1; status = 0; values = [] })
    ∷ event.Reply (record { actor = 1; step = 2; status = 0; values = [] })
    ∷ event.Reply (record { actor = 1; step = 3; status = 0; values = [] })
    ∷ event.Reply (record { actor = 1; step = 4; status = 0; values = 1 ∷ [] })
    ∷ event.Vsync least_vsync
    ∷ []

abbrev pub least_shows : Shows
least_shows = record { events = least_events; arrived = record { actor = 1; step = 4; token = 1 } ∷ []; histories = []; held = []; stuck = [] }

abbrev pub least_records : List Record
least_records = records_of least_scene least_shows
