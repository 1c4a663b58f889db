-- A played run at its end, and a point of a frame.
use Rattle.std.specs.Prelude.{◌≡◌, ℕ, ◌+◌, ◌*◌, ◌<◌, Bool, List, [], Option, pos}
use Rattle.sf_base.specs.Bytes.{pixel_in}
use Rattle.sf_base.specs.declared.ids.LayerId.{LayerId}
use Rattle.sf_base.specs.declared.pixel.Rgba.{Rgba}
use Rattle.law_played.specs.sf_layer.declared.layer.Layer.{Layer}
use Rattle.law_played.specs.sf_output_plan.Due.{frame_due}
use Rattle.law_played.specs.sf_output_plan.declared.plan.Plan.{Plan}
use Rattle.law_played.specs.sf_output_shown.Copies.{written}
use Rattle.law_played.specs.sf_output_shown.Hits.{hit_of}
use Rattle.law_played.specs.sf_picture.declared.picture.Picture.{Picture}
use Rattle.law_played.specs.sf_record.declared.event.VsyncRecords.{VsyncRecords}
use Rattle.law_played.specs.sf_record.declared.record.Record.{Record}
use Rattle.law_played.specs.sf_script_scene.Scene.{SceneValue}
use Rattle.law_played.specs.Frames.{frame_of}
use Rattle.law_played.specs.Played.{PlayedWhere, vsyncs_told}
use Rattle.law_played.specs.Stages.{bare_round, round_at_end}
use Rattle.law_played.specs.Vsyncs.{vsyncs_in}
use Rattle.law_shown.specs.Last.{last_shown}

-- The records of a played run.
pub record PlayedRun : Type 0 where
  -- who sends a transaction learns its place among the arrivals, or not
  pub tells : Bool
  pub scene : SceneValue
  pub records : List Record
  pub played : PlayedWhere tells scene records

-- the layers of the tree at its end, and what it showed last
abbrev pub layers_at_end : PlayedRun → List Layer
layers_at_end run =
    let played = run.played in
    (round_at_end (bare_round run.scene) (vsyncs_told run.scene played.arrivals played.shows.events)).stage.tree.layers

abbrev pub shown_at_end : PlayedRun → Option VsyncRecords
shown_at_end run = last_shown (vsyncs_in run.played.shows.events)

-- A point of the scene's own display, where there are no mirrors.
pub record FramePoint : Type 0 where
  pub pictures : ℕ → Picture
  pub plan : Plan
  pub layers : List Layer
  pub x : ℕ
  pub y : ℕ
  pub no_mirrors : plan.mirrors ≡ []
  -- it is on the display
  pub inside_x : x < plan.width
  pub inside_y : y < plan.height

-- what a hit test finds there, and the pixel of the frame
abbrev pub hit_at : FramePoint → Option LayerId
hit_at point = hit_of point.layers point.plan.stacks point.plan.width point.plan.height (pos point.x) (pos point.y)

abbrev pub pixel_at : FramePoint → Rgba
pixel_at point =
    let plan = point.plan in
    pixel_in (frame_of point.pictures (frame_due plan (written point.layers plan.mirrors))) (point.y * plan.width + point.x)
