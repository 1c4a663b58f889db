-- What a run shows: a vsync shows something exactly where one of its commits was not rejected, and these are the outputs due of the tree
-- after all commits so far: the image of each display, of each captured layer that is there, and what is in front at each hit test.
use Rattle.std.specs.Prelude.{◌≡◌, ℕ, ◌==◌, Bool, if◌then◌else◌, List, [], ◌∷◌, map, pos}
use Rattle.std.specs.List.{All, list_any}
use Rattle.sf_compose.specs.Frames.{frame_bytes}
use Rattle.sf_compose.specs.sf_layer.declared.layer.Layer.{Layer}
use Rattle.sf_record.specs.sf_output.Outputs.{map_output}
use Rattle.sf_record.specs.sf_output.declared.image.ImageId.TheVariants as id
use Rattle.sf_record.specs.sf_output.declared.output.Output.{Output}
use Rattle.sf_record.specs.sf_output.declared.output.Output.TheVariants as out
use Rattle.sf_script_scene.specs.sf_picture.declared.picture.Picture.{Picture}
use Rattle.sf_compose.specs.sf_view.Image.{image, image_in}
use Rattle.sf_script_scene.specs.Scene.{SceneValue}
use Rattle.sf_script_scene.specs.declared.declarations.CaptureDecl.{CaptureDecl}
use Rattle.sf_script_scene.specs.declared.declarations.DisplayDecl.{DisplayDecl}
use Rattle.sf_script_scene.specs.declared.declarations.HitDecl.{HitDecl}
use Rattle.sf_output_plan.specs.Due.{ImageDue, outputs_due}
use Rattle.sf_output_plan.specs.declared.plan.CapturePlan.{CapturePlan}
use Rattle.sf_output_plan.specs.declared.plan.DisplayPlan.{DisplayPlan}
use Rattle.sf_output_plan.specs.declared.plan.HitPlan.{HitPlan}
use Rattle.sf_output_plan.specs.declared.plan.Plan.{Plan}
use Rattle.sf_actor.specs.Scripts.{picture_at}
use Rattle.sf_compose.specs.sf_tree.Trees.{TreeOf}
use Rattle.sf_record.specs.declared.record.CommitRecord.{CommitRecord}
use Rattle.law_played.specs.Runs.{rising}
use Rattle.law_played.specs.Stages.{VsyncAt}

-- the commit was not rejected
abbrev pub is_done : CommitRecord → Bool
is_done commit = commit.result == 0

-- the plan of a further display
abbrev pub display_plan : DisplayDecl → DisplayPlan
display_plan d = record { number = d.number; width = d.width; height = d.height; stack = d.stack }

-- the plan of a capture
abbrev pub capture_plan : CaptureDecl → CapturePlan
capture_plan c = record { number = c.number; layer = c.layer; width = c.width; height = c.height }

-- the plan of a hit test
abbrev pub hit_plan : HitDecl → HitPlan
hit_plan h = record { number = h.number; x = h.x; y = h.y }

-- what a scene asks to be shown, by rising number
unfoldable pub plan_of : SceneValue → Plan
plan_of scene = record {
  width = scene.width;
  height = scene.height;
  stacks = scene.stacks;
  mirrors = scene.mirrors;
  displays = map display_plan (rising (λ (d : DisplayDecl). d.number) 8 scene.displays);
  captures = map capture_plan (rising (λ (c : CaptureDecl). c.number) 8 scene.captures);
  hits = map hit_plan (rising (λ (h : HitDecl). h.number) 64 scene.hits);
}

-- a scene that asks for the frames of its own display alone, with all layers on it and none twice
pub record HasOneOutput (scene : SceneValue) : Type 0 where
  pub no_displays : scene.displays ≡ []
  pub no_stacks : scene.stacks ≡ []
  pub no_captures : scene.captures ≡ []
  pub no_hits : scene.hits ≡ []
  pub no_mirrors : scene.mirrors ≡ []

-- the image of layers at each point, rows from the top
unfoldable pub frame_of : (ℕ → Picture) → ImageDue → List ℕ
frame_of pictures due = frame_bytes (λ x y. image_in pictures due.layers due.order (pos x) (pos y)) due.width due.height

-- the outputs due of layers, each image as its pixels
unfoldable pub shown_due : (ℕ → Picture) → Plan → List Layer → List (Output (List ℕ))
shown_due pictures plan layers = map (map_output (frame_of pictures)) (outputs_due plan layers)

-- the outputs due after these commits, where they leave this tree
abbrev pub shown_after : SceneValue → List CommitRecord → TreeOf → List (Output (List ℕ))
shown_after scene commits tree =
    if list_any is_done commits then shown_due (picture_at scene.pictures) (plan_of scene) tree.layers else []

-- a vsync shows the outputs due of the tree after its commits
abbrev pub ShowsImage : SceneValue → VsyncAt → Type 0
ShowsImage scene told = told.vsync.shown ≡ shown_after scene told.vsync.commits told.round.stage.tree

-- Frames. Each vsync shows the outputs due, and nothing else.
abbrev pub ShowImages : SceneValue → List VsyncAt → Type 0
ShowImages scene told = All (ShowsImage scene) told

-- the frame of a tree: its image at each point, rows from the top
abbrev pub tree_frame : SceneValue → List Layer → List ℕ
tree_frame scene layers = frame_bytes (λ x y. image (picture_at scene.pictures) layers (pos x) (pos y)) scene.width scene.height

-- what a vsync shows of a scene that asks for one output: the frame of its tree, where a commit was not rejected
abbrev pub frame_after : SceneValue → List CommitRecord → TreeOf → List (Output (List ℕ))
frame_after scene commits tree =
    if list_any is_done commits then out.Image (record { of = id.Frame; shows = tree_frame scene tree.layers }) ∷ [] else []
