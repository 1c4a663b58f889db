-- What a scene with one output shows: the frame of its tree.
use Rattle.std.proofs.Common.{◌≡◌, ℕ, ◌==◌, List, [], ◌∷◌, filter, map, ap, ◌∙◌, pos}
use Rattle.std.specs.List.{All, flat_map, list_any, range_with_len}
use Rattle.std.specs.Prelude.{if◌then◌else◌}
use Rattle.std.proofs.lemmas.List.Elements.{All-append, All-filter, All-map, All-nil, All-weaker}
use Rattle.sf_base.specs.declared.ids.LayerId.{LayerId}
use Rattle.sf_compose.specs.Frames.{frame_bytes}
use Rattle.sf_compose.specs.sf_layer.declared.layer.Layer.{Layer}
use Rattle.sf_record.specs.sf_output.declared.image.ImageId.TheVariants as id
use Rattle.sf_record.specs.sf_output.declared.output.Output.{Output}
use Rattle.sf_record.specs.sf_output.declared.output.Output.TheVariants as out
use Rattle.sf_script_scene.specs.sf_picture.declared.picture.Picture.{Picture}
use Rattle.sf_output_plan.specs.Due.{IsPlan}
use Rattle.sf_output_plan.specs.declared.plan.CapturePlan.{CapturePlan}
use Rattle.sf_output_plan.specs.declared.plan.DisplayPlan.{DisplayPlan}
use Rattle.sf_output_plan.specs.declared.plan.Plan.{Plan}
use Rattle.sf_script_scene.specs.Limits.{IsWithinLimits}
use Rattle.sf_script_scene.specs.Ranges.{IsCapture, IsDisplay as IsDeclared}
use Rattle.sf_script_scene.specs.Scene.{SceneValue}
use Rattle.sf_script_scene.specs.declared.declarations.CaptureDecl.{CaptureDecl}
use Rattle.sf_script_scene.specs.declared.declarations.DisplayDecl.{DisplayDecl}
use Rattle.sf_script_scene.specs.declared.declarations.HitDecl.{HitDecl}
use Rattle.sf_output_plan.specs.sf_output_shown.Copies.{written}
use Rattle.sf_output_plan.proofs.sf_output_shown_lemmas.StackLemmas.{no_stacks}
use Rattle.sf_compose.specs.sf_tree.Trees.{TreeOf}
use Rattle.sf_compose.specs.sf_view.Image.{image, image_in}
use Rattle.sf_compose.specs.sf_view.Views.{IsDisplay}
use Rattle.sf_actor.specs.Scripts.{picture_at}
use Rattle.sf_record.specs.declared.record.CommitRecord.{CommitRecord}
use Rattle.law_played.specs.Frames.{HasOneOutput, capture_plan, display_plan, frame_after, frame_of, hit_plan, is_done, plan_of, shown_after, shown_due}
use Rattle.law_played.specs.Runs.{rising}

-- a plan for one output of this size
abbrev bare_plan : ℕ → ℕ → Plan
bare_plan width height = record { width = width; height = height; stacks = []; mirrors = []; displays = []; captures = []; hits = [] }

planned : (scene : SceneValue) → HasOneOutput scene → plan_of scene ≡ bare_plan scene.width scene.height
unfolding plan_of
planned scene one = λ i. record {
  width = scene.width;
  height = scene.height;
  stacks = one.no_stacks i;
  mirrors = one.no_mirrors i;
  displays = map display_plan (rising (λ (d : DisplayDecl). d.number) 8 (one.no_displays i));
  captures = map capture_plan (rising (λ (c : CaptureDecl). c.number) 8 (one.no_captures i));
  hits = map hit_plan (rising (λ (h : HitDecl). h.number) 64 (one.no_hits i));
}

-- the frame of the scene's own display
abbrev own_frame : List ℕ → Output (List ℕ)
own_frame pixels = out.Image (record { of = id.Frame; shows = pixels })

-- all layers are on stack 0, and none is copied
shown_alone : (pictures : ℕ → Picture) (width height : ℕ) (layers : List Layer)
    → shown_due pictures (bare_plan width height) layers ≡ (own_frame (frame_bytes (λ x y. image pictures layers (pos x) (pos y)) width height) ∷ [])
unfolding shown_due written frame_of image
shown_alone pictures width height layers =
    ap (λ (order : List LayerId). own_frame (frame_bytes (λ x y. image_in pictures layers order (pos x) (pos y)) width height) ∷ []) (no_stacks layers)

pub frame_alone : (scene : SceneValue) (commits : List CommitRecord) (tree : TreeOf) → HasOneOutput scene
    → shown_after scene commits tree ≡ frame_after scene commits tree
frame_alone scene commits tree one =
    ap (λ (shown : List (Output (List ℕ))). if list_any is_done commits then shown else [])
    (ap (λ (plan : Plan). shown_due (picture_at scene.pictures) plan tree.layers) (planned scene one)
    ∙ shown_alone (picture_at scene.pictures) scene.width scene.height tree.layers)

pub in_version_1 : (scene : SceneValue) → IsWithinLimits scene → scene.version ≡ 1 → HasOneOutput scene
in_version_1 scene limits first =
    let lacks = limits.version_1 first in
    record {
      no_displays = lacks.no_displays;
      no_stacks = lacks.no_stacks;
      no_captures = lacks.no_captures;
      no_hits = lacks.no_hits;
      no_mirrors = lacks.no_mirrors;
    }

-- what holds of all that is declared holds of it by rising number
each_numbered : {X : Type 0} (P : X → Type 0) (number : X → ℕ) (items : List X) → All P items → (ns : List ℕ)
    → All P (flat_map (λ (n : ℕ). filter (λ (item : X). number item == n) items) ns)
each_numbered P number items all [] = All-nil P
each_numbered {X} P number items all (n ∷ ns) =
    All-append P (filter (λ (item : X). number item == n) items) (flat_map (λ (n : ℕ). filter (λ (item : X). number item == n) items) ns)
    (All-filter (λ (item : X). number item == n) P items all) (each_numbered P number items all ns)

each_rising : {X : Type 0} (P : X → Type 0) (number : X → ℕ) (greatest : ℕ) (items : List X) → All P items → All P (rising number greatest items)
each_rising P number greatest items all = each_numbered P number items all (range_with_len 1 greatest)

-- what a scene asks to be shown is in its ranges
pub is_plan : (scene : SceneValue) → IsWithinLimits scene → IsPlan (plan_of scene)
unfolding plan_of
is_plan scene limits = record {
  display = record { wide = limits.header.low_width; narrow = limits.header.high_width; high = limits.header.low_height; low = limits.header.high_height };
  mirrors = limits.mirrors.few;
  displays = All-map (λ (d : DisplayPlan). IsDisplay d.width d.height) display_plan (rising (λ (d : DisplayDecl). d.number) 8 scene.displays)
      (each_rising (λ (d : DisplayDecl). IsDisplay d.width d.height) (λ (d : DisplayDecl). d.number) 8 scene.displays
      (All-weaker IsDeclared (λ (d : DisplayDecl). IsDisplay d.width d.height)
      (λ d is. record { wide = is.low_width; narrow = is.high_width; high = is.low_height; low = is.high_height }) scene.displays limits.displays.each));
  captures = All-map (λ (c : CapturePlan). IsDisplay c.width c.height) capture_plan (rising (λ (c : CaptureDecl). c.number) 8 scene.captures)
      (each_rising (λ (c : CaptureDecl). IsDisplay c.width c.height) (λ (c : CaptureDecl). c.number) 8 scene.captures
      (All-weaker IsCapture (λ (c : CaptureDecl). IsDisplay c.width c.height)
      (λ c is. record { wide = is.low_width; narrow = is.high_width; high = is.low_height; low = is.high_height }) scene.captures limits.captures.each));
}
