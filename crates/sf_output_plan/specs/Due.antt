-- What a vsync with a frame shows of a tree: the frame of each display, a capture of each captured layer that is there, and a hit for each hit test.
use Rattle.std.specs.Prelude.{◌≡◌, ℕ, ◌≤◌, if◌then◌else◌, List, [], ◌∷◌, ◌++◌, length, map, Option, Some, None}
use Rattle.std.specs.List.{All, AllZip, flat_map}
use Rattle.std.specs.Option.{option_map_or}
use Rattle.sf_base.specs.declared.ids.LayerId.{LayerId}
use Rattle.sf_display.specs.sf_layer.declared.layer.Layer.{Layer}
use Rattle.sf_output.specs.Outputs.{IsOutput}
use Rattle.sf_output.specs.declared.image.ImageId.TheVariants as id
use Rattle.sf_output.specs.declared.output.Output.{Output}
use Rattle.sf_output.specs.declared.output.Output.TheVariants as out
use Rattle.sf_display.specs.sf_tree.DrawOrder.{draw_order}
use Rattle.sf_display.specs.sf_tree.Layers.{has_layer}
use Rattle.sf_display.specs.sf_view.Views.{IsDisplay, ViewOf, ViewsInOrder}
use Rattle.sf_display.specs.sf_output_shown.Copies.{written}
use Rattle.sf_display.specs.sf_output_shown.Cuts.{cut}
use Rattle.sf_display.specs.sf_output_shown.Displays.{order_on}
use Rattle.sf_display.specs.sf_output_shown.Hits.{hit_of}
use Rattle.sf_output_plan.specs.declared.plan.CapturePlan.{CapturePlan}
use Rattle.sf_output_plan.specs.declared.plan.DisplayPlan.{DisplayPlan}
use Rattle.sf_output_plan.specs.declared.plan.HitPlan.{HitPlan}
use Rattle.sf_output_plan.specs.declared.plan.Plan.{Plan}

-- an image of layers: which, in which order, on a display of which size
pub record ImageDue : Type 0 where
  pub layers : List Layer
  pub order : List LayerId
  pub width : ℕ
  pub height : ℕ

-- a display shows the layers of its stack
abbrev pub on_stack : List (ℕ × ℕ) → List Layer → ℕ → ℕ → ℕ → ImageDue
on_stack stacks layers stack width height =
    record { layers = layers; order = order_on layers stacks stack; width = width; height = height }

-- the image that is due of a further display: that of its stack
abbrev pub display_due : List (ℕ × ℕ) → List Layer → DisplayPlan → Output ImageDue
display_due stacks layers display =
    out.Image (record { of = id.Display display.number; shows = on_stack stacks layers display.stack display.width display.height })

-- the frame of the scene's own display, which shows stack 0, of layers in which mirrors are written out
abbrev pub frame_due : Plan → List Layer → ImageDue
frame_due plan layers = on_stack plan.stacks layers 0 plan.width plan.height

-- the layer of this number
abbrev pub id_of : ℕ → LayerId
id_of number = record { 0 = number }

-- the image of a capture that shows these layers
abbrev pub captured : CapturePlan → List Layer → ImageDue
captured capture layers = record { layers = layers; order = draw_order layers; width = capture.width; height = capture.height }

-- the image that is due of a capture: that of its layer with all below it by itself, without mirrors, if the layer is there
abbrev pub capture_due : List Layer → CapturePlan → List (Output ImageDue)
capture_due tree capture =
    if has_layer tree (id_of capture.layer)
    then out.Image (record { of = id.Capture capture.number; shows = captured capture (cut tree (id_of capture.layer)) }) ∷ []
    else []

-- a hit answers the layer in front on the scene's own display, without mirrors
abbrev pub hit_number : Option LayerId → ℕ
hit_number layer = option_map_or (λ (id : LayerId). id.0) layer 0

-- the answer that is due of a hit test
abbrev pub hit_due : Plan → List Layer → HitPlan → Output ImageDue
hit_due plan tree hit = out.Hit hit.number (hit_number (hit_of tree plan.stacks plan.width plan.height hit.x hit.y))

-- the outputs due of a tree beside the frame of the scene's own display, in order
abbrev pub others_due : Plan → List Layer → List (Output ImageDue)
others_due plan tree =
    map (display_due plan.stacks (written tree plan.mirrors)) plan.displays ++ flat_map (capture_due tree) plan.captures ++ map (hit_due plan tree) plan.hits

-- the outputs due of a tree, in order
abbrev pub outputs_due : Plan → List Layer → List (Output ImageDue)
outputs_due plan tree = out.Image (record { of = id.Frame; shows = frame_due plan (written tree plan.mirrors) }) ∷ others_due plan tree

-- a view shows the output due
abbrev pub ShowsDue : ImageDue → ViewOf → Type 0
ShowsDue due view = ViewsInOrder due.layers due.order due.width due.height view

-- what was made are the outputs due, place by place
abbrev pub AreShown : List (Output ImageDue) → List (Output ViewOf) → Type 0
AreShown dues views = AllZip (IsOutput ShowsDue) dues views

-- the scene's own display shows the whole tree as it is: the plan has neither stacks nor mirrors
abbrev pub ShowsAll : Plan → Type 0
ShowsAll plan = (plan.stacks ≡ []) × (plan.mirrors ≡ [])

-- the view of the scene's own display; it is left out exactly where the display shows the whole tree
abbrev pub IsFrameDue : Plan → List Layer → Option ViewOf → Type 0
IsFrameDue plan layers None = ShowsAll plan
IsFrameDue plan layers (Some view) = (ShowsAll plan → ⊥) × ShowsDue (frame_due plan layers) view

-- of these layers each stack has the same by both lists of stacks
abbrev pub SameOrders : List Layer → List (ℕ × ℕ) → List (ℕ × ℕ) → Type 0
SameOrders layers some all = (stack : ℕ) → order_on layers some stack ≡ order_on layers all stack

-- what a plan keeps: sizes are in their ranges, and mirrors are few
pub record IsPlan (plan : Plan) : Type 0 where
  pub display : IsDisplay plan.width plan.height
  pub mirrors : length plan.mirrors ≤ 8
  pub displays : All (λ (d : DisplayPlan). IsDisplay d.width d.height) plan.displays
  pub captures : All (λ (c : CapturePlan). IsDisplay c.width c.height) plan.captures
