-- A scene, and the scene with one thing more in it.
use Rattle.std.specs.Prelude.{ℕ, ◌==◌, Bool, List, [], ◌∷◌, ◌++◌, length, Option, None, Some}
use Rattle.std.specs.List.{list_any}
use Rattle.sf_picture.specs.declared.fill.Fill.{Fill}
use Rattle.sf_picture.specs.declared.picture.Picture.{Picture}
use Rattle.sf_script_scene.specs.declared.declarations.CaptureDecl.{CaptureDecl}
use Rattle.sf_script_scene.specs.declared.declarations.DisplayDecl.{DisplayDecl}
use Rattle.sf_script_scene.specs.declared.declarations.HitDecl.{HitDecl}
use Rattle.sf_script_scene.specs.declared.declarations.Pick.{Pick}
use Rattle.sf_script_scene.specs.declared.declarations.QueueDecl.{QueueDecl}
use Rattle.sf_script_scene.specs.declared.step.ActorScript.{ActorScript}
use Rattle.sf_script_scene.specs.declared.step.Step.{Step}

-- what a script spells: the display, what is declared in the script's order, and the order of picks
pub record SceneValue : Type 0 where
  pub version : ℕ
  pub width : ℕ
  pub height : ℕ
  pub period : ℕ
  pub timelines : List ℕ
  pub queues : List QueueDecl
  pub pictures : List Picture
  pub actors : List ActorScript
  pub order : List Pick
  pub displays : List DisplayDecl
  pub stacks : List (ℕ × ℕ)
  pub captures : List CaptureDecl
  pub hits : List HitDecl
  pub mirrors : List (ℕ × ℕ)

-- a scene in which nothing is declared and no one is picked
abbrev pub bare_scene : ℕ → ℕ → ℕ → ℕ → SceneValue
bare_scene version width height period =
    record {
      version = version;
      width = width;
      height = height;
      period = period;
      timelines = [];
      queues = [];
      pictures = [];
      actors = [];
      order = [];
      displays = [];
      stacks = [];
      captures = [];
      hits = [];
      mirrors = [];
    }

-- one of these has this number
abbrev pub has_number : {X : Type 0} → (X → ℕ) → List X → ℕ → Bool
has_number number xs n = list_any (λ x. number x == n) xs

-- a timeline with this number is declared
abbrev pub has_timeline : List ℕ → ℕ → Bool
has_timeline timelines n = has_number (λ t. t) timelines n

-- a queue with this number is declared
abbrev pub has_queue : List QueueDecl → ℕ → Bool
has_queue queues n = has_number (λ q. q.number) queues n

-- a picture with this number is declared
abbrev pub has_picture : List Picture → ℕ → Bool
has_picture pictures n = has_number (λ p. p.number) pictures n

-- an actor with this number is declared
abbrev pub has_actor : List ActorScript → ℕ → Bool
has_actor actors n = has_number (λ a. a.number) actors n

-- a further display with this number is declared
abbrev pub has_display : List DisplayDecl → ℕ → Bool
has_display displays n = has_number (λ d. d.number) displays n

-- a capture with this number is declared
abbrev pub has_capture : List CaptureDecl → ℕ → Bool
has_capture captures n = has_number (λ c. c.number) captures n

-- a hit test with this number is declared
abbrev pub has_hit : List HitDecl → ℕ → Bool
has_hit hits n = has_number (λ h. h.number) hits n

-- a stack, or a mirror, is declared for this layer
abbrev pub has_layer : List (ℕ × ℕ) → ℕ → Bool
has_layer pairs n = has_number (λ p. p.0) pairs n

-- the last of these, if there is one
abbrev pub last_of : {X : Type 0} → List X → Option X
last_of [] = None
last_of (x ∷ []) = Some x
last_of (x ∷ y ∷ ys) = last_of (y ∷ ys)

-- how many fills the last picture has
abbrev pub fills_so_far : Option Picture → ℕ
fills_so_far None = 0
fills_so_far (Some p) = length p.fills

-- how many steps the last actor has
abbrev pub steps_so_far : Option ActorScript → ℕ
steps_so_far None = 0
steps_so_far (Some a) = length a.steps

-- the list with its last element changed
abbrev pub on_last : {X : Type 0} → (X → X) → List X → List X
on_last change [] = []
on_last change (x ∷ []) = change x ∷ []
on_last change (x ∷ y ∷ ys) = x ∷ on_last change (y ∷ ys)

-- the last picture gets one more fill
abbrev pub with_fill : List Picture → Fill → List Picture
with_fill pictures fill = on_last (λ p. record p { fills = p.fills ++ fill ∷ [] }) pictures

-- the last actor gets one more step
abbrev pub with_step : List ActorScript → Step → List ActorScript
with_step actors s = on_last (λ a. record a { steps = a.steps ++ s ∷ [] }) actors
