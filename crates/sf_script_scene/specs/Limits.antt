-- What each scene keeps.
use Rattle.std.specs.Prelude.{◌≡◌, ◌≢◌, ℕ, ◌≤◌, ◌==◌, ◌||◌, true, if◌then◌else◌, List, [], length, All, AllPairs}
use Rattle.sf_base.specs.declared.format.Format.TheVariants as format
use Rattle.sf_picture.specs.declared.picture.Picture.{Picture}
use Rattle.sf_script_scene.specs.Named.{KnowsPicture, KnowsQueue, KnowsTimelines}
use Rattle.sf_script_scene.specs.Ranges.{IsCapture, IsDisplay, IsHit, IsMirror, IsPicture, IsQueue, IsStack, IsStep, IsTimeline}
use Rattle.sf_script_scene.specs.Scene.{SceneValue, has_actor}
use Rattle.sf_script_scene.specs.declared.declarations.Pick.{Pick}
use Rattle.sf_script_scene.specs.declared.step.ActorScript.{ActorScript}
use Rattle.sf_script_scene.specs.declared.step.Step.{Step}

-- the greatest number of an actor
abbrev pub most_actors : ℕ → ℕ
most_actors version = if version == 2 then 64 else 16

-- how many layers there can be in a tree
abbrev pub most_layers : ℕ → ℕ
most_layers version = if version == 2 then 1024 else 256

-- the format's version, the display and the period are in their ranges
pub record IsHeader (version width height period : ℕ) : Type 0 where
  pub first_version : 1 ≤ version
  pub last_version : version ≤ 2
  pub low_width : 1 ≤ width
  pub high_width : width ≤ 1024
  pub low_height : 1 ≤ height
  pub high_height : height ≤ 1024
  pub low_period : 1000000 ≤ period
  pub high_period : period ≤ 1000000000

-- each is in its ranges, and no number stands twice
pub record AreDeclared {X : Type 0} (number : X → ℕ) (Fits : X → Type 0) (xs : List X) : Type 0 where
  pub each : All Fits xs
  pub differ : AllPairs (λ x y. number x ≢ number y) xs

-- an actor's number is in its range, and its steps are, and there are not too many of them
pub record IsActor (most : ℕ) (a : ActorScript) : Type 0 where
  pub low : 1 ≤ a.number
  pub high : a.number ≤ most
  pub few_steps : length a.steps ≤ 4096
  pub steps : All IsStep a.steps

-- each step of an actor keeps this
abbrev pub EachStep : (Step → Type 0) → ActorScript → Type 0
EachStep P a = All P a.steps

-- a pick is of the vsync, which is 0, or of a declared actor, and not too often
pub record IsPick (actors : List ActorScript) (p : Pick) : Type 0 where
  pub declared : (p.actor == 0 || has_actor actors p.actor) ≡ true
  pub low : 1 ≤ p.times
  pub high : p.times ≤ 256

-- the picks are right, and there are no more than bytes in a script
pub record IsOrder (actors : List ActorScript) (order : List Pick) : Type 0 where
  pub few : length order ≤ 1048576
  pub picks : All (IsPick actors) order

-- the mirrors are right, and there are not too many
pub record AreMirrors (mirrors : List (ℕ × ℕ)) : Type 0 where
  pub few : length mirrors ≤ 8
  pub declared : AreDeclared (λ m. m.0) IsMirror mirrors

-- a picture's bytes are red, green, blue and alpha
abbrev pub IsRgba : Picture → Type 0
IsRgba p = p.format ≡ format.Rgba

-- what version 1 lacks: further displays, stacks, captures, hit tests, mirrors, and formats of pictures
pub record IsVersion1 (s : SceneValue) : Type 0 where
  pub no_displays : s.displays ≡ []
  pub no_stacks : s.stacks ≡ []
  pub no_captures : s.captures ≡ []
  pub no_hits : s.hits ≡ []
  pub no_mirrors : s.mirrors ≡ []
  pub pictures : All IsRgba s.pictures

-- what each scene keeps
pub record IsWithinLimits (s : SceneValue) : Type 0 where
  pub header : IsHeader s.version s.width s.height s.period
  pub timelines : AreDeclared (λ t. t) IsTimeline s.timelines
  pub queues : AreDeclared (λ q. q.number) IsQueue s.queues
  pub pictures : AreDeclared (λ p. p.number) IsPicture s.pictures
  pub actors : AreDeclared (λ a. a.number) (IsActor (most_actors s.version)) s.actors
  pub known_timelines : All (EachStep (KnowsTimelines s.timelines)) s.actors
  pub known_queues : All (EachStep (KnowsQueue s.queues)) s.actors
  pub known_pictures : All (EachStep (KnowsPicture s.pictures)) s.actors
  pub order : IsOrder s.actors s.order
  pub displays : AreDeclared (λ d. d.number) IsDisplay s.displays
  pub stacks : AreDeclared (λ p. p.0) IsStack s.stacks
  pub captures : AreDeclared (λ c. c.number) IsCapture s.captures
  pub hits : AreDeclared (λ h. h.number) IsHit s.hits
  pub mirrors : AreMirrors s.mirrors
  pub version_1 : s.version ≡ 1 → IsVersion1 s

-- a step is in its ranges, and what it names is declared
pub record StepFits (s : SceneValue) (st : Step) : Type 0 where
  pub ranges : IsStep st
  pub timelines : KnowsTimelines s.timelines st
  pub queue : KnowsQueue s.queues st
  pub picture : KnowsPicture s.pictures st
