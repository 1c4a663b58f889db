-- What a step names that a scene declares.
use Rattle.std.specs.Prelude.{◌≡◌, ℕ, true, List, [], ◌∷◌, map, All, Option, None, Some, IfSome}
use Rattle.sf_picture.specs.declared.picture.Picture.{Picture}
use Rattle.sf_script_scene.specs.Scene.{has_picture, has_queue, has_timeline}
use Rattle.sf_script_scene.specs.declared.declarations.QueueDecl.{QueueDecl}
use Rattle.sf_script_scene.specs.declared.step.Step.{Step}
use Rattle.sf_script_scene.specs.declared.step.Step.TheVariants as step

-- the queue that a step names, if it names one
abbrev pub queue_named : Step → Option ℕ
queue_named (step.Connect queue) = Some queue
queue_named (step.Disconnect queue) = Some queue
queue_named (step.MaxDequeued queue _) = Some queue
queue_named (step.Async queue _) = Some queue
queue_named (step.Dequeue queue _ _) = Some queue
queue_named (step.DequeueWait queue _ _) = Some queue
queue_named (step.PAttach queue _ _) = Some queue
queue_named (step.MaxAcquired queue _) = Some queue
queue_named (step.Abandon queue) = Some queue
queue_named (step.Acquire queue _ _) = Some queue
queue_named (step.CAttach queue _ _) = Some queue
queue_named _ = None

-- the picture that a step names, if it names one
abbrev pub picture_named : Step → Option ℕ
picture_named (step.Draw _ picture) = Some picture
picture_named (step.Queue _ picture _ _ _) = Some picture
picture_named _ = None

-- the timelines of points
abbrev pub timelines_in : List (ℕ × ℕ) → List ℕ
timelines_in points = map (λ p. p.0) points

-- the timelines that a step names
abbrev pub timelines_named : Step → List ℕ
timelines_named (step.Queue _ _ _ _ points) = timelines_in points
timelines_named (step.Cancel _ points) = timelines_in points
timelines_named (step.Release _ points) = timelines_in points
timelines_named (step.Signal timeline _) = timeline ∷ []
timelines_named (step.Wait timeline _) = timeline ∷ []
timelines_named _ = []

-- the queue that a step names is declared
abbrev pub KnowsQueue : List QueueDecl → Step → Type 0
KnowsQueue queues s = IfSome (queue_named s) (λ number. has_queue queues number ≡ true)

-- the picture that a step names is declared
abbrev pub KnowsPicture : List Picture → Step → Type 0
KnowsPicture pictures s = IfSome (picture_named s) (λ number. has_picture pictures number ≡ true)

-- these timelines are declared
abbrev pub AreKnown : List ℕ → List ℕ → Type 0
AreKnown timelines named = All (λ number. has_timeline timelines number ≡ true) named

-- the timelines that a step names are declared
abbrev pub KnowsTimelines : List ℕ → Step → Type 0
KnowsTimelines timelines s = AreKnown timelines (timelines_named s)
