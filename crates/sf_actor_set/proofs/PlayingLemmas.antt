-- The actors of a scene may play.
use Rattle.std.proofs.Common.{◌≡◌, ℕ, ◌≤◌, Bool, true, false, ◌||◌, List, [], ◌∷◌, get_or, map, Option, Some, None, refl, ap, ◌∙◌, sym, subst, arith}
use Rattle.std.specs.Prelude.{◌==◌, IfSome}
use Rattle.std.specs.List.{All, list_any}
use Rattle.std.specs.List.Sorted.{IsPermutation}
use Rattle.std.proofs.lemmas.Bool.{eqb-true, false≢true}
use Rattle.std.proofs.lemmas.List.Elements.{All-head, All-tail}
use Rattle.std.proofs.lemmas.List.Sorted.{list_any-IsPermutation}
use Rattle.sf_commit.specs.sf_layer.Ranges.{IsInRange}
use Rattle.sf_actor_steps.specs.sf_script_scene.Limits.{IsWithinLimits}
use Rattle.sf_actor_steps.specs.sf_script_scene.Named.{queue_named, timelines_named}
use Rattle.sf_actor_steps.specs.sf_script_scene.Ranges.{IsChange, IsStep, IsTimeline}
use Rattle.sf_actor_steps.specs.sf_script_scene.Scene.{SceneValue, has_queue, has_timeline}
use Rattle.sf_actor_steps.specs.sf_script_scene.declared.change.Change.{Change}
use Rattle.sf_actor_steps.specs.sf_script_scene.declared.change.Change.TheVariants as change
use Rattle.sf_actor_steps.specs.sf_script_scene.declared.declarations.QueueDecl.{QueueDecl}
use Rattle.sf_actor_steps.specs.sf_script_scene.declared.step.Step.{Step}
use Rattle.sf_actor_steps.specs.sf_script_scene.declared.step.Step.TheVariants as step
use Rattle.sf_actor_steps.specs.sf_surface.Objects.{mark_of}
use Rattle.sf_actor_steps.specs.sf_surface.declared.mark.QueueMark.{QueueMark}
use Rattle.sf_actor_steps.specs.sf_actor.Desks.{DeskHome}
use Rattle.sf_actor_steps.specs.sf_actor.Desks.{has_queue as has_mark}
use Rattle.sf_actor_steps.specs.sf_actor.Scripts.{op_of}
use Rattle.sf_actor_steps.specs.Playable.{IsTaken, MayPlay}
use Rattle.sf_actor_set.specs.Opening.{new_queue}

-- a change that a scene allows is one that layers take
taken_change : (c : Change) → IsChange c → IsInRange (op_of c)
taken_change (change.CreateContainer above) is = tt
taken_change (change.CreateColour above) is = tt
taken_change (change.CreateBuffer above) is = tt
taken_change change.Destroy is = tt
taken_change (change.Reparent above) is = tt
taken_change (change.Z z) is = tt
taken_change (change.Relative other z) is = tt
taken_change (change.Position x y) is = (record { low = is.0.low; high = is.0.high }, record { low = is.1.low; high = is.1.high })
taken_change (change.Crop x y width height) is = record {
  left = record { low = is.0.low; high = is.0.high };
  top = record { low = is.1.low; high = is.1.high };
  width = is.2.high;
  height = is.3.high;
}
taken_change change.CropNone is = tt
taken_change (change.Alpha alpha) is = tt
taken_change (change.Hidden on) is = tt
taken_change (change.Opaque on) is = tt
taken_change (change.Colour colour) is = tt
taken_change (change.Backpressure on) is = tt
taken_change (change.Orient orientation) is = is

taken_step : (s : Step) → IsStep s → IsTaken s
taken_step (step.Connect queue) is = tt
taken_step (step.Disconnect queue) is = tt
taken_step (step.MaxDequeued queue n) is = tt
taken_step (step.Async queue on) is = tt
taken_step (step.Dequeue queue name size) is = tt
taken_step (step.DequeueWait queue name size) is = tt
taken_step (step.Request name) is = tt
taken_step (step.Draw name picture) is = tt
taken_step (step.Queue name picture time crop points) is = tt
taken_step (step.Cancel name points) is = tt
taken_step (step.PDetach from to) is = tt
taken_step (step.PAttach queue from to) is = tt
taken_step (step.MaxAcquired queue n) is = tt
taken_step (step.Abandon queue) is = tt
taken_step (step.Acquire queue name at) is = tt
taken_step (step.Release name points) is = tt
taken_step (step.CDetach from to) is = tt
taken_step (step.CAttach queue from to) is = tt
taken_step (step.Signal timeline value) is = tt
taken_step (step.Wait timeline value) is = tt
taken_step (step.Tx number) is = tt
taken_step (step.Desire number time) is = tt
taken_step (step.Buffer number layer name) is = tt
taken_step (step.Barrier number layer frame) is = tt
taken_step (step.Merge number other) is = tt
taken_step (step.Apply number token) is = tt
taken_step (step.Set number layer c) is = let low = is.1.low in (omega (arith, low), taken_change c is.2)

-- a declared timeline has a right number
timeline_is : (timelines : List ℕ) (number : ℕ) → All IsTimeline timelines → has_timeline timelines number ≡ true → (1 ≤ number) × (number ≤ 64)
timeline_is [] number each known = absurd (false≢true known)
timeline_is (first ∷ timelines) number each known = first_is (first == number) refl (λ more. timeline_is timelines number (All-tail IsTimeline first timelines each) more) known
  where
    first_is : (b : Bool) → (first == number) ≡ b → (has_timeline timelines number ≡ true → (1 ≤ number) × (number ≤ 64)) → (b || has_timeline timelines number) ≡ true → (1 ≤ number) × (number ≤ 64)
    first_is true e rest known = let is = All-head IsTimeline first timelines each in let same = eqb-true first number e in subst (λ (n : ℕ). (1 ≤ n) × (n ≤ 64)) same (is.low, is.high)
    first_is false e rest known = rest known

if_some : (o : Option ℕ) (P Q : ℕ → Type 0) → ((n : ℕ) → P n → Q n) → IfSome o P → IfSome o Q
if_some None P Q more is = tt
if_some (Some n) P Q more is = more n is

-- the scripts of a scene may play over a desk that has its queues and serves everybody
pub may_play : (scene : SceneValue) (home : DeskHome) → IsWithinLimits scene → ((n : ℕ) → has_queue scene.queues n ≡ true → has_mark home n ≡ true)
    → ((n : ℕ) → home.serves n ≡ true) → All (MayPlay home scene.pictures) scene.actors
may_play scene home limits has serves = λ k d below.
    let script = get_or scene.actors k d in
    let is = limits.actors.each k d below in
    let few = is.few_steps in
    record {
      served = serves script.number;
      playable = λ j e under. record {
        ranges = is.steps j e under;
        taken = taken_step (get_or script.steps j e) (is.steps j e under);
        queue = if_some (queue_named (get_or script.steps j e)) (λ number. has_queue scene.queues number ≡ true) (λ number. has_mark home number ≡ true) has (limits.known_queues k d below j e under);
        timelines = λ i f down. timeline_is scene.timelines (get_or (timelines_named (get_or script.steps j e)) i f) limits.timelines.each (limits.known_timelines k d below j e under i f down);
      };
      pictured = limits.known_pictures k d below;
      few = omega (arith, few);
    }

-- a desk has the queues that were opened
marks_of_new : (B : Type 0) (queues : List QueueDecl) (number : ℕ) → list_any (λ (mark : QueueMark). mark.queue.0 == number) (map mark_of (map (new_queue {B = B}) queues)) ≡ has_queue queues number
marks_of_new B [] number = refl
marks_of_new B (first ∷ queues) number = ap (λ (b : Bool). (first.number == number) || b) (marks_of_new B queues number)

pub has_opened : (B : Type 0) (queues sorted : List QueueDecl) (number : ℕ) → IsPermutation queues sorted → has_queue queues number ≡ true
    → list_any (λ (mark : QueueMark). mark.queue.0 == number) (map mark_of (map (new_queue {B = B}) sorted)) ≡ true
has_opened B queues sorted number same known = marks_of_new B sorted number ∙ sym (list_any-IsPermutation (λ (q : QueueDecl). q.number == number) queues sorted same) ∙ known
