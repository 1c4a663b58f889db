-- A draft behind which steps may stand.
use Rattle.std.specs.Prelude.{◌≡◌, ℕ, ◌≤◌, true, List, Some, map}
use Rattle.sf_script_words.specs.Text.{Text}
use Rattle.sf_script.specs.sf_script_scene.Scene.{has_picture, has_queue, last_of, steps_so_far}
use Rattle.sf_script.specs.sf_script_scene.declared.step.ActorScript.{ActorScript}
use Rattle.sf_script.specs.Draft.{DraftValue, is_any, may_follow_rank}
use Rattle.sf_script.specs.declared.line.Keyword.TheVariants as key
use Rattle.law_generated.specs.inner.Passes.{Passes}

-- what is declared in a generated scene, and the names and the number of steps of the last actor
pub record Ready (d : DraftValue) (names : List Text) (steps : ℕ) : Type 0 where
  pub version : d.scene.version ≡ 1
  pub queues : (q : ℕ) → 1 ≤ q → q ≤ 4 → has_queue d.scene.queues q ≡ true
  pub pictures : (p : ℕ) → 1 ≤ p → p ≤ 8 → has_picture d.scene.pictures p ≡ true
  pub actor : is_any d.scene.actors ≡ true
  pub counted : steps_so_far (last_of d.scene.actors) ≡ steps
  pub rank : d.rank ≡ Some 4
  pub named : d.names ≡ names

-- the numbers of actors
abbrev pub numbers_of : List ActorScript → List ℕ
numbers_of actors = map (λ a. a.number) actors

-- lines that lead from d to such a draft
pub record Leads (lines : List Text) (d : DraftValue) (names : List Text) (steps : ℕ) : Type 0 where
  pub after : DraftValue
  pub pass : Passes lines d after
  pub ready : Ready after names steps
  pub kept : numbers_of after.scene.actors ≡ numbers_of d.scene.actors

-- a draft behind which an actor may stand, with these numbers of actors
pub record Between (d : DraftValue) (numbers : List ℕ) : Type 0 where
  pub version : d.scene.version ≡ 1
  pub queues : (q : ℕ) → 1 ≤ q → q ≤ 4 → has_queue d.scene.queues q ≡ true
  pub pictures : (p : ℕ) → 1 ≤ p → p ≤ 8 → has_picture d.scene.pictures p ≡ true
  pub actors : numbers_of d.scene.actors ≡ numbers
  pub follows : may_follow_rank d.rank key.Actor ≡ true

-- lines that lead from d to such a draft
pub record Comes (lines : List Text) (d : DraftValue) (numbers : List ℕ) : Type 0 where
  pub after : DraftValue
  pub pass : Passes lines d after
  pub between : Between after numbers
