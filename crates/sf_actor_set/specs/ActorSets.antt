-- What contracts see of an actor set. Its actors' traces are not in its memory: contracts speak of each list of traces that fits
-- what the actors have.
use Rattle.std.specs.Prelude.{◌≡◌, ℕ, ◌+◌, ◌≤◌, Bool, true, false, List, [], length, map, slice_get, slice_set, Some, Result, IfOk}
use Rattle.std.specs.List.{All, AllZip}
use Rattle.std.specs.List.Sorted.{IsStrictlyIncreasing}
use Rattle.atomic_table.specs.Seated.{TableId}
use Rattle.sf_base.specs.declared.memory.NoMemory.{NoMemory}
use Rattle.sf_commit.specs.sf_picture.declared.picture.Picture.{Picture}
use Rattle.sf_actor_steps.specs.sf_script_scene.declared.declarations.QueueDecl.{QueueDecl}
use Rattle.sf_actor_steps.specs.sf_script_scene.declared.step.ActorScript.{ActorScript}
use Rattle.sf_actor_steps.specs.sf_script_scene.declared.step.Step.{Step}
use Rattle.sf_actor_steps.specs.sf_times.Seats.{opened}
use Rattle.sf_actor_steps.specs.sf_turns.Views.{SeatView}
use Rattle.sf_actor_steps.specs.sf_actor.declared.tried.Stepped.{Stepped}
use Rattle.sf_actor_steps.specs.sf_actor.Desks.{DeskHome, DeskView}
use Rattle.sf_actor_steps.specs.sf_actor.Plain.{PlainOf, home_of, view_of}
use Rattle.sf_actor_steps.specs.sf_actor.Scripts.{picture_at}
use Rattle.sf_actor_steps.specs.sf_actor.Tries.{ActorOf, Keeps, Tries, next_step}
use Rattle.sf_actor_steps.specs.Actors.{Acts, IsActor, IsKept}
use Rattle.sf_actor_steps.specs.Playable.{MayPlay}
use Rattle.sf_actor_steps.specs.declared.actor.Actor.{Actor}
use Rattle.sf_actor_set.specs.Opening.{IsSortedFrom, OpensQueues, new_actors}

-- the scene's pictures, its actors, the desk, and whether a try found no memory
pub record ActorSetOf (B : Type 0) : Type 0 where
  pub pictures : List Picture
  pub actors : List (Actor B)
  pub desk : PlainOf B
  pub is_spent : Bool

abbrev pub numbers_of : List ActorScript → List ℕ
numbers_of scripts = map (λ (script : ActorScript). script.number) scripts

module _ {B : Type 0} where
  abbrev pub script_of : Actor B → ActorScript
  script_of actor = actor.script

  abbrev pub scripts_of : List (Actor B) → List ActorScript
  scripts_of actors = map script_of actors

  abbrev pub number_of : Actor B → ℕ
  number_of actor = actor.script.number

  -- an actor is what contracts see of it, and keeps what it keeps
  pub record KeepsAs (table : TableId) (pictures : ℕ → Picture) (home : DeskHome) (view : DeskView B) (actor : Actor B) (of : ActorOf B) : Type 0 where
    pub is : IsActor table actor of
    pub keeps : Keeps pictures home of view

  -- so is each of these actors
  abbrev pub KeepAs : TableId → (ℕ → Picture) → DeskHome → DeskView B → List (Actor B) → List (ActorOf B) → Type 0
  KeepAs table pictures home view actors ofs = AllZip (KeepsAs table pictures home view) actors ofs

  -- over a desk: no number is an actor's twice, each actor may play, and each keeps what it keeps
  pub record MayStep (table : TableId) (pictures : List Picture) (actors : List (Actor B)) (desk : PlainOf B) : Type 0 where
    pub rising : IsStrictlyIncreasing (numbers_of (scripts_of actors))
    pub plays : All (MayPlay (home_of desk) pictures) (scripts_of actors)
    pub kept : All (λ actor. IsKept table (picture_at pictures) (home_of desk) actor (view_of desk)) actors

  module _ (table : TableId) (pictures : ℕ → Picture) (index : ℕ) where
    -- A try of the actor at an index: it does what its script says, with the tokens in its bindings, and every other one is as before;
    -- all keep what they keep.
    pub record StepsAt (was : List (Actor B)) (olds : List (ActorOf B)) (before : PlainOf B) (actors : List (Actor B)) (after : PlainOf B) (stepped : Stepped) : Type 0 where
      pub old : ActorOf B
      pub new : ActorOf B
      pub here : slice_get olds index ≡ Some old
      pub tries : Tries pictures (home_of before) old (view_of before) new (view_of after) stepped
      pub keep : KeepAs table pictures (home_of after) (view_of after) actors (slice_set olds index new)
      pub was_here : Actor B
      pub now_here : Actor B
      pub was_at : slice_get was index ≡ Some was_here
      pub now_at : slice_get actors index ≡ Some now_here
      pub acts : (next : Step) → next_step old ≡ Some next
          → Acts pictures (home_of before) next (length old.trace + 1) was_here.bindings (view_of before) now_here.bindings (view_of after)

  -- whatever the actors are seen as, and keep, a try of the one at an index steps so, unless it runs out of memory
  abbrev pub TriesAt : TableId → (ℕ → Picture) → ℕ → List (Actor B) → PlainOf B → List (Actor B) → PlainOf B → Result Stepped NoMemory → Type 0
  TriesAt table pictures index was before actors after result =
      (ofs : List (ActorOf B)) → KeepAs table pictures (home_of before) (view_of before) was ofs
      → IfOk result (StepsAt table pictures index was ofs before actors after)

  -- nothing that a try leaves as it is was changed
  pub record IsSameActorSet (old new : ActorSetOf B) : Type 0 where
    pub pictures : new.pictures ≡ old.pictures
    pub scripts : scripts_of new.actors ≡ scripts_of old.actors
    pub home : home_of new.desk ≡ home_of old.desk

  -- what an actor set keeps of itself; no actor has the compositor's number, which is 0
  pub record IsActorSet (table : TableId) (actor_set : ActorSetOf B) : Type 0 where
    pub rising : IsStrictlyIncreasing (numbers_of (scripts_of actor_set.actors))
    pub numbered : All (λ (script : ActorScript). 1 ≤ script.number) (scripts_of actor_set.actors)
    pub plays : All (MayPlay (home_of actor_set.desk) actor_set.pictures) (scripts_of actor_set.actors)
    pub kept : actor_set.is_spent ≡ false
        → All (λ actor. IsKept table (picture_at actor_set.pictures) (home_of actor_set.desk) actor (view_of actor_set.desk)) actor_set.actors

  module _ (table : TableId) (queues : List QueueDecl) (pictures : List Picture) (scripts : List ActorScript) where
    -- an actor set that has done nothing, over queues that were not called, no arrivals, timelines that nobody raised, and the seat
    -- at the turns; its desk reports places
    pub record Opens (seat : SeatView) (stock : List ℕ) (actor_set : ActorSetOf B) : Type 0 where
      pub same_pictures : actor_set.pictures ≡ pictures
      pub queues_opened : OpensQueues queues actor_set.desk.queues
      pub none_arrived : actor_set.desk.arrivals ≡ []
      pub none_raised : actor_set.desk.times.knows ≡ opened
      pub same_seat : actor_set.desk.turns ≡ seat
      pub told : (home_of actor_set.desk).tells ≡ true
      pub declared : List ActorScript
      pub sorted : IsSortedFrom (λ (script : ActorScript). script.number) scripts declared
      pub keep : KeepAs table (picture_at actor_set.pictures) (home_of actor_set.desk) (view_of actor_set.desk) actor_set.actors (new_actors declared stock)
      pub unspent : actor_set.is_spent ≡ false
