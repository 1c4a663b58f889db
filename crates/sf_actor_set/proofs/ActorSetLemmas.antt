-- An actor set that has done nothing.
use Rattle.std.proofs.Common.{◌≡◌, ℕ, ◌≤◌, true, false, List, [], length, refl, ap, ◌∙◌, sym, subst, arith}
use Rattle.std.specs.List.{All, AllPairs}
use Rattle.std.specs.List.Sorted.{IsStrictlyIncreasing}
use Rattle.std.proofs.lemmas.List.Elements.{All-weaker}
use Rattle.std.proofs.lemmas.List.Sorted.{All-permutation, sum_by-IsPermutation}
use Rattle.atomic_table.specs.Seated.{TableId}
use Rattle.sf_commit.specs.sf_picture.declared.picture.Picture.{Picture}
use Rattle.sf_actor_steps.specs.sf_script_scene.Limits.{IsActor as IsActorOf, most_actors}
use Rattle.sf_actor_steps.specs.sf_script_scene.Scene.{has_queue}
use Rattle.sf_actor_steps.specs.sf_script_scene.declared.declarations.QueueDecl.{QueueDecl}
use Rattle.sf_actor_steps.specs.sf_script_scene.declared.step.ActorScript.{ActorScript}
use Rattle.sf_actor_steps.specs.sf_surface.Objects.{ObjectOf}
use Rattle.sf_actor_steps.specs.sf_times.Seats.{opened as unraised}
use Rattle.sf_commit.specs.sf_token.Arrivals.{sent}
use Rattle.sf_actor_steps.specs.sf_turns.Counts.{range, stock_at}
use Rattle.sf_actor_steps.specs.sf_turns.Views.{SeatView}
use Rattle.sf_actor_steps.proofs.sf_turns_lemmas.Tallies.{length-range, stock_at-range}
use Rattle.sf_actor_steps.specs.sf_actor.Desks.{DeskHome}
use Rattle.sf_actor_steps.specs.sf_actor.Desks.{has_queue as has_mark}
use Rattle.sf_actor_steps.specs.sf_actor.Plain.{PlainOf, calls_among, home_of, view_of}
use Rattle.sf_actor_steps.specs.sf_actor.Scripts.{picture_at}
use Rattle.sf_actor_steps.specs.sf_actor.Tries.{dequeues_in}
use Rattle.sf_actor_steps.specs.Playable.{MayPlay}
use Rattle.sf_actor_steps.specs.declared.actor.Actor.{Actor}
use Rattle.sf_actor_set.specs.ActorSets.{IsActorSet, KeepAs, Opens, numbers_of, scripts_of}
use Rattle.sf_actor_set.specs.Opening.{OpensActors, OpensQueues, new_actors}
use Rattle.sf_actor_set.specs.Scripts.{AreOfScene, permits_of}
use Rattle.sf_actor_set.proofs.OpeningLemmas.{KnowsNone, news_keep, news_scripts, none_called}
use Rattle.sf_actor_set.proofs.PlayingLemmas.{has_opened, may_play}
use Rattle.sf_actor_set.proofs.RisingLemmas.{sorted_rises}
use Rattle.sf_actor_set.proofs.SteppingLemmas.{kept_as}

scene_plays : (queues : List QueueDecl) (pictures : List Picture) (scripts : List ActorScript) (home : DeskHome) → AreOfScene queues pictures scripts
    → ((n : ℕ) → has_queue queues n ≡ true → has_mark home n ≡ true) → ((n : ℕ) → home.serves n ≡ true) → All (MayPlay home pictures) scripts
scene_plays queues pictures scripts home is has serves =
    subst (λ (ps : List Picture). All (MayPlay home ps) scripts) is.pictures_of
    (subst (λ (ss : List ActorScript). All (MayPlay home is.scene.pictures) ss) is.scripts_of
    (may_play is.scene home is.limits (λ n known. has n (subst (λ (qs : List QueueDecl). has_queue qs n ≡ true) is.queues_of known)) serves))

pub enough_for : (scripts vec : List ActorScript) (stock : List ℕ) → vec ≡ scripts → stock ≡ range 0 (permits_of scripts) → permits_of vec ≤ length stock
enough_for scripts vec stock same whole =
    let a = ap permits_of same in
    let b = ap length whole in
    let n = length-range 0 (permits_of scripts) in
    omega (arith, a, b, n)

module _ {B : Type 0} where
  module _ (table : TableId) (queues : List QueueDecl) (pictures : List Picture) (scripts : List ActorScript) (stock : List ℕ) (actors : List (Actor B)) (objects : List (ObjectOf B)) (desk : PlainOf B)
      (scene : AreOfScene queues pictures scripts) (whole : stock ≡ range 0 (permits_of scripts))
      (opened : OpensActors table scripts stock actors) (queued : OpensQueues queues objects) (own : desk.queues ≡ objects) (none : desk.arrivals ≡ []) where
    has : (n : ℕ) → has_queue queues n ≡ true → has_mark (home_of desk) n ≡ true
    has n known = subst (λ (os : List (ObjectOf B)). has_mark (home_of (record desk { queues = os })) n ≡ true) (sym (own ∙ queued.opened)) (has_opened B queues queued.declared n queued.sorted.permutation known)

    knows_none : KnowsNone (view_of desk)
    knows_none = record {
      calls = λ queue. ap (λ (os : List (ObjectOf B)). calls_among os queue) (own ∙ queued.opened) ∙ none_called queued.declared queue;
      arrivals = ap sent none;
    }

    keep : KeepAs table (picture_at pictures) (home_of desk) (view_of desk) actors (new_actors opened.declared stock)
    keep =
        let same = sum_by-IsPermutation (λ (script : ActorScript). dequeues_in script.steps) scripts opened.declared opened.sorted.permutation in
        let enough = enough_for scripts scripts stock refl whole in
        news_keep table (picture_at pictures) (home_of desk) (view_of desk) actors opened.declared stock knows_none
        (λ b. subst (λ (s : List ℕ). stock_at b s ≤ 1) (sym whole) (stock_at-range b 0 (permits_of scripts))) (omega (arith, same, enough)) opened.opened

    same : scripts_of actors ≡ opened.declared
    same = news_scripts table actors opened.declared stock opened.opened

    pub actor_set_is : IsActorSet table (record { pictures = pictures; actors = actors; desk = desk; is_spent = false })
    actor_set_is = record {
      rising = subst (λ (ss : List ActorScript). IsStrictlyIncreasing (numbers_of ss)) (sym same)
          (sorted_rises (λ (script : ActorScript). script.number) scripts opened.declared
          (subst (λ (ss : List ActorScript). AllPairs (λ (x y : ActorScript). x.number ≡ y.number → ⊥) ss) scene.scripts_of scene.limits.actors.differ) opened.sorted);
      numbered = subst (λ (ss : List ActorScript). All (λ (script : ActorScript). 1 ≤ script.number) ss) (sym same)
          (All-permutation (λ (script : ActorScript). 1 ≤ script.number) scripts opened.declared opened.sorted.permutation
          (subst (λ (ss : List ActorScript). All (λ (script : ActorScript). 1 ≤ script.number) ss) scene.scripts_of
          (All-weaker (IsActorOf (most_actors scene.scene.version)) (λ (script : ActorScript). 1 ≤ script.number) (λ script is. is.low) scene.scene.actors scene.limits.actors.each)));
      plays = subst (λ (ss : List ActorScript). All (MayPlay (home_of desk) pictures) ss) (sym same)
          (All-permutation (MayPlay (home_of desk) pictures) scripts opened.declared opened.sorted.permutation (scene_plays queues pictures scripts (home_of desk) scene has (λ n. refl)));
      kept = λ unspent. kept_as table (picture_at pictures) (home_of desk) (view_of desk) (view_of desk) actors _ keep;
    }

    pub actor_set_opens : (seat : SeatView) → desk.times.knows ≡ unraised → desk.turns ≡ seat → (home_of desk).tells ≡ true → Opens table queues pictures scripts seat stock (record { pictures = pictures; actors = actors; desk = desk; is_spent = false })
    actor_set_opens seat times turns told = record {
      same_pictures = refl;
      queues_opened = subst (OpensQueues queues) (sym own) queued;
      none_arrived = none;
      none_raised = times;
      same_seat = turns;
      told = told;
      declared = opened.declared;
      sorted = opened.sorted;
      keep = keep;
      unspent = refl;
    }
