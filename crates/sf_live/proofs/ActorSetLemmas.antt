-- The actors that came back are an actor set over the desk that is left.
use Rattle.std.proofs.Common.{◌≡◌, ℕ, ◌≤◌, List, [], ◌∷◌, ◌++◌, map, ap, ◌∙◌, refl, sym, subst}
use Rattle.std.specs.Prelude.{All}
use Rattle.std.specs.List.Sorted.{IsStrictlyIncreasing}
use Rattle.std.proofs.lemmas.List.{map-append}
use Rattle.std.proofs.lemmas.List.Elements.{All-cons, All-nil, All-weaker}
use Rattle.std.proofs.lemmas.List.Sorted.{All-permutation}
use Rattle.atomic_table.specs.Seated.{TableId}
use Rattle.sf_picture.specs.declared.picture.Picture.{Picture}
use Rattle.sf_live_compositor.specs.sf_surface.Tokens.{Issued, ReadLeaseOf}
use Rattle.sf_turns.specs.Views.{SeatView}
use Rattle.sf_live_compositor.specs.sf_txn.declared.lease.Lease.{Ghosts}
use Rattle.sf_script_scene.specs.Limits.{IsActor as IsDeclared, most_actors}
use Rattle.sf_script_scene.specs.Scene.{SceneValue}
use Rattle.sf_script_scene.specs.declared.step.ActorScript.{ActorScript}
use Rattle.sf_live_compositor.specs.sf_actor.Desks.{DeskHome, DeskView}
use Rattle.sf_live_compositor.specs.sf_actor.Plain.{PlainOf, home_of as plain_home, view_of as plain_view}
use Rattle.sf_live_compositor.specs.sf_actor.Scripts.{picture_at}
use Rattle.sf_live_compositor.specs.sf_actor.Tries.{ActorOf}
use Rattle.sf_live_compositor.specs.sf_actor_steps.Actors.{IsKept}
use Rattle.sf_live_compositor.specs.sf_actor_steps.declared.actor.Actor.{Actor}
use Rattle.sf_live_compositor.specs.sf_actor_set.ActorSets.{IsActorSet, KeepAs, numbers_of, scripts_of}
use Rattle.sf_live_compositor.specs.law_played.Actors.{number_of, script_of}
use Rattle.sf_live_compositor.specs.sf_live_seats.declared.locks.Locks.{Locks}
use Rattle.sf_live_compositor.specs.sf_live_threads.declared.all_returned.ReturnedActor.{ReturnedActor}
use Rattle.sf_live_compositor.specs.sf_live_threads.declared.gates.Gates.{Gates}
use Rattle.sf_live_compositor.specs.sf_live_threads.Walks.{Moment}
use Rattle.sf_live_compositor.specs.Vsyncs.{Sitting}
use Rattle.law_live_order.specs.law_joins.law_threads.Joining.{actor_at, of_at}
use Rattle.law_live_order.specs.law_joins.Joined.{IsJoined, actor_set_joined}
use Rattle.law_live_order.proofs.law_joins_lemmas.Ends.{all_play}
use Rattle.law_live_order.proofs.law_joins_lemmas.PlayerAtJoin.{actors, kept_as}
use Rattle.sf_live.specs.inner.Threads.{returned_actor, returned_gates}

module _ {B : Type 0} (table : TableId) (pictures : ℕ → Picture) (home : DeskHome) (view : DeskView B) where
  scripts_are : (actor_set : List (Actor B)) (ofs : List (ActorOf B)) → KeepAs table pictures home view actor_set ofs → scripts_of actor_set ≡ map script_of ofs
  scripts_are [] [] keep = refl
  scripts_are [] (of ∷ ofs) keep = absurd keep
  scripts_are (actor ∷ actor_set) [] keep = absurd keep
  scripts_are (actor ∷ actor_set) (of ∷ ofs) keep = (λ i. sym keep.0.is.script i ∷ scripts_are actor_set ofs keep.1 i)

  all_kept : (actor_set : List (Actor B)) (ofs : List (ActorOf B)) → KeepAs table pictures home view actor_set ofs → All (λ (actor : Actor B). IsKept table pictures home actor view) actor_set
  all_kept [] [] keep = All-nil (λ (actor : Actor B). IsKept table pictures home actor view)
  all_kept [] (of ∷ ofs) keep = absurd keep
  all_kept (actor ∷ actor_set) [] keep = absurd keep
  all_kept (actor ∷ actor_set) (of ∷ ofs) keep =
      All-cons (λ (a : Actor B). IsKept table pictures home a view) actor actor_set (record { of = of; is = keep.0.is; keeps = keep.0.keeps }) (all_kept actor_set ofs keep.1)

numbers_are : {B : Type 0} (ofs : List (ActorOf B)) → numbers_of (map script_of ofs) ≡ map number_of ofs
numbers_are [] = refl
numbers_are (of ∷ ofs) = ap (λ (ns : List ℕ). of.script.number ∷ ns) (numbers_are ofs)

module _ {B : Type 0} (lease : Ghosts ReadLeaseOf SeatView ReadLeaseOf Issued) (scene : SceneValue) (table : TableId) (period most : ℕ) (locks : Locks B) (last : Sitting B) (ends : List (Moment B)) (desk : PlainOf B)
    (is : IsJoined lease scene table period most locks last ends desk) where
  pub is_actor_set : IsActorSet table (actor_set_joined scene ends desk)
  is_actor_set =
      let keep = kept_as lease scene table period most locks last ends desk is in
      let are = actors lease scene table period most locks last ends desk is in
      let scripts = scripts_are table (picture_at scene.pictures) (plain_home desk) (plain_view desk) (map actor_at ends) (map of_at ends) keep in
      record {
        rising = subst IsStrictlyIncreasing (sym (ap numbers_of scripts ∙ numbers_are (map of_at ends))) are.apart;
        numbered = subst (All (λ (script : ActorScript). 1 ≤ script.number)) (sym scripts)
            (All-permutation (λ (script : ActorScript). 1 ≤ script.number) scene.actors (map script_of (map of_at ends)) are.scripts
            (All-weaker (IsDeclared (most_actors scene.version)) (λ (script : ActorScript). 1 ≤ script.number) (λ script fits. fits.low) scene.actors is.joins.limits.actors.each));
        plays = all_play scene table locks (plain_home desk) (plain_view desk) is.joins.closes.marks (λ by. refl) is.joins.starts ends is.joins.new_seats is.joins.came;
        kept = λ unspent. all_kept table (picture_at scene.pictures) (plain_home desk) (plain_view desk) (map actor_at ends) (map of_at ends) keep;
      }

-- one more actor came back, with the gates that it passed
pub actors_more : {B : Type 0} (returned : List (ReturnedActor B)) (one : ReturnedActor B) (old new : List (Actor B)) → old ≡ map returned_actor returned → new ≡ old ++ one.actor ∷ [] → new ≡ map returned_actor (returned ++ one ∷ [])
actors_more returned one old new are pushed = pushed ∙ ap (λ (actors : List (Actor _)). actors ++ one.actor ∷ []) are ∙ sym (map-append returned_actor returned (one ∷ []))

pub gates_more : {B : Type 0} (returned : List (ReturnedActor B)) (one : ReturnedActor B) (old new : List Gates) → old ≡ map returned_gates returned → new ≡ old ++ one.gates ∷ [] → new ≡ map returned_gates (returned ++ one ∷ [])
gates_more returned one old new are pushed = pushed ∙ ap (λ (gates : List Gates). gates ++ one.gates ∷ []) are ∙ sym (map-append returned_gates returned (one ∷ []))
