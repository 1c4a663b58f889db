-- What stands when a scene is opened for threads.
use Rattle.std.proofs.Common.{◌≡◌, ℕ, zero, suc, ◌+◌, ◌<◌, ◌≤◌, List, [], ◌∷◌, map, ap, ◌∙◌, arith, sym, subst}
use Rattle.std.specs.Prelude.{Contains}
use Rattle.std.specs.List.{AllZip}
use Rattle.atomic_table.specs.Seated.{TableId}
use Rattle.sf_picture.specs.declared.picture.Picture.{Picture}
use Rattle.sf_turns.specs.Counts.{range, stock_at}
use Rattle.sf_turns.proofs.Tallies.{stock_at-range}
use Rattle.sf_script_scene.specs.Limits.{IsWithinLimits}
use Rattle.sf_script_scene.specs.Scene.{SceneValue}
use Rattle.sf_live_compositor.specs.sf_surface.Objects.{ObjectOf, mark_of}
use Rattle.sf_live_compositor.specs.sf_actor.Desks.{DeskHome, DeskView}
use Rattle.sf_live_compositor.specs.sf_actor.Tries.{ActorOf}
use Rattle.sf_live_compositor.specs.sf_actor_steps.Actors.{IsActor}
use Rattle.sf_live_compositor.specs.sf_actor_steps.declared.actor.Actor.{Actor}
use Rattle.sf_live_compositor.specs.sf_actor_set.ActorSets.{KeepAs}
use Rattle.sf_live_compositor.specs.sf_actor_set.Opening.{OpensQueues, new_queue}
use Rattle.sf_live_compositor.proofs.sf_actor_set_lemmas.RisingLemmas.{sorted_rises}
use Rattle.sf_live_compositor.specs.law_played.Actors.{mark_declared}
use Rattle.sf_live_compositor.specs.law_played.Histories.{queue_number, rising_queues}
use Rattle.sf_live_compositor.proofs.law_played_lemmas.Parts.{map_twice}
use Rattle.sf_live_compositor.proofs.law_played_lemmas.RisingNumbers.{rising_queues_are}

range_within : (number a n : ℕ) → Contains (range a n) number → number < a + n
range_within number a zero there = absurd (let low = there.1 in omega (arith, low))
range_within number a (suc n) (zero, low, is) = omega (arith, is)
range_within number a (suc n) (suc k, low, is) = let rest = range_within number (a + 1) n (k, omega (arith, low), is) in omega (arith, rest)

-- each buffer is in a stock once, and is below their number
pub stock_once : (stock : List ℕ) (permits : ℕ) → stock ≡ range 0 permits → (number : ℕ) → stock_at number stock ≤ 1
stock_once stock permits whole number = subst (λ (s : List ℕ). stock_at number s ≤ 1) (sym whole) (stock_at-range number 0 permits)

pub stock_below : (stock : List ℕ) (permits slots : ℕ) → stock ≡ range 0 permits → permits ≤ slots → (number : ℕ) → Contains stock number → number < slots
stock_below stock permits slots whole sized number there =
    let low = range_within number 0 permits (subst (λ (s : List ℕ). Contains s number) whole there) in omega (arith, low, sized)

module _ {B : Type 0} where
  -- the queues are as they are declared, by rising number
  pub marks_opened : (scene : SceneValue) (objects : List (ObjectOf B)) → IsWithinLimits scene → OpensQueues scene.queues objects → map mark_of objects ≡ map mark_declared (rising_queues scene)
  marks_opened scene objects limits opens =
      ap (map mark_of) opens.opened
      ∙ map_twice (new_queue {B = B}) mark_of opens.declared
      ∙ ap (map mark_declared) (sym (rising_queues_are scene opens.declared limits opens.sorted.permutation (sorted_rises queue_number scene.queues opens.declared limits.queues.differ opens.sorted)))

  -- each actor is what contracts see of it
  pub are_actors : (table : TableId) (pictures : ℕ → Picture) (home : DeskHome) (view : DeskView B) (actors : List (Actor B)) (ofs : List (ActorOf B)) → KeepAs table pictures home view actors ofs → AllZip (IsActor table) actors ofs
  are_actors table pictures home view [] [] keep = tt
  are_actors table pictures home view [] (of ∷ ofs) keep = absurd keep
  are_actors table pictures home view (actor ∷ actors) [] keep = absurd keep
  are_actors table pictures home view (actor ∷ actors) (of ∷ ofs) keep = (keep.0.is, are_actors table pictures home view actors ofs keep.1)
