-- Actors that have done nothing may be given seats where nothing is known.
use Rattle.std.proofs.Common.{◌≡◌, ℕ, zero, suc, ◌+◌, ◌<◌, ◌≤◌, Bool, true, false, List, [], ◌∷◌, inl, inr, drop, filter, length, map, take, arith, refl, ap, ◌∙◌, sym, subst}
use Rattle.std.specs.Prelude.{◌==◌, All, IfSome}
use Rattle.std.specs.List.{AllByRecursion, list_any, slice_index}
use Rattle.std.specs.List.Sorted.{IsStrictlyIncreasing}
use Rattle.std.proofs.lemmas.List.{length-map}
use Rattle.std.proofs.lemmas.Bool.{cases_Bool, eq-eqb}
use Rattle.std.proofs.lemmas.List.Elements.{All-cons, All-head, All-nil, All-tail, All-weaker}
use Rattle.atomic_table.specs.Seated.{TableId}
use Rattle.sf_picture.specs.declared.picture.Picture.{Picture}
use Rattle.sf_script_scene.specs.declared.step.ActorScript.{ActorScript}
use Rattle.sf_script_scene.specs.declared.step.Step.{Step}
use Rattle.sf_script_scene.specs.declared.declarations.QueueDecl.{QueueDecl}
use Rattle.sf_live_compositor.specs.sf_surface.Histories.{Made}
use Rattle.sf_live_compositor.specs.sf_surface.Tokens.{ReadLeaseOf}
use Rattle.sf_live_compositor.specs.sf_surface.Objects.{ObjectOf}
use Rattle.sf_live_compositor.specs.sf_surface.declared.mark.QueueMark.{QueueMark}
use Rattle.sf_live_compositor.specs.sf_actor.Desks.{DeskHome, DeskView, mark_among}
use Rattle.sf_live_compositor.specs.sf_actor.Known.{arrivals_told, is_sent_by, own_calls}
use Rattle.sf_script_scene.specs.Named.{queue_named}
use Rattle.sf_live_compositor.specs.sf_actor.Scripts.{picture_at}
use Rattle.sf_live_compositor.specs.sf_actor.Tries.{dequeues_in}
use Rattle.sf_live_compositor.specs.sf_actor_steps.Actors.{IsActor, new_actor}
use Rattle.sf_live_compositor.specs.sf_actor_steps.Playable.{IsPlayable, MayPlay}
use Rattle.sf_live_compositor.specs.sf_actor_steps.declared.actor.Actor.{Actor}
use Rattle.sf_live_compositor.specs.sf_actor_set.ActorSets.{KeepAs, KeepsAs, scripts_of}
use Rattle.sf_live_compositor.specs.sf_actor_set.Opening.{OpensQueues, new_actors, new_queue}
use Rattle.sf_live_compositor.specs.sf_token.Pending.{Arrival}
use Rattle.sf_live_compositor.specs.sf_calls_stamped.Stamps.{unstamped}
use Rattle.sf_live_compositor.proofs.sf_live_seats_lemmas.IntakeHands.{none_arrived}
use Rattle.sf_live_compositor.specs.sf_live_seats.Closing.{HasNoCalls}
use Rattle.sf_live_compositor.specs.sf_live_seats.First.{KnowsNothing}
use Rattle.sf_live_compositor.specs.sf_live_seats.Seats.{QueuePass, calls_known, is_at, marks_of, tells_of}
use Rattle.sf_live_compositor.specs.sf_live_seats.declared.locks.Locks.{Locks}
use Rattle.sf_live_compositor.specs.sf_live_seats.declared.seats.Seats.{Seats}
use Rattle.sf_live_compositor.specs.sf_live_threads.Seating.{IsNewcomer, home_for, number_of}
use Rattle.sf_live_compositor.proofs.sf_play_lemmas.PlayFuel.{many_below}

-- a script that may be played over a desk may be over another one with the same queues that serves its actor
playable_over : (home other : DeskHome) (s : Step) → other.marks ≡ home.marks → IsPlayable home s → IsPlayable other s
playable_over home other s marks is = record {
  ranges = is.ranges;
  taken = is.taken;
  queue = subst (λ (ms : List QueueMark). IfSome (queue_named s) (λ number. list_any (λ (mark : QueueMark). mark.queue.0 == number) ms ≡ true)) (sym marks) is.queue;
  timelines = is.timelines;
}

plays_over : (home other : DeskHome) (pictures : List Picture) (script : ActorScript) → other.marks ≡ home.marks → other.serves script.number ≡ true → MayPlay home pictures script → MayPlay other pictures script
plays_over home other pictures script marks serves plays = record {
  served = serves;
  playable = All-weaker (IsPlayable home) (IsPlayable other) (λ s is. playable_over home other s marks is) script.steps plays.playable;
  pictured = plays.pictured;
  few = plays.few;
}

same_number : (n : ℕ) → (n == n) ≡ true
same_number n = eq-eqb n n refl

-- no arrivals are told as none
none_told : (tells : Bool) → arrivals_told {L = ReadLeaseOf} tells [] ≡ []
none_told true = refl
none_told false = refl

no_calls : (B : Type 0) (declared : List QueueDecl) → AllByRecursion HasNoCalls (map (new_queue {B = B}) declared)
no_calls B [] = tt
no_calls B (queue ∷ declared) = (refl, no_calls B declared)

both : (numbers : List ℕ) → All (λ (n : ℕ). 1 ≤ n) numbers → All (λ (n : ℕ). n ≤ 64) numbers → All (λ (n : ℕ). (1 ≤ n) × (n ≤ 64)) numbers
both numbers low high = λ k d below. (low k d below, high k d below)

module _ {B : Type 0} where
  -- no call is known
  none_known : (passes : List (QueuePass B)) (queue : ℕ) → AllByRecursion (λ (pass : QueuePass B). pass.seen ≡ []) passes → calls_known passes queue ≡ []
  none_known [] queue none = refl
  none_known (pass ∷ passes) queue none =
      let rest = none_known passes queue none.1 in
      elim (cases_Bool (is_at queue pass)) [
        | inl met ↦ rw met (ap unstamped none.0)
        | inr unmet ↦ rw unmet rest
      ]

  newcomer : (table : TableId) (locks : Locks B) (pictures : List Picture) (known : Seats B) (home : DeskHome) (view : DeskView B) (actor : Actor B) (script : ActorScript) (share : List ℕ) → KnowsNothing known → marks_of locks ≡ home.marks
      → KeepsAs table (picture_at pictures) home view actor (new_actor script share) → MayPlay home pictures actor.script → IsNewcomer table locks pictures known actor
  newcomer table locks pictures known home view actor script share nothing marks keep plays = record {
    stock = share;
    is = subst (λ (s : ActorScript). IsActor table actor (new_actor s share)) keep.is.script keep.is;
    new = record {
      no_calls = λ queue. ap (λ (calls : List (Made B)). own_calls actor.script.number (mark_among (marks_of locks) queue) calls) (none_known known.queues.items queue nothing.queues);
      no_arrivals = ap (λ (arrivals : List (Arrival ReadLeaseOf)). arrivals_told (tells_of locks) (filter (is_sent_by actor.script.number) arrivals)) (none_arrived known nothing) ∙ none_told (tells_of locks);
      once = keep.keeps.kept.permits.once;
      enough = subst (λ (s : ActorScript). dequeues_in s.steps ≤ length share) keep.is.script keep.keeps.kept.permits.enough;
    };
    plays = plays_over home (home_for locks actor.script.number) pictures actor.script marks (same_number actor.script.number) plays;
  }

  pub newcomers : (table : TableId) (locks : Locks B) (pictures : List Picture) (known : Seats B) (home : DeskHome) (view : DeskView B) (actors : List (Actor B)) (scripts : List ActorScript) (stock : List ℕ) → KnowsNothing known
      → marks_of locks ≡ home.marks → KeepAs table (picture_at pictures) home view actors (new_actors scripts stock) → All (MayPlay home pictures) (scripts_of actors) → AllByRecursion (IsNewcomer table locks pictures known) actors
  newcomers table locks pictures known home view [] scripts stock nothing marks keep plays = tt
  newcomers table locks pictures known home view (actor ∷ actors) [] stock nothing marks keep plays = absurd keep
  newcomers table locks pictures known home view (actor ∷ actors) (script ∷ scripts) stock nothing marks keep plays = (
    newcomer table locks pictures known home view actor script (take (dequeues_in script.steps) stock) nothing marks keep.0 (All-head (MayPlay home pictures) actor.script (scripts_of actors) plays),
    newcomers table locks pictures known home view actors scripts (drop (dequeues_in script.steps) stock) nothing marks keep.1 (All-tail (MayPlay home pictures) actor.script (scripts_of actors) plays),
  )

  -- queues that were opened have no calls
  pub opened_bare : (queues : List QueueDecl) (objects : List (ObjectOf B)) → OpensQueues queues objects → AllByRecursion HasNoCalls objects
  opened_bare queues objects opens = subst (AllByRecursion HasNoCalls) (sym opens.opened) (no_calls B opens.declared)

  numbers_low : (table : TableId) (pictures : ℕ → Picture) (home : DeskHome) (view : DeskView B) (actors : List (Actor B)) (scripts : List ActorScript) (stock : List ℕ) → KeepAs table pictures home view actors (new_actors scripts stock)
      → All (λ (script : ActorScript). script.number ≤ 64) scripts → All (λ (n : ℕ). n ≤ 64) (map number_of actors)
  numbers_low table pictures home view [] scripts stock keep low = All-nil (λ (n : ℕ). n ≤ 64)
  numbers_low table pictures home view (actor ∷ actors) [] stock keep low = absurd keep
  numbers_low table pictures home view (actor ∷ actors) (script ∷ scripts) stock keep low =
      All-cons (λ (n : ℕ). n ≤ 64) actor.script.number (map number_of actors)
      (subst (λ (s : ActorScript). s.number ≤ 64) keep.0.is.script (All-head (λ (s : ActorScript). s.number ≤ 64) script scripts low))
      (numbers_low table pictures home view actors scripts (drop (dequeues_in script.steps) stock) keep.1 (All-tail (λ (s : ActorScript). s.number ≤ 64) script scripts low))

  pub numbers_same : (actors : List (Actor B)) → map number_of actors ≡ map (λ (script : ActorScript). script.number) (scripts_of actors)
  numbers_same [] = refl
  numbers_same (actor ∷ actors) = ap (λ (ns : List ℕ). actor.script.number ∷ ns) (numbers_same actors)

  positive : (actors : List (Actor B)) → All (λ (script : ActorScript). 1 ≤ script.number) (scripts_of actors) → All (λ (n : ℕ). 1 ≤ n) (map number_of actors)
  positive [] all = All-nil (λ (n : ℕ). 1 ≤ n)
  positive (actor ∷ actors) all =
      All-cons (λ (n : ℕ). 1 ≤ n) actor.script.number (map number_of actors) (All-head (λ (s : ActorScript). 1 ≤ s.number) actor.script (scripts_of actors) all)
      (positive actors (All-tail (λ (s : ActorScript). 1 ≤ s.number) actor.script (scripts_of actors) all))

  -- actors with rising numbers up to 64 are no more
  pub few_opened : (table : TableId) (pictures : ℕ → Picture) (home : DeskHome) (view : DeskView B) (actors : List (Actor B)) (scripts : List ActorScript) (stock : List ℕ) → KeepAs table pictures home view actors (new_actors scripts stock)
      → All (λ (script : ActorScript). script.number ≤ 64) scripts → All (λ (script : ActorScript). 1 ≤ script.number) (scripts_of actors) → IsStrictlyIncreasing (map number_of actors) → length actors ≤ 64
  few_opened table pictures home view actors scripts stock keep low numbered rising =
      let many = many_below (map number_of actors) 64 rising (both (map number_of actors) (positive actors numbered) (numbers_low table pictures home view actors scripts stock keep low)) in
      let mapped = length-map actors (number_of {B = B}) in
      omega (arith, many, mapped)

  -- behind 0 they rise, too
  pub rise_behind : (by : ℕ) (actors : List (Actor B)) → by ≡ 0 → All (λ (script : ActorScript). 1 ≤ script.number) (scripts_of actors) → IsStrictlyIncreasing (map number_of actors) → IsStrictlyIncreasing (by ∷ map number_of actors)
  rise_behind by [] first numbered rising k low = absurd (omega (arith, low))
  rise_behind by (actor ∷ actors) first numbered rising zero low = (let one = All-head (λ (s : ActorScript). 1 ≤ s.number) actor.script (scripts_of actors) numbered in omega (arith, first, one))
  rise_behind by (actor ∷ actors) first numbered rising (suc k) low =
      let next : suc (k + 1) ≡ suc k + 1 = omega arith in
      subst (λ (n : ℕ). slice_index (by ∷ map number_of (actor ∷ actors)) (suc k) < slice_index (by ∷ map number_of (actor ∷ actors)) n) next (rising k (omega (arith, low)))
