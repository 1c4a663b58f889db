-- What is declared by rising number: a list of the same in which numbers rise.
use Rattle.std.proofs.Common.{◌≡◌, ◌≢◌, ℕ, zero, suc, ◌+◌, ◌<◌, ◌≤◌, ◌==◌, Bool, true, false, List, [], ◌∷◌, ◌++◌, get_or, map, filter, refl, sym, ap, ◌∙◌, subst, inl, inr, arith}
use Rattle.std.specs.Prelude.{All, Contains, slice_index}
use Rattle.std.specs.List.{AllPairs, flat_map, range_with_len}
use Rattle.std.specs.List.Sorted.{IsPermutation, IsStrictlyIncreasing}
use Rattle.std.proofs.lemmas.Bool.{cases_eq, eq-eqb, eqb-true, ne_eqb}
use Rattle.std.proofs.lemmas.List.Elements.{All-cons, All-contains, All-head, All-tail, All-weaker}
use Rattle.std.proofs.lemmas.List.Kept.{AllPairs-from_increasing}
use Rattle.std.proofs.lemmas.List.Sorted.{Contains-permutation, IsPermutation-sym}
use Rattle.std.proofs.lemmas.List.{get_or-map, length-map}
use Rattle.sf_script_scene.specs.Limits.{IsActor as IsScript, IsWithinLimits, most_actors}
use Rattle.sf_script_scene.specs.Ranges.{IsQueue}
use Rattle.sf_script_scene.specs.Scene.{SceneValue}
use Rattle.sf_script_scene.specs.declared.declarations.QueueDecl.{QueueDecl}
use Rattle.sf_script_scene.specs.declared.step.ActorScript.{ActorScript}
use Rattle.sf_actor.specs.Desks.{DeskHome, DeskView}
use Rattle.sf_actor.specs.Tries.{ActorOf}
use Rattle.law_played.specs.Actors.{AreActors, script_of}
use Rattle.law_played.specs.Histories.{queue_number, rising_queues}
use Rattle.law_played.specs.Runs.{actor_number, rising, rising_actors}
use Rattle.law_played.proofs.StepKeepsTold.{of_all}
use Rattle.law_played.proofs.Members.{filter_has, has_cases, has_filter, has_here, has_later, has_map, has_none}
use Rattle.law_played.proofs.Parts.{map_twice}

-- joined lists that are the same for each of these numbers
joined_same : {X : Type 0} (f g : ℕ → List X) (ns : List ℕ) → ((n : ℕ) → Contains ns n → f n ≡ g n) → flat_map f ns ≡ flat_map g ns
joined_same f g [] same = refl
joined_same {X} f g (n ∷ ns) same = (λ i. same n (has_here n ns) i ++ flat_map f ns) ∙ ap (λ (xs : List X). g n ++ xs) (joined_same f g ns (λ m there. same m (has_later n m ns there)))

none_joined : {X : Type 0} (ns : List ℕ) → flat_map {X = ℕ} {A = X} (λ n. []) ns ≡ []
none_joined [] = refl
none_joined (n ∷ ns) = none_joined ns

-- a range has its numbers
from_range : (a k n : ℕ) → Contains (range_with_len a k) n → a ≤ n
from_range a zero n there = has_none n there
from_range a (suc k) n there = elim (has_cases a n (range_with_len (a + 1) k) there) [
  | inl same ↦ omega (arith, same)
  | inr c ↦ let low = from_range (a + 1) k n c in omega (arith, low)
]

none_pass : {X : Type 0} (p : X → Bool) (xs : List X) → ((x : X) → Contains xs x → p x ≡ false) → filter p xs ≡ []
none_pass p [] none = refl
none_pass p (x ∷ xs) none = let here = none x (has_here x xs) in rw here (none_pass p xs (λ y there. none y (has_later x y xs there)))

module _ {X : Type 0} (number : X → ℕ) where
  abbrev Differ : List X → Type 0
  Differ xs = AllPairs (λ x y. number x ≢ number y) xs

  differ_first : (x y : X) (xs : List X) → Differ (x ∷ xs) → Contains xs y → number x ≢ number y
  differ_first x y xs differ there = (let apart = differ 0 (suc there.0) y (omega arith) (omega (arith, there.1)) in subst (λ (z : X). number x ≢ number z) there.2 apart)

  differ_later : (x : X) (xs : List X) → Differ (x ∷ xs) → Differ xs
  differ_later x xs differ i j d before below = differ (suc i) (suc j) d (omega (arith, before)) (omega (arith, below))

  -- numbers that rise differ
  rising_apart : (xs : List X) → IsStrictlyIncreasing (map number xs) → Differ xs
  rising_apart xs up i j d before below e =
      let many = length-map xs number in
      let less = AllPairs-from_increasing (map number xs) up i j (number d) before (omega (arith, below, many)) in
      let low = get_or-map number xs i d (number d) (omega (arith, before, below)) in
      let high = get_or-map number xs j d (number d) below in
      omega (arith, less, low, high, e)

  -- the only one of its number
  only_one : (n : ℕ) (x : X) (xs : List X) → Differ xs → Contains xs x → number x ≡ n → filter (λ y. number y == n) xs ≡ x ∷ []
  only_one n x [] differ there is = has_none x there
  only_one n x (a ∷ xs) differ there is = elim (has_cases a x xs there) [
    | inl same ↦
        let met : (number a == n) ≡ true = eq-eqb (number a) n (ap number same ∙ is) in
        let rest = none_pass (λ y. number y == n) xs (λ y c. ne_eqb (number y) n (λ e. differ_first a y xs differ c (ap number same ∙ is ∙ sym e))) in
        rw (met, rest) (ap (λ (z : X). z ∷ []) same)
    | inr c ↦
        let unmet : (number a == n) ≡ false = ne_eqb (number a) n (λ e. differ_first a x xs differ c (e ∙ sym is)) in
        rw unmet (only_one n x xs (differ_later a xs differ) c is)
  ]

  -- of each number the same one is in both lists
  same_one : (n : ℕ) (xs sorted : List X) → Differ xs → Differ sorted → IsPermutation xs sorted → filter (λ x. number x == n) xs ≡ filter (λ x. number x == n) sorted
  same_one n xs sorted differ apart same = by_first (filter (λ x. number x == n) xs) refl
    where
      by_first : (found : List X) → filter (λ x. number x == n) xs ≡ found → filter (λ x. number x == n) xs ≡ filter (λ x. number x == n) sorted
      by_first [] e = e ∙ sym (none_pass (λ x. number x == n) sorted (λ y there. ne_eqb (number y) n (λ is.
          has_none y (subst (λ (ys : List X). Contains ys y) e (has_filter (λ x. number x == n) xs y (eq-eqb (number y) n is) (Contains-permutation sorted xs y (IsPermutation-sym xs sorted same) there))))))
      by_first (x ∷ more) e =
          let it = filter_has (λ x. number x == n) xs x (subst (λ (ys : List X). Contains ys x) (sym e) (has_here x more)) in
          let is = eqb-true (number x) n it.1 in
          only_one n x xs differ it.0 is ∙ sym (only_one n x sorted apart (Contains-permutation xs sorted x same it.0) is)

  -- the first of rising numbers is below each later one
  pub above : (x y : X) (xs : List X) → IsStrictlyIncreasing (map number (x ∷ xs)) → Contains xs y → number x < number y
  above x y xs up there =
      let at = has_map number xs y there in
      let below = AllPairs-from_increasing (map number (x ∷ xs)) up 0 (suc at.0) (number y) (omega arith) (omega (arith, at.1)) in
      subst (λ (n : ℕ). number x < n) at.2 below

  pub later_rises : (x : X) (xs : List X) → IsStrictlyIncreasing (map number (x ∷ xs)) → IsStrictlyIncreasing (map number xs)
  later_rises x xs up k low =
      let next : suc k + 1 ≡ suc (k + 1) = omega arith in
      subst (λ (n : ℕ). slice_index (map number xs) k < get_or (map number (x ∷ xs)) n 0) next (up (suc k) (omega (arith, low)))

  -- numbers from a on
  record AreWithin (a k : ℕ) (x : X) : Type 0 where
    low : a ≤ number x
    high : number x < a + k

  sorted_is : (k a : ℕ) (sorted : List X) → IsStrictlyIncreasing (map number sorted) → All (AreWithin a k) sorted → flat_map (λ n. filter (λ x. number x == n) sorted) (range_with_len a k) ≡ sorted
  sorted_is zero a [] up within = refl
  sorted_is zero a (x ∷ sorted) up within = (let is = All-head (AreWithin a 0) x sorted within in let low = is.low in let high = is.high in absurd (omega (arith, low, high)))
  sorted_is (suc k) a [] up within = none_joined (range_with_len (a + 1) k)
  sorted_is (suc k) a (x ∷ sorted) up within =
      let is = All-head (AreWithin a (suc k)) x sorted within in
      let here_low = is.low in
      let here_high = is.high in
      let up_later : IsStrictlyIncreasing (map number sorted) = later_rises x sorted up in
      let none : filter (λ y. number y == a) sorted ≡ [] = none_pass (λ y. number y == a) sorted (λ y there.
      let more = above x y sorted up there in
      ne_eqb (number y) a (λ e. omega (arith, more, here_low, e))) in
      let later : (y : X) → Contains sorted y → AreWithin (a + 1) k y = λ y there.
      let more = above x y sorted up there in
      let its = All-contains (AreWithin a (suc k)) sorted y (All-tail (AreWithin a (suc k)) x sorted within) there in
      let high = its.high in
      record { low = omega (arith, more, here_low); high = omega (arith, high) } in
      elim (cases_eq (number x) a) [
        | inl first ↦
            let met : (number x == a) ≡ true = eq-eqb (number x) a first in
            let rest = joined_same (λ n. filter (λ y. number y == n) (x ∷ sorted)) (λ n. filter (λ y. number y == n) sorted) (range_with_len (a + 1) k) (λ n there.
            let low = from_range (a + 1) k n there in
            let unmet : (number x == n) ≡ false = ne_eqb (number x) n (λ e. omega (arith, low, first, e)) in
            rw unmet refl) in
            rw (met, none) (ap (λ (ys : List X). x ∷ ys) (rest ∙ sorted_is k (a + 1) sorted up_later (of_all (AreWithin (a + 1) k) sorted later)))
        | inr apart ↦
            let unmet : (number x == a) ≡ false = ne_eqb (number x) a apart in
            let here : AreWithin (a + 1) k x = record { low = omega (arith, here_low, apart); high = omega (arith, here_high) } in
            rw (unmet, none) (sorted_is k (a + 1) (x ∷ sorted) up (All-cons (AreWithin (a + 1) k) x sorted here (of_all (AreWithin (a + 1) k) sorted later)))
      ]

  -- what is declared by rising number is the list in which numbers rise
  pub rising_is : (most : ℕ) (xs sorted : List X) → Differ xs → IsPermutation xs sorted → IsStrictlyIncreasing (map number sorted)
      → All (λ x. (1 ≤ number x) × (number x ≤ most)) xs → rising number most xs ≡ sorted
  rising_is most xs sorted differ same up within =
      joined_same (λ n. filter (λ x. number x == n) xs) (λ n. filter (λ x. number x == n) sorted) (range_with_len 1 most) (λ n there. same_one n xs sorted differ (rising_apart sorted up) same)
      ∙ sorted_is most 1 sorted up (of_all (AreWithin 1 most) sorted (λ x there.
      let is = All-contains (λ x. (1 ≤ number x) × (number x ≤ most)) xs x within (Contains-permutation sorted xs x (IsPermutation-sym xs sorted same) there) in
      let low = is.0 in
      let high = is.1 in
      record { low = low; high = omega (arith, high) }))

-- the actors of a scene and its queues, by rising number
pub rising_actors_are : {B : Type 0} (scene : SceneValue) (ofs : List (ActorOf B)) (home : DeskHome) (view : DeskView B) → IsWithinLimits scene → AreActors scene ofs home view
    → rising_actors scene ≡ map script_of ofs
rising_actors_are {B} scene ofs home view limits actors =
    rising_is actor_number (most_actors scene.version) scene.actors (map script_of ofs) limits.actors.differ actors.scripts
    (subst IsStrictlyIncreasing (sym (map_twice script_of actor_number ofs)) actors.apart)
    (All-weaker (IsScript (most_actors scene.version)) (λ (script : ActorScript). (1 ≤ actor_number script) × (actor_number script ≤ most_actors scene.version)) (λ script is. (is.low, is.high))
    scene.actors limits.actors.each)

pub rising_queues_are : (scene : SceneValue) (declared : List QueueDecl) → IsWithinLimits scene → IsPermutation scene.queues declared → IsStrictlyIncreasing (map queue_number declared)
    → rising_queues scene ≡ declared
unfolding rising_queues
rising_queues_are scene declared limits same up =
    rising_is queue_number 16 scene.queues declared limits.queues.differ same up
    (All-weaker IsQueue (λ (queue : QueueDecl). (1 ≤ queue_number queue) × (queue_number queue ≤ 16)) (λ queue is. (is.low, is.high)) scene.queues limits.queues.each)
