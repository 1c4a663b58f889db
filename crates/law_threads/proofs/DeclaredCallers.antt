-- The callers of a run at its join: the compositor, and the declared actors, each with a number of its own.
use Rattle.std.proofs.Common.{◌≡◌, ◌≢◌, ℕ, ◌≤◌, ◌==◌, ◌⊎◌, true, List, [], ◌∷◌, ◌++◌, arith, ap, ◌∙◌, sym, refl, subst, inl, inr, map, drop}
use Rattle.std.specs.Prelude.{Contains}
use Rattle.std.specs.List.{flat_map}
use Rattle.std.specs.List.Sorted.{IsStrictlyIncreasing}
use Rattle.std.proofs.lemmas.Bool.{cases_Bool, cases_eq, eq-eqb, ne_eqb}
use Rattle.std.proofs.lemmas.List.{append-nil, append_assoc}
use Rattle.std.proofs.lemmas.List.Elements.{All-contains}
use Rattle.std.proofs.lemmas.List.Sorted.{Contains-permutation, IsPermutation-sym}
use Rattle.law_draws.specs.sf_calls.Histories.{calls_by}
use Rattle.law_draws.specs.sf_calls.declared.object.Entry.{Entry}
use Rattle.sf_script_scene.specs.Limits.{IsActor as IsScript, IsWithinLimits, most_actors}
use Rattle.sf_script_scene.specs.Scene.{SceneValue}
use Rattle.sf_script_scene.specs.declared.step.ActorScript.{ActorScript}
use Rattle.law_draws.specs.sf_actor.Tries.{ActorOf, dequeues_in}
use Rattle.law_draws.proofs.sf_actor_set_lemmas.RisingLemmas.{sorted_rises}
use Rattle.law_draws.specs.sf_actor_set.Opening.{IsSortedFrom, new_actors}
use Rattle.law_draws.proofs.law_played_lemmas.Members.{has_cases, has_here, has_later, has_map, map_has}
use Rattle.law_draws.proofs.law_played_lemmas.RisingNumbers.{above, later_rises}
use Rattle.sf_live_compositor.specs.sf_live_seats.declared.first.FirstSeats.{FirstSeats}
use Rattle.sf_live_compositor.specs.sf_live_seats.declared.seats.Seats.{Seats}
use Rattle.sf_live_compositor.specs.sf_live_seats.First.{took_of}
use Rattle.sf_live_compositor.specs.sf_live_seats.Seats.{view_of}
use Rattle.sf_live_compositor.specs.sf_live_threads.Walks.{Moment}
use Rattle.law_threads.specs.Joining.{MeetsAll, of_at}
use Rattle.law_threads.specs.Members.{AllOnce, bit, count_of}

module _ {B : Type 0} where
  -- what was taken in
  pub took_all : (start : FirstSeats B) (met : List (Seats B)) (new : FirstSeats B) → MeetsAll start met new → took_of new ≡ took_of start ++ met
  took_all start [] new folds = ap took_of (sym folds) ∙ sym (append-nil (took_of start))
  took_all start (seats ∷ met) new folds = took_all folds.0 met new folds.2 ∙ ap (λ (xs : List (Seats B)). xs ++ met) folds.1.took ∙ append_assoc (took_of start) (seats ∷ []) met

  -- the turns that were left through them
  pub left_all : (start : FirstSeats B) (met : List (Seats B)) (new : FirstSeats B) → MeetsAll start met new
      → new.seats.turns.leaves ≡ start.seats.turns.leaves ++ flat_map (λ (seats : Seats B). (view_of seats).turns.leaves) met
  left_all start [] new folds = ap (λ (first : FirstSeats B). first.seats.turns.leaves) (sym folds) ∙ sym (append-nil start.seats.turns.leaves)
  left_all start (seats ∷ met) new folds =
      left_all folds.0 met new folds.2
      ∙ ap (λ turns. turns.leaves ++ flat_map (λ (seats : Seats B). (view_of seats).turns.leaves) met) folds.1.turns
      ∙ append_assoc start.seats.turns.leaves seats.turns.leaves (flat_map (λ (seats : Seats B). (view_of seats).turns.leaves) met)

-- a number that is there is counted
pub count_there : (n : ℕ) (xs : List ℕ) → Contains xs n → 1 ≤ count_of n xs
count_there n [] there = absurd (omega (arith, there.1))
count_there n (x ∷ xs) there = elim (has_cases x n xs there) [
  | inl same ↦ let one = ap bit (eq-eqb n x (sym same)) in omega (arith, one)
  | inr later ↦ let rest = count_there n xs later in omega (arith, rest)
]

module _ {X : Type 0} (number : X → ℕ) where
  count_none : (n : ℕ) (xs : List X) → ((x : X) → Contains xs x → number x ≢ n) → count_of n (map number xs) ≡ 0
  count_none n [] none = refl
  count_none n (x ∷ xs) none =
      let here = ap bit (ne_eqb n (number x) (λ same. none x (has_here x xs) (sym same))) in
      let rest = count_none n xs (λ y there. none y (has_later x y xs there)) in
      omega (arith, here, rest)

  -- of numbers that rise each is there once
  count_most : (n : ℕ) (xs : List X) → IsStrictlyIncreasing (map number xs) → count_of n (map number xs) ≤ 1
  count_most n [] up = omega arith
  count_most n (x ∷ xs) up = elim (cases_eq n (number x)) [
    | inl same ↦
        let here = ap bit (eq-eqb n (number x) same) in
        let rest = count_none n xs (λ y there is. let more = above number x y xs up there in omega (arith, more, same, is)) in
        omega (arith, here, rest)
    | inr apart ↦
        let here = ap bit (ne_eqb n (number x) apart) in
        let rest = count_most n xs (later_rises number x xs up) in
        omega (arith, here, rest)
  ]

  pub count_with : (n : ℕ) (xs : List X) → IsStrictlyIncreasing (map number xs) → ((x : X) → Contains xs x → 1 ≤ number x) → count_of n (0 ∷ map number xs) ≤ 1
  count_with n xs up low = by_first (cases_eq n 0)
    where
      by_first : (n ≡ 0) ⊎ (n ≢ 0) → count_of n (0 ∷ map number xs) ≤ 1
      by_first (inl same) =
          let here = ap bit (eq-eqb n 0 same) in
          let rest = count_none n xs (λ y there is. let more = low y there in omega (arith, more, same, is)) in
          omega (arith, here, rest)
      by_first (inr apart) =
          let here = ap bit (ne_eqb n 0 apart) in
          let rest = count_most n xs up in
          omega (arith, here, rest)

module _ {C R : Type 0} where
  -- each call is one of a caller that is counted once
  pub each_once : (bys : List ℕ) → ((n : ℕ) → count_of n bys ≤ 1) → (calls : List (Entry C R)) → ((by : ℕ) → (Contains bys by → ⊥) → calls_by by calls ≡ []) → AllOnce bys calls
  each_once bys most [] none = tt
  each_once bys most (e ∷ earlier) none = (by_count (cases_eq (count_of e.by bys) 0), each_once bys most earlier (λ by out. none_earlier by (none by out)))
    where
      none_earlier : (by : ℕ) → calls_by by (e ∷ earlier) ≡ [] → calls_by by earlier ≡ []
      none_earlier by nothing = elim (cases_Bool (e.by == by)) [
        | inl met ↦ let some : e ∷ calls_by by earlier ≡ [] = rw met at nothing in absurd (cc some)
        | inr unmet ↦ rw unmet at nothing
      ]

      by_count : (count_of e.by bys ≡ 0) ⊎ (count_of e.by bys ≢ 0) → count_of e.by bys ≡ 1
      by_count (inl nothing) =
          let none_by = none e.by (λ there. let one = count_there e.by bys there in omega (arith, one, nothing)) in
          let met : (e.by == e.by) ≡ true = eq-eqb e.by e.by refl in
          let some : e ∷ calls_by e.by earlier ≡ [] = rw met at none_by in
          absurd (cc some)
      by_count (inr some) = let few = most e.by in omega (arith, some, few)

abbrev pub script_number : ActorScript → ℕ
script_number script = script.number

module _ (B : Type 0) where
  new_numbers : (scripts : List ActorScript) (stock : List ℕ) → map (λ (of : ActorOf B). of.script.number) (new_actors {B = B} scripts stock) ≡ map script_number scripts
  new_numbers [] stock = refl
  new_numbers (script ∷ scripts) stock = ap (λ (ns : List ℕ). script.number ∷ ns) (new_numbers scripts (drop (dequeues_in script.steps) stock))

module _ {B : Type 0} where
  abbrev of_number : ActorOf B → ℕ
  of_number of = of.script.number

  abbrev pub moment_number : Moment B → ℕ
  moment_number moment = moment.of.script.number

  twice : (moments : List (Moment B)) → map of_number (map of_at moments) ≡ map moment_number moments
  twice [] = refl
  twice (moment ∷ moments) = ap (λ (ns : List ℕ). moment.of.script.number ∷ ns) (twice moments)

  pub numbers_are : (starts : List (Moment B)) (declared : List ActorScript) (stock : List ℕ) → map of_at starts ≡ new_actors declared stock → map moment_number starts ≡ map script_number declared
  numbers_are starts declared stock new = sym (twice starts) ∙ ap (map of_number) new ∙ new_numbers B declared stock

module _ (scene : SceneValue) (limits : IsWithinLimits scene) (declared : List ActorScript) (sorted : IsSortedFrom (λ (script : ActorScript). script.number) scene.actors declared) where
  pub declared_low : (script : ActorScript) → Contains declared script → 1 ≤ script.number
  declared_low script there =
      (All-contains (IsScript (most_actors scene.version)) scene.actors script limits.actors.each
      (Contains-permutation declared scene.actors script (IsPermutation-sym scene.actors declared sorted.permutation) there)).low

  pub declared_once : (n : ℕ) → count_of n (0 ∷ map (λ (script : ActorScript). script.number) declared) ≤ 1
  declared_once n = count_with (λ (script : ActorScript). script.number) n declared (sorted_rises (λ (script : ActorScript). script.number) scene.actors declared limits.actors.differ sorted) declared_low

  -- no actor's number is that of the first caller
  pub starts_numbered : {B : Type 0} (stock : List ℕ) (starts : List (Moment B)) → map of_at starts ≡ new_actors declared stock → (moment : Moment B) → Contains starts moment → moment.of.script.number ≡ 0 → ⊥
  starts_numbered stock starts new moment there none =
      let one = map_has script_number declared moment.of.script.number (subst (λ (ns : List ℕ). Contains ns moment.of.script.number) (numbers_are starts declared stock new) (has_map moment_number starts moment there)) in
      let low = declared_low one.0 one.1 in
      let same = one.2 in
      omega (arith, low, same, none)
