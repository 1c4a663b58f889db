-- The marks of the declared queues, by rising number, are told apart.
use Rattle.std.proofs.Common.{◌≡◌, ◌≢◌, ℕ, zero, suc, ◌+◌, ◌≤◌, ◌==◌, ◌⊎◌, false, List, [], ◌∷◌, ◌++◌, arith, ap, ◌∙◌, sym, refl, inl, inr, subst, map, filter}
use Rattle.std.specs.Prelude.{Contains}
use Rattle.std.specs.List.{AllPairs, flat_map, list_any, range_with_len}
use Rattle.std.proofs.lemmas.Bool.{cases_Bool, eqb-true, ne_eqb}
use Rattle.std.proofs.lemmas.List.Elements.{Contains-append_cases}
use Rattle.sf_script_scene.specs.Limits.{IsWithinLimits}
use Rattle.sf_script_scene.specs.Scene.{SceneValue}
use Rattle.sf_script_scene.specs.declared.declarations.QueueDecl.{QueueDecl}
use Rattle.law_draws.specs.law_played.Actors.{mark_declared}
use Rattle.law_draws.specs.law_played.Histories.{queue_number, rising_queues}
use Rattle.law_draws.proofs.law_played_lemmas.Members.{filter_has, has_here, has_later, has_none}
use Rattle.law_draws.specs.law_rights.States.{AreApart, is_queue}

abbrev Differ : List QueueDecl → Type 0
Differ queues = AllPairs (λ (x y : QueueDecl). queue_number x ≢ queue_number y) queues

differ_first : (x y : QueueDecl) (xs : List QueueDecl) → Differ (x ∷ xs) → Contains xs y → queue_number x ≢ queue_number y
differ_first x y xs differ there = let apart = differ 0 (suc there.0) y (omega arith) (omega (arith, there.1)) in subst (λ (z : QueueDecl). queue_number x ≢ queue_number z) there.2 apart

differ_later : (x : QueueDecl) (xs : List QueueDecl) → Differ (x ∷ xs) → Differ xs
differ_later x xs differ i j d before below = differ (suc i) (suc j) d (omega (arith, before)) (omega (arith, below))

abbrev of_number : List QueueDecl → ℕ → List QueueDecl
of_number queues n = filter (λ (queue : QueueDecl). queue_number queue == n) queues

no_others : (n : ℕ) (queues : List QueueDecl) → ((queue : QueueDecl) → Contains queues queue → queue.number ≢ n) → list_any (is_queue n) (map mark_declared queues) ≡ false
no_others n [] none = refl
no_others n (q ∷ queues) none =
    let here : (q.number == n) ≡ false = ne_eqb q.number n (none q (has_here q queues)) in
    rw here (no_others n queues (λ queue there. none queue (has_later q queue queues there)))

none_pass : (n : ℕ) (queues : List QueueDecl) → ((queue : QueueDecl) → Contains queues queue → queue_number queue ≢ n) → of_number queues n ≡ []
none_pass n [] none = refl
none_pass n (q ∷ queues) none =
    let here : (queue_number q == n) ≡ false = ne_eqb (queue_number q) n (none q (has_here q queues)) in
    rw here (none_pass n queues (λ queue there. none queue (has_later q queue queues there)))

-- a number has one queue or none
record IsOne (n : ℕ) (found : List QueueDecl) : Type 0 where
  queue : QueueDecl
  is : found ≡ queue ∷ []
  number : queue_number queue ≡ n

few : (n : ℕ) (queues : List QueueDecl) → Differ queues → (of_number queues n ≡ []) ⊎ IsOne n (of_number queues n)
few n [] differ = inl refl
few n (q ∷ queues) differ = elim (cases_Bool (queue_number q == n)) [
  | inl met ↦
      let is = eqb-true (queue_number q) n met in
      let none = none_pass n queues (λ other there same. differ_first q other queues differ there (is ∙ sym same)) in
      rw met (inr (record { queue = q; is = ap (λ (qs : List QueueDecl). q ∷ qs) none; number = is }))
  | inr unmet ↦ rw unmet (few n queues (differ_later q queues differ))
]

low : (queues : List QueueDecl) (k a : ℕ) (queue : QueueDecl) → Contains (flat_map (of_number queues) (range_with_len a k)) queue → a ≤ queue_number queue
low queues zero a queue there = has_none queue there
low queues (suc k) a queue there = elim (Contains-append_cases (of_number queues a) (flat_map (of_number queues) (range_with_len (a + 1) k)) queue there) [
  | inl here ↦ let is = eqb-true (queue_number queue) a (filter_has (λ (q : QueueDecl). queue_number q == a) queues queue here).1 in omega (arith, is)
  | inr later ↦ let rest = low queues k (a + 1) queue later in omega (arith, rest)
]

apart_from : (queues : List QueueDecl) → Differ queues → (k a : ℕ) → AreApart (map mark_declared (flat_map (of_number queues) (range_with_len a k)))
apart_from queues differ zero a = tt
apart_from queues differ (suc k) a =
    let rest = apart_from queues differ k (a + 1) in
    elim (few a queues differ) [
      | inl none ↦ subst (λ (found : List QueueDecl). AreApart (map mark_declared (found ++ flat_map (of_number queues) (range_with_len (a + 1) k)))) (sym none) rest
      | inr one ↦ subst (λ (found : List QueueDecl). AreApart (map mark_declared (found ++ flat_map (of_number queues) (range_with_len (a + 1) k)))) (sym one.is) (
        no_others one.queue.number (flat_map (of_number queues) (range_with_len (a + 1) k)) (λ queue there same.
            let more = low queues k (a + 1) queue there in let number = one.number in omega (arith, more, same, number)),
        rest,
      )
    ]

-- the marks of a scene's queues
pub rising_marks : (scene : SceneValue) → IsWithinLimits scene → AreApart (map mark_declared (rising_queues scene))
unfolding rising_queues
rising_marks scene limits = apart_from scene.queues limits.queues.differ 16 1
