-- The ledger of a play stands before its first action.
use Rattle.std.proofs.Common.{◌≡◌, ◌≢◌, ℕ, zero, suc, ◌+◌, ◌≤◌, ◌<◌, ◌==◌, ◌⊎◌, true, false, List, [], ◌∷◌, ◌++◌, map, take, drop, refl, sym, inl, inr, arith}
use Rattle.std.specs.Prelude.{Contains}
use Rattle.std.specs.List.{All, AllPairs, flat_map, list_any}
use Rattle.std.proofs.lemmas.Bool.{cases_eq, eq-eqb, ne_eqb}
use Rattle.std.proofs.lemmas.List.Elements.{All-cons, All-head, All-nil, All-tail}
use Rattle.sf_play_report.specs.sf_surface.Objects.{mark_of}
use Rattle.sf_play_report.specs.sf_turns.Counts.{range, stock_at}
use Rattle.sf_script_scene.specs.declared.declarations.QueueDecl.{QueueDecl}
use Rattle.sf_script_scene.specs.declared.step.ActorScript.{ActorScript}
use Rattle.sf_play_report.specs.sf_actor.Tries.{dequeues_in}
use Rattle.law_rights.specs.sf_actor_set.Opening.{new_actors, new_queue}
use Rattle.sf_play_report.proofs.law_played_lemmas.Members.{has_cases, has_none}
use Rattle.sf_play_report.specs.law_played.Histories.{queue_number}
use Rattle.law_rights.specs.Standing.{IsFresh, stock_of}
use Rattle.law_rights.specs.States.{AreApart, is_queue}

stock_append : (number : ℕ) (xs ys : List ℕ) → stock_at number (xs ++ ys) ≡ stock_at number xs + stock_at number ys
stock_append number [] ys = omega arith
stock_append number (x ∷ xs) ys = let rest = stock_append number xs ys in omega (arith, rest)

stock_split : (number k : ℕ) (xs : List ℕ) → stock_at number (take k xs) + stock_at number (drop k xs) ≡ stock_at number xs
stock_split number zero xs = omega arith
stock_split number (suc k) [] = omega arith
stock_split number (suc k) (x ∷ xs) = let rest = stock_split number k xs in omega (arith, rest)

in_stock : (number : ℕ) (stock : List ℕ) → Contains stock number → 1 ≤ stock_at number stock
in_stock number [] there = absurd (has_none number there)
in_stock number (x ∷ stock) there = by_place (has_cases x number stock there) (in_stock number stock)
  where
    by_place : (x ≡ number) ⊎ Contains stock number → (Contains stock number → 1 ≤ stock_at number stock) → 1 ≤ stock_at number (x ∷ stock)
    by_place (inl it) further = rw (eq-eqb number x (sym it)) omega arith
    by_place (inr rest) further = let more = further rest in omega (arith, more)

-- a number that is not below a range's first is in it once at most, and only below its end
range_above : (number a n : ℕ) → number < a → stock_at number (range a n) ≡ 0
range_above number a zero below = omega arith
range_above number a (suc n) below =
    let unmet : (number == a) ≡ false = ne_eqb number a (λ same. omega (arith, same, below)) in
    let rest = range_above number (a + 1) n (omega (arith, below)) in
    rw unmet (omega (arith, rest))

range_once : (number a n : ℕ) → stock_at number (range a n) ≤ 1
range_once number a zero = omega arith
range_once number a (suc n) = elim (cases_eq number a) [
  | inl same ↦
      let met : (number == a) ≡ true = eq-eqb number a same in
      let rest = range_above number (a + 1) n (omega (arith, same)) in
      rw met (omega (arith, rest))
  | inr apart ↦
      let unmet : (number == a) ≡ false = ne_eqb number a apart in
      let rest = range_once number (a + 1) n in
      rw unmet (omega (arith, rest))
]

range_below : (number a n : ℕ) → 1 ≤ stock_at number (range a n) → number < a + n
range_below number a zero there = absurd (omega (arith, there))
range_below number a (suc n) there = elim (cases_eq number a) [
  | inl same ↦ omega (arith, same)
  | inr apart ↦
      let unmet : (number == a) ≡ false = ne_eqb number a apart in
      let more = rw unmet at there in
      let less = range_below number (a + 1) n (omega (arith, more)) in
      omega (arith, less)
]

-- what the actors got of a stock
dealt : (B : Type 0) (number : ℕ) (scripts : List ActorScript) (stock : List ℕ) → stock_at number (flat_map stock_of (new_actors {B = B} scripts stock)) ≤ stock_at number stock
dealt B number [] stock = omega arith
dealt B number (script ∷ scripts) stock =
    let k = dequeues_in script.steps in
    let rest = dealt B number scripts (drop k stock) in
    let joined = stock_append number (take k stock) (flat_map stock_of (new_actors {B = B} scripts (drop k stock))) in
    let split = stock_split number k stock in
    omega (arith, rest, joined, split)

pub dealt_once : (B : Type 0) (number n : ℕ) (scripts : List ActorScript) → stock_at number (flat_map stock_of (new_actors {B = B} scripts (range 0 n))) ≤ 1
dealt_once B number n scripts =
    let a = dealt B number scripts (range 0 n) in
    let b = range_once number 0 n in
    omega (arith, a, b)

pub dealt_below : (B : Type 0) (number n : ℕ) (scripts : List ActorScript) → Contains (flat_map stock_of (new_actors {B = B} scripts (range 0 n))) number → number < n
dealt_below B number n scripts there =
    let one = in_stock number (flat_map stock_of (new_actors {B = B} scripts (range 0 n))) there in
    let a = dealt B number scripts (range 0 n) in
    let b = range_below number 0 n (omega (arith, one, a)) in
    omega (arith, b)

module _ {B : Type 0} where
  pub all_fresh : (scripts : List ActorScript) (stock : List ℕ) → All IsFresh (new_actors {B = B} scripts stock)
  all_fresh [] stock = All-nil IsFresh
  all_fresh (script ∷ scripts) stock =
      All-cons IsFresh _ (new_actors {B = B} scripts (drop (dequeues_in script.steps) stock)) (record { names = refl; transactions = refl; trace = refl }) (all_fresh scripts (drop (dequeues_in script.steps) stock))

-- the marks of queues of which each has a number of its own
none_same : (B : Type 0) (queue : ℕ) (queues : List QueueDecl) → All (λ (n : ℕ). queue ≢ n) (map queue_number queues) → list_any (is_queue queue) (map mark_of (map (new_queue {B = B}) queues)) ≡ false
none_same B queue [] apart = refl
none_same B queue (q ∷ queues) apart =
    let unmet : (q.number == queue) ≡ false = ne_eqb q.number queue (λ same. All-head (λ (n : ℕ). queue ≢ n) q.number (map queue_number queues) apart (sym same)) in
    rw unmet (none_same B queue queues (All-tail (λ (n : ℕ). queue ≢ n) q.number (map queue_number queues) apart))

pub marks_apart : (B : Type 0) (queues : List QueueDecl) → AllPairs (λ m n. m ≢ n) (map queue_number queues) → AreApart (map mark_of (map (new_queue {B = B}) queues))
marks_apart B [] differ = tt
marks_apart B (q ∷ queues) differ =
    let others : All (λ (n : ℕ). q.number ≢ n) (map queue_number queues) = λ k d below. differ zero (suc k) d (omega arith) (omega (arith, below)) in
    (none_same B q.number queues others, marks_apart B queues (λ i j d up below. differ (suc i) (suc j) d (omega arith) (omega arith)))
