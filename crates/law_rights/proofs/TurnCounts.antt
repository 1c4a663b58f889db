-- How turns are counted in lists.
use Rattle.std.proofs.Common.{◌≡◌, ℕ, ◌≤◌, ◌==◌, List, [], ◌∷◌, inl, inr, sym, subst, refl, ◌∙◌, arith, ◌⊎◌}
use Rattle.std.specs.Prelude.{Contains}
use Rattle.std.specs.List.{sum_by}
use Rattle.std.proofs.lemmas.Bool.{cases_Bool, eqb-true}
use Rattle.std.proofs.lemmas.List.Elements.{Contains-append_cases, Contains-append_left, Contains-append_right, Contains-push, Contains-push_cases}
use Rattle.std.proofs.lemmas.List.Recursion.{is_sum_by}
use Rattle.std.proofs.lemmas.List.Sums.{sum_by-cons}
use Rattle.sf_actor_set.specs.sf_turns.Counts.{leaves_of, same, same_turn}
use Rattle.sf_actor_set.specs.sf_actor.Rights.{Turn}

module _ {A : Type 0} where
  -- the items of a list with one more in front
  pub in_front : (x y : A) (xs : List A) → Contains (x ∷ xs) y → (x ≡ y) ⊎ Contains xs y
  in_front x y xs there = elim (Contains-append_cases (x ∷ []) xs y there) [
    | inl first ↦ elim (Contains-push_cases [] x y first) [
      | inl none ↦ absurd (nothing y none)
      | inr same ↦ inl same
    ]
    | inr later ↦ inr later
  ]
    where
      nothing : (y : A) → Contains [] y → ⊥
      nothing y there = omega (arith, there.1)

  pub the_only : (x y : A) → Contains (x ∷ []) y → x ≡ y
  the_only x y there = elim (Contains-push_cases [] x y there) [
    | inl none ↦ absurd (omega (arith, none.1))
    | inr same ↦ same
  ]

  pub none_in : (y : A) → Contains [] y → ⊥
  none_in y there = omega (arith, there.1)

  pub first : (x : A) (xs : List A) → Contains (x ∷ xs) x
  first x xs = Contains-append_left (x ∷ []) xs x (Contains-push [] x)

  pub later : (x y : A) (xs : List A) → Contains xs y → Contains (x ∷ xs) y
  later x y xs there = Contains-append_right (x ∷ []) xs y there

-- 1 for this turn
abbrev pub is_turn : Turn → Turn → ℕ
is_turn turn other = same_turn turn.0 turn.1 other.0 other.1

-- 1 for a turn of this buffer
abbrev pub is_at : ℕ → Turn → ℕ
is_at buffer other = same buffer other.0

pub count_at : (buffer : ℕ) (xs : List Turn) → leaves_of buffer xs ≡ sum_by (is_at buffer) xs
count_at buffer xs = is_sum_by (leaves_of buffer) (is_at buffer) refl (λ x xs. refl) xs

pub is_itself : (turn : Turn) → is_turn turn turn ≡ 1
is_itself turn = grind arith

pub is_at_itself : (turn : Turn) → is_at turn.0 turn ≡ 1
is_at_itself turn = grind arith

pub at_least : (buffer : ℕ) (turn : Turn) → turn.0 ≡ buffer → is_at buffer turn ≡ 1
at_least buffer turn e = grind (arith, e)

pub not_both : (turn other : Turn) → (turn ≡ other → ⊥) → is_turn turn other ≡ 0
not_both turn other apart = elim (cases_Bool (other.0 == turn.0)) [
  | inl met ↦ elim (cases_Bool (turn.1 == other.1)) [
    | inl also ↦ absurd (apart (pair turn other (sym (eqb-true other.0 turn.0 met)) (eqb-true turn.1 other.1 also)))
    | inr unmet ↦ grind (arith, met, unmet)
  ]
  | inr unmet ↦ grind (arith, unmet)
]
  where
    pair : (a b : Turn) → a.0 ≡ b.0 → a.1 ≡ b.1 → a ≡ b
    pair a b p q = λ i. (p i, q i)

-- a list with a turn counts it, and one that counts it has it
pub counted : (turn : Turn) (xs : List Turn) → Contains xs turn → 1 ≤ sum_by (is_turn turn) xs
counted turn [] there = absurd (none_in turn there)
counted turn (x ∷ xs) there =
    let sum = sum_by-cons (is_turn turn) x xs in
    elim (in_front x turn xs there) [
      | inl same ↦
          let itself : is_turn turn x ≡ 1 = subst (λ (y : Turn). is_turn turn y ≡ 1) (sym same) (is_itself turn) in
          omega (arith, sum, itself)
      | inr further ↦
          let rest = counted turn xs further in
          omega (arith, sum, rest)
    ]

pub found : (turn : Turn) (xs : List Turn) → 1 ≤ sum_by (is_turn turn) xs → Contains xs turn
found turn [] counts = absurd (omega (arith, counts))
found turn (x ∷ xs) counts = elim (cases_Bool (turn.0 == x.0)) [
  | inl met ↦ elim (cases_Bool (turn.1 == x.1)) [
    | inl also ↦ subst (λ (y : Turn). Contains (x ∷ xs) y) (sym (pair turn x (eqb-true turn.0 x.0 met) (eqb-true turn.1 x.1 also))) (first x xs)
    | inr unmet ↦ later x turn xs (found turn xs (not_here (rw met (rw unmet refl))))
  ]
  | inr unmet ↦ later x turn xs (found turn xs (not_here (rw unmet refl)))
]
  where
    pair : (a b : Turn) → a.0 ≡ b.0 → a.1 ≡ b.1 → a ≡ b
    pair a b p q = λ i. (p i, q i)

    not_here : is_turn turn x ≡ 0 → 1 ≤ sum_by (is_turn turn) xs
    not_here none = let sum = sum_by-cons (is_turn turn) x xs in omega (arith, sum, none, counts)

-- no turn is counted more often than its buffer
pub at_buffer : (turn : Turn) (xs : List Turn) → sum_by (is_turn turn) xs ≤ sum_by (is_at turn.0) xs
at_buffer turn [] = omega arith
at_buffer turn (x ∷ xs) =
    let here = one_turn in
    let a = sum_by-cons (is_turn turn) x xs in
    let b = sum_by-cons (is_at turn.0) x xs in
    let rest = at_buffer turn xs in
    omega (arith, here, a, b, rest)
  where
    one_turn : is_turn turn x ≤ is_at turn.0 x
    one_turn = grind arith

-- a list that counts a buffer has a turn of it
pub found_at : (buffer : ℕ) (xs : List Turn) → 1 ≤ sum_by (is_at buffer) xs → (turn : Turn) × Contains xs turn × (turn.0 ≡ buffer)
found_at buffer [] counts = absurd (omega (arith, counts))
found_at buffer (x ∷ xs) counts = elim (cases_Bool (buffer == x.0)) [
  | inl met ↦ (x, first x xs, sym (eqb-true buffer x.0 met))
  | inr unmet ↦
      let rest = found_at buffer xs (not_here (rw unmet refl)) in
      (rest.0, later x rest.0 xs rest.1, rest.2)
]
  where
    not_here : is_at buffer x ≡ 0 → 1 ≤ sum_by (is_at buffer) xs
    not_here none = let sum = sum_by-cons (is_at buffer) x xs in omega (arith, sum, none, counts)

counted_at : (buffer : ℕ) (turn : Turn) (xs : List Turn) → Contains xs turn → turn.0 ≡ buffer → 1 ≤ sum_by (is_at buffer) xs
counted_at buffer turn xs there e =
    let counts = counted turn xs there in
    let most = at_buffer turn xs in
    subst (λ (b : ℕ). 1 ≤ sum_by (is_at b) xs) e (omega (arith, counts, most))

-- where a buffer is counted once at most, its turns in the list are one
pub only_one : (buffer : ℕ) (xs : List Turn) (turn other : Turn) → sum_by (is_at buffer) xs ≤ 1 → Contains xs turn → Contains xs other → turn.0 ≡ buffer → other.0 ≡ buffer → turn ≡ other
only_one buffer [] turn other one there here e f = absurd (none_in turn there)
only_one buffer (x ∷ xs) turn other one there here e f = elim (in_front x turn xs there) [
  | inl same ↦ elim (in_front x other xs here) [
    | inl also ↦ sym same ∙ also
    | inr further ↦ absurd (twice (subst (λ (t : Turn). t.0 ≡ buffer) (sym same) e) (counted_at buffer other xs further f))
  ]
  | inr further ↦ elim (in_front x other xs here) [
    | inl also ↦ absurd (twice (subst (λ (t : Turn). t.0 ≡ buffer) (sym also) f) (counted_at buffer turn xs further e))
    | inr too ↦ only_one buffer xs turn other fewer further too e f
  ]
]
  where
    twice : x.0 ≡ buffer → 1 ≤ sum_by (is_at buffer) xs → ⊥
    twice same more =
        let sum = sum_by-cons (is_at buffer) x xs in
        let itself = at_least buffer x same in
        omega (arith, sum, itself, more, one)

    fewer : sum_by (is_at buffer) xs ≤ 1
    fewer = let sum = sum_by-cons (is_at buffer) x xs in omega (arith, sum, one)
