-- Members of lists: through maps, filters, joined lists and reversed ones.
use Rattle.std.proofs.Common.{◌≡◌, ℕ, zero, suc, ◌+◌, ◌-◌, ◌<◌, ◌≤◌, Bool, true, List, [], ◌∷◌, length, get_or, map, filter, Some, refl, sym, ap, ◌∙◌, subst, inl, inr, arith}
use Rattle.std.specs.Prelude.{◌⊎◌, Contains, find, reverse}
use Rattle.std.specs.List.{AllZip, flat_map, range_with_len}
use Rattle.std.proofs.lemmas.Bool.{cases_Bool, false≢true}
use Rattle.std.proofs.lemmas.List.Elements.{Contains-append_cases, Contains-append_left, Contains-append_right}
use Rattle.std.proofs.lemmas.List.FromFn.{get_or-range_with_len, length-range_with_len}
use Rattle.std.proofs.lemmas.List.Sorted.{Contains-permutation, IsPermutation-reverse, IsPermutation-sym}

module _ {X : Type 0} where
  pub has_none : {P : Type 0} (x : X) → Contains [] x → P
  has_none x there = absurd (omega (arith, there.1))

  pub has_here : (x : X) (xs : List X) → Contains (x ∷ xs) x
  has_here x xs = (0, omega arith, refl)

  pub has_later : (x y : X) (xs : List X) → Contains xs y → Contains (x ∷ xs) y
  has_later x y xs there = (suc there.0, omega (arith, there.1), there.2)

  at_place : (x y : X) (xs : List X) (k : ℕ) → k < length (x ∷ xs) → get_or (x ∷ xs) k y ≡ y → (x ≡ y) ⊎ Contains xs y
  at_place x y xs zero low e = inl e
  at_place x y xs (suc k) low e = inr (k, omega (arith, low), e)

  pub has_cases : (x y : X) (xs : List X) → Contains (x ∷ xs) y → (x ≡ y) ⊎ Contains xs y
  has_cases x y xs there = at_place x y xs there.0 there.1 there.2

  -- the first one is this one
  pub has_first : (x y : X) (xs : List X) → x ≡ y → Contains (x ∷ xs) y
  has_first x y xs e = subst (λ (z : X). Contains (x ∷ xs) z) e (has_here x xs)

  pub has_filter : (p : X → Bool) (xs : List X) (x : X) → p x ≡ true → Contains xs x → Contains (filter p xs) x
  has_filter p [] x met there = has_none x there
  has_filter p (a ∷ xs) x met there = elim (cases_Bool (p a)) [
    | inl met_here ↦ rw met_here (elim (has_cases a x xs there) [ inl e ↦ has_first a x (filter p xs) e | inr c ↦ has_later a x (filter p xs) (has_filter p xs x met c) ])
    | inr unmet ↦ rw unmet (elim (has_cases a x xs there) [ inl e ↦ absurd (false≢true (sym unmet ∙ ap p e ∙ met)) | inr c ↦ has_filter p xs x met c ])
  ]

  pub filter_has : (p : X → Bool) (xs : List X) (x : X) → Contains (filter p xs) x → Contains xs x × (p x ≡ true)
  filter_has p [] x there = has_none x there
  filter_has p (a ∷ xs) x there = elim (cases_Bool (p a)) [
    | inl met_here ↦ elim (has_cases a x (filter p xs) (rw met_here at there)) [
      | inl e ↦ (has_first a x xs e, sym (ap p e) ∙ met_here)
      | inr c ↦ let rest = filter_has p xs x c in (has_later a x xs rest.0, rest.1)
    ]
    | inr unmet ↦ let rest = filter_has p xs x (rw unmet at there) in (has_later a x xs rest.0, rest.1)
  ]

  pub has_reverse : (xs : List X) (x : X) → Contains xs x → Contains (reverse xs) x
  has_reverse xs x there = Contains-permutation xs (reverse xs) x (IsPermutation-reverse xs) there

  pub reverse_has : (xs : List X) (x : X) → Contains (reverse xs) x → Contains xs x
  reverse_has xs x there = Contains-permutation (reverse xs) xs x (IsPermutation-sym xs (reverse xs) (IsPermutation-reverse xs)) there

  -- what is found where one passes: one that passes
  pub record IsFound (p : X → Bool) (xs : List X) : Type 0 where
    pub one : X
    pub found : find p xs ≡ Some one
    pub there : Contains xs one
    pub passes : p one ≡ true

  pub has_found : (p : X → Bool) (xs : List X) (x : X) → Contains xs x → p x ≡ true → IsFound p xs
  has_found p [] x there met = has_none x there
  has_found p (a ∷ xs) x there met = elim (cases_Bool (p a)) [
    | inl met_here ↦ record { one = a; found = rw met_here refl; there = has_here a xs; passes = met_here }
    | inr unmet ↦ elim (has_cases a x xs there) [
      | inl e ↦ absurd (false≢true (sym unmet ∙ ap p e ∙ met))
      | inr c ↦ let rest = has_found p xs x c met in record { one = rest.one; found = rw unmet rest.found; there = has_later a rest.one xs rest.there; passes = rest.passes }
    ]
  ]

module _ {X Y : Type 0} where
  pub has_map : (f : X → Y) (xs : List X) (x : X) → Contains xs x → Contains (map f xs) (f x)
  has_map f [] x there = has_none x there
  has_map f (a ∷ xs) x there = elim (has_cases a x xs there) [
    | inl e ↦ has_first (f a) (f x) (map f xs) (ap f e)
    | inr c ↦ has_later (f a) (f x) (map f xs) (has_map f xs x c)
  ]

  pub map_has : (f : X → Y) (xs : List X) (y : Y) → Contains (map f xs) y → (x : X) × Contains xs x × (f x ≡ y)
  map_has f [] y there = has_none y there
  map_has f (a ∷ xs) y there = elim (has_cases (f a) y (map f xs) there) [
    | inl e ↦ (a, has_here a xs, e)
    | inr c ↦ let rest = map_has f xs y c in (rest.0, has_later a rest.0 xs rest.1, rest.2)
  ]

  pub has_joined : (f : X → List Y) (xs : List X) (x : X) (y : Y) → Contains xs x → Contains (f x) y → Contains (flat_map f xs) y
  has_joined f [] x y there inside = has_none x there
  has_joined f (a ∷ xs) x y there inside = elim (has_cases a x xs there) [
    | inl e ↦ Contains-append_left (f a) (flat_map f xs) y (subst (λ (z : X). Contains (f z) y) (sym e) inside)
    | inr c ↦ Contains-append_right (f a) (flat_map f xs) y (has_joined f xs x y c inside)
  ]

  pub joined_has : (f : X → List Y) (xs : List X) (y : Y) → Contains (flat_map f xs) y → (x : X) × Contains xs x × Contains (f x) y
  joined_has f [] y there = has_none y there
  joined_has f (a ∷ xs) y there = elim (Contains-append_cases (f a) (flat_map f xs) y there) [
    | inl c ↦ (a, has_here a xs, c)
    | inr c ↦ let rest = joined_has f xs y c in (rest.0, has_later a rest.0 xs rest.1, rest.2)
  ]

  -- a member of the second list has its partner in the first
  pub zip_has : (R : X → Y → Type 0) (xs : List X) (ys : List Y) (y : Y) → AllZip R xs ys → Contains ys y → (x : X) × Contains xs x × R x y
  zip_has R [] [] y zip there = has_none y there
  zip_has R [] (b ∷ ys) y zip there = absurd zip
  zip_has R (a ∷ xs) [] y zip there = absurd zip
  zip_has R (a ∷ xs) (b ∷ ys) y zip there = elim (has_cases b y ys there) [
    | inl e ↦ (a, has_here a xs, subst (λ (z : Y). R a z) e zip.0)
    | inr c ↦ let rest = zip_has R xs ys y zip.1 c in (rest.0, has_later a rest.0 xs rest.1, rest.2)
  ]

-- a number in a range from 1 on
pub in_range : (most n : ℕ) → 1 ≤ n → n ≤ most → Contains (range_with_len 1 most) n
in_range most n low high =
    let inside : n - 1 < most = omega arith in
    let sized = length-range_with_len 1 most in
    (n - 1, (let e : n - 1 < length (range_with_len 1 most) = omega (arith, inside, sized) in e), get_or-range_with_len 1 most (n - 1) n inside ∙ (let e : 1 + (n - 1) ≡ n = omega arith in e))
