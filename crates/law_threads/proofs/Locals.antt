-- What one caller changes of what all callers hold.
use Rattle.std.proofs.Common.{◌≡◌, ℕ, ◌+◌, ◌⊎◌, List, [], ◌∷◌, ◌++◌, arith, ap, ◌∙◌, sym, refl, inl, inr, subst, length, Some}
use Rattle.std.specs.Prelude.{Contains, slice_get, slice_set}
use Rattle.std.specs.List.{flat_map, sum_by}
use Rattle.std.proofs.lemmas.List.Concat.{flat_map-append}
use Rattle.std.proofs.lemmas.List.Elements.{Contains-append_cases, Contains-append_left, Contains-append_right}
use Rattle.std.proofs.lemmas.List.Sums.{sum_by-append}
use Rattle.law_draws.specs.law_rights.Moves.{AreIn, Gets}

module _ {X A : Type 0} (f : X → List A) (others later : List X) where
  -- what is read off all, at one of them
  pub parted : (x : X) → flat_map f (others ++ x ∷ later) ≡ flat_map f others ++ (f x ++ flat_map f later)
  parted x = flat_map-append f others (x ∷ later)

  pub same_at : (x y : X) → f y ≡ f x → flat_map f (others ++ y ∷ later) ≡ flat_map f (others ++ x ∷ later)
  same_at x y same = parted y ∙ ap (λ (items : List A). flat_map f others ++ (items ++ flat_map f later)) same ∙ sym (parted x)

  pub sum_at : (w : A → ℕ) (x : X) → sum_by w (flat_map f (others ++ x ∷ later)) ≡ sum_by w (flat_map f others) + (sum_by w (f x) + sum_by w (flat_map f later))
  sum_at w x =
      let a = ap (sum_by w) (parted x) in
      let b = sum_by-append w (flat_map f others) (f x ++ flat_map f later) in
      let c = sum_by-append w (f x) (flat_map f later) in
      omega (arith, a, b, c)

  -- it is in one of them, or in the others
  cases_at : (x : X) (a : A) → Contains (flat_map f (others ++ x ∷ later)) a → Contains (f x) a ⊎ ((y : X) → Contains (flat_map f (others ++ y ∷ later)) a)
  cases_at x a there = by_place (Contains-append_cases (flat_map f others) (f x ++ flat_map f later) a (subst (λ (items : List A). Contains items a) (parted x) there))
    where
      by_place : Contains (flat_map f others) a ⊎ Contains (f x ++ flat_map f later) a → Contains (f x) a ⊎ ((y : X) → Contains (flat_map f (others ++ y ∷ later)) a)
      by_place (inl before) = inr (λ y. subst (λ (items : List A). Contains items a) (sym (parted y)) (Contains-append_left (flat_map f others) (f y ++ flat_map f later) a before))
      by_place (inr rest) = elim (Contains-append_cases (f x) (flat_map f later) a rest) [
        | inl here ↦ inl here
        | inr behind ↦ inr (λ y. subst (λ (items : List A). Contains items a) (sym (parted y))
            (Contains-append_right (flat_map f others) (f y ++ flat_map f later) a (Contains-append_right (f y) (flat_map f later) a behind)))
      ]

  pub here_at : (x : X) (a : A) → Contains (f x) a → Contains (flat_map f (others ++ x ∷ later)) a
  here_at x a there = subst (λ (items : List A). Contains items a) (sym (parted x))
      (Contains-append_right (flat_map f others) (f x ++ flat_map f later) a (Contains-append_left (f x) (flat_map f later) a there))

  pub in_at : (x y : X) → AreIn (f y) (f x) → AreIn (flat_map f (others ++ y ∷ later)) (flat_map f (others ++ x ∷ later))
  in_at x y are a there = elim (cases_at y a there) [
    | inl here ↦ here_at x a (are a here)
    | inr elsewhere ↦ elsewhere x
  ]

  pub in_more_at : (x y : X) (more : List A) → AreIn (f y) (more ++ f x) → AreIn (flat_map f (others ++ y ∷ later)) (more ++ flat_map f (others ++ x ∷ later))
  in_more_at x y more are a there = elim (cases_at y a there) [
    | inl here ↦ elim (Contains-append_cases more (f x) a (are a here)) [
      | inl among ↦ Contains-append_left more (flat_map f (others ++ x ∷ later)) a among
      | inr was ↦ Contains-append_right more (flat_map f (others ++ x ∷ later)) a (here_at x a was)
    ]
    | inr elsewhere ↦ Contains-append_right more (flat_map f (others ++ x ∷ later)) a (elsewhere x)
  ]

  pub gets_at : (x y : X) (more : List A) → Gets (f x) more (f y) → Gets (flat_map f (others ++ x ∷ later)) more (flat_map f (others ++ y ∷ later))
  gets_at x y more gets = record {
    no_others = in_more_at x y more gets.no_others;
    all = all;
  }
    where
      all : AreIn (more ++ flat_map f (others ++ x ∷ later)) (flat_map f (others ++ y ∷ later))
      all a there = elim (Contains-append_cases more (flat_map f (others ++ x ∷ later)) a there) [
        | inl among ↦ here_at y a (gets.all a (Contains-append_left more (f x) a among))
        | inr was ↦ elim (cases_at x a was) [
          | inl here ↦ here_at y a (gets.all a (Contains-append_right more (f x) a here))
          | inr elsewhere ↦ elsewhere y
        ]
      ]

module _ {A : Type 0} where
  -- two lists that got the same have the same
  pub gets_in : (xs more ys zs : List A) → Gets xs more ys → Gets xs more zs → AreIn ys zs
  gets_in xs more ys zs one other a there = other.all a (one.no_others a there)

  pub got_at : (xs ys : List A) (x : A) → slice_get (xs ++ x ∷ ys) (length xs) ≡ Some x
  got_at [] ys x = refl
  got_at (y ∷ xs) ys x = got_at xs ys x

  pub set_at : (xs ys : List A) (x y : A) → slice_set (xs ++ x ∷ ys) (length xs) y ≡ xs ++ y ∷ ys
  set_at [] ys x y = refl
  set_at (z ∷ xs) ys x y = ap (λ (items : List A). z ∷ items) (set_at xs ys x y)
