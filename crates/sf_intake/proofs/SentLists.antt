-- What each sender sent, in a list of what was sent.
use Rattle.std.proofs.Common.{◌≡◌, ◌≢◌, ℕ, zero, suc, ◌*◌, ◌≤◌, ◌⊎◌, Bool, true, false, not, cond, eqb, eq-eqb, ne_eqb, List, [], ◌∷◌, ◌++◌, length, sym, refl, ap, ◌∙◌, subst, inl, inr, ⊎_elim, append_assoc, append-nil, arith, le_refl, le_trans}
use Rattle.std.specs.List.{All, Contains, filter}
use Rattle.std.proofs.lemmas.List.Elements.{All-nil, All-cons, All-head, All-tail, filter-append}
use Rattle.std.proofs.lemmas.List.Filters.{length-filter_both}
use mathlib.Core.Option.{some, some-injective, some-ne-none}
use mathlib.Core.Logic.{dite}
use native.Mathlib.Decide.{ℕ_discrete}
use lib.ListN.{get_elem?, length-append}
use Rattle.sf_intake.specs.Posts.{Post, Begins, is_by, posts_by}

module _ {A : Type 0} where
  pub begins_refl : (xs : List A) → Begins xs xs
  begins_refl xs = ([], sym (append-nil xs))

  pub begins_more : (xs ys zs : List A) → Begins xs ys → Begins xs (ys ++ zs)
  begins_more xs ys zs b = (b.0 ++ zs, ap (λ (l : List A). l ++ zs) b.1 ∙ append_assoc xs b.0 zs)

  pub begins_nil : (ys : List A) → Begins [] ys
  begins_nil ys = (ys, refl)

  nothing_more : (xs more : List A) → length (xs ++ more) ≤ length xs → more ≡ []
  nothing_more xs [] le = refl
  nothing_more xs (y ∷ more) le = absurd (omega (arith, length-append xs (y ∷ more)))

  -- two lists that begin each other are one
  pub begins_both : (xs ys : List A) → Begins xs ys → Begins ys xs → xs ≡ ys
  begins_both xs ys b c =
      let e : length ys ≡ length (xs ++ b.0) = ap length b.1 in
      let f : length xs ≡ length (ys ++ c.0) = ap length c.1 in
      let none : b.0 ≡ [] = nothing_more xs b.0 (omega (arith, length-append ys c.0)) in
      sym (b.1 ∙ (ap (λ (l : List A). xs ++ l) none ∙ append-nil xs))

  pub snoc_cases : (l : List A) (a b : A) (j : ℕ) → get_elem? (l ++ a ∷ []) j ≡ some b → (get_elem? l j ≡ some b) ⊎ ((j ≡ length l) × (a ≡ b))
  snoc_cases [] a b zero e = inr (refl, some-injective a b e)
  snoc_cases [] a b (suc j) e = absurd (some-ne-none b (sym e))
  snoc_cases (x ∷ xs) a b zero e = inl e
  snoc_cases (x ∷ xs) a b (suc j) e = ⊎_elim inl (λ (h : (j ≡ length xs) × (a ≡ b)). inr (ap suc h.0, h.1)) (snoc_cases xs a b j e)

contains_tail : (b : ℕ) (bs : List ℕ) (n : ℕ) → n ≢ b → Contains (b ∷ bs) n → Contains bs n
contains_tail b bs n ne (zero, lt, e) = absurd (ne (sym e))
contains_tail b bs n ne (suc k, lt, e) = (k, omega arith, e)

module _ {L : Type 0} where
  pub posts_by-snoc : (b : ℕ) (xs : List (Post L)) (x : Post L) → posts_by b (xs ++ x ∷ []) ≡ posts_by b xs ++ cond (eqb x.actor.0 b) (x ∷ []) []
  posts_by-snoc b xs x = filter-append (is_by b) xs (x ∷ [])

  pub posts_by-own : (b : ℕ) (xs : List (Post L)) (x : Post L) → x.actor.0 ≡ b → posts_by b (xs ++ x ∷ []) ≡ posts_by b xs ++ x ∷ []
  posts_by-own b xs x e = posts_by-snoc b xs x ∙ ap (λ (t : Bool). posts_by b xs ++ cond t (x ∷ []) []) (eq-eqb x.actor.0 b e)

  pub posts_by-other : (b : ℕ) (xs : List (Post L)) (x : Post L) → x.actor.0 ≢ b → posts_by b (xs ++ x ∷ []) ≡ posts_by b xs
  posts_by-other b xs x ne = posts_by-snoc b xs x ∙ (ap (λ (t : Bool). posts_by b xs ++ cond t (x ∷ []) []) (ne_eqb x.actor.0 b ne) ∙ append-nil (posts_by b xs))

  pub posts_by-append : (b : ℕ) (xs ys : List (Post L)) → posts_by b (xs ++ ys) ≡ posts_by b xs ++ posts_by b ys
  posts_by-append b xs ys = filter-append (is_by b) xs ys

  -- a number of which nothing is has no posts
  pub posts_by-none : (b : ℕ) (made : List ℕ) (xs : List (Post L)) → All (λ (x : Post L). Contains made x.actor.0) xs → (Contains made b → ⊥) → posts_by b xs ≡ []
  posts_by-none b made [] all fresh = refl
  posts_by-none b made (x ∷ xs) all fresh =
      let mine : Contains made x.actor.0 = All-head (λ (y : Post L). Contains made y.actor.0) x xs all in
      let ne : x.actor.0 ≢ b = λ e. fresh (subst (Contains made) e mine) in
      ap (λ (t : Bool). cond t (x ∷ posts_by b xs) (posts_by b xs)) (ne_eqb x.actor.0 b ne)
      ∙ posts_by-none b made xs (All-tail (λ (y : Post L). Contains made y.actor.0) x xs all) fresh

  abbrev not_by : ℕ → Post L → Bool
  not_by b x = not (eqb x.actor.0 b)

  abbrev rest_of : ℕ → List (Post L) → List (Post L)
  rest_of b xs = filter (not_by b) xs

  rest_theirs : (b : ℕ) (bs : List ℕ) (xs : List (Post L)) → All (λ (x : Post L). Contains (b ∷ bs) x.actor.0) xs → All (λ (x : Post L). Contains bs x.actor.0) (rest_of b xs)
  rest_theirs b bs [] all = All-nil (λ (x : Post L). Contains bs x.actor.0)
  rest_theirs b bs (x ∷ xs) all =
      let P : Post L → Type 0 = λ y. Contains (b ∷ bs) y.actor.0 in
      let Q : Post L → Type 0 = λ y. Contains bs y.actor.0 in
      let rest : List (Post L) = rest_of b xs in
      let ih : All Q rest = rest_theirs b bs xs (All-tail P x xs all) in
      dite (ℕ_discrete x.actor.0 b)
      (λ e. subst (λ (t : Bool). All Q (cond (not t) (x ∷ rest) rest)) (sym (eq-eqb x.actor.0 b e)) ih)
      (λ ne. subst (λ (t : Bool). All Q (cond (not t) (x ∷ rest) rest)) (sym (ne_eqb x.actor.0 b ne)) (All-cons Q x rest (contains_tail b bs x.actor.0 ne (All-head P x xs all)) ih))

  cond_le : (t : Bool) (x : Post L) (p : List (Post L)) → length p ≤ length (cond t (x ∷ p) p)
  cond_le true x p = omega arith
  cond_le false x p = le_refl _

  cond_mono : (t : Bool) (x : Post L) (p q : List (Post L)) → length p ≤ length q → length (cond t (x ∷ p) p) ≤ length (cond t (x ∷ q) q)
  cond_mono true x p q le = omega arith
  cond_mono false x p q le = le

  rest_fewer : (b c : ℕ) (xs : List (Post L)) → length (posts_by c (rest_of b xs)) ≤ length (posts_by c xs)
  rest_fewer b c [] = le_refl _
  rest_fewer b c (x ∷ xs) =
      let rest : List (Post L) = rest_of b xs in
      let ih : length (posts_by c rest) ≤ length (posts_by c xs) = rest_fewer b c xs in
      dite (ℕ_discrete x.actor.0 b)
      (λ e. subst (λ (t : Bool). length (posts_by c (cond (not t) (x ∷ rest) rest)) ≤ length (posts_by c (x ∷ xs))) (sym (eq-eqb x.actor.0 b e))
      (le_trans ih (cond_le (eqb x.actor.0 c) x (posts_by c xs))))
      (λ ne. subst (λ (t : Bool). length (posts_by c (cond (not t) (x ∷ rest) rest)) ≤ length (posts_by c (x ∷ xs))) (sym (ne_eqb x.actor.0 b ne))
      (cond_mono (eqb x.actor.0 c) x (posts_by c rest) (posts_by c xs) ih))

  -- what senders of these numbers sent, each no more than it may, is no more than they may together
  pub bounded : (made : List ℕ) (xs : List (Post L)) → All (λ (x : Post L). Contains made x.actor.0) xs → ((b : ℕ) → length (posts_by b xs) ≤ 16777216) → length xs ≤ 16777216 * length made
  bounded [] [] all few = omega arith
  bounded [] (x ∷ xs) all few = let h : Contains [] x.actor.0 = All-head (λ (y : Post L). Contains [] y.actor.0) x xs all in absurd (omega (arith, h.1))
  bounded (b ∷ bs) xs all few =
      let both = length-filter_both (is_by b) (not_by b) (λ _. refl) xs in
      let one = few b in
      let more : length (rest_of b xs) ≤ 16777216 * length bs = bounded bs (rest_of b xs) (rest_theirs b bs xs all) (λ c. le_trans (rest_fewer b c xs) (few c)) in
      omega (arith, both, one, more)
