-- How many calls of a caller are at a place of a history: one or none.
use Rattle.std.proofs.Common.{◌≡◌, ℕ, suc, ◌+◌, ◌<◌, ◌≤◌, ◌==◌, ◌⊎◌, Bool, true, false, List, [], ◌∷◌, ◌++◌, arith, ap, ◌∙◌, sym, refl, inl, inr, subst, length}
use Rattle.std.specs.Prelude.{◌&&◌}
use Rattle.std.proofs.lemmas.Bool.{and_parts, cases_Bool, cases_lt, eq-eqb, eqb-true, false≢true}
use Rattle.law_draws.specs.sf_calls.declared.object.Entry.{Entry}
use Rattle.law_draws.specs.sf_calls.Histories.{GoesOnWithout, calls_by}
use Rattle.law_threads.specs.Cuts.{front}
use Rattle.law_threads.proofs.Fronts.{front_of}
use Rattle.law_threads.specs.Members.{AllOnce, bit, count_of, mine}

module _ {C R : Type 0} where
  pub none_more : (by : ℕ) (more xs : List (Entry C R)) → length (calls_by by xs) ≤ length (calls_by by (more ++ xs))
  none_more by [] xs = omega arith
  none_more by (e ∷ more) xs = by_caller (none_more by more xs)
    where
      by_caller : length (calls_by by xs) ≤ length (calls_by by (more ++ xs)) → length (calls_by by xs) ≤ length (calls_by by (e ∷ more ++ xs))
      by_caller rest = elim (cases_Bool (e.by == by)) [
        | inl met ↦ rw met (omega (arith, rest))
        | inr unmet ↦ rw unmet rest
      ]

  -- where the caller has no further one, none more of it
  pub others_mine : (by place : ℕ) (more xs : List (Entry C R)) → length (calls_by by (more ++ xs)) ≤ length (calls_by by xs) → mine by place (more ++ xs) ≡ mine by place xs
  others_mine by place [] xs few = refl
  others_mine by place (e ∷ more) xs few = by_caller (others_mine by place more xs)
    where
      by_caller : (length (calls_by by (more ++ xs)) ≤ length (calls_by by xs) → mine by place (more ++ xs) ≡ mine by place xs) → mine by place (e ∷ more ++ xs) ≡ mine by place xs
      by_caller rest = elim (cases_Bool (e.by == by)) [
        | inl met ↦
            let few_here : suc (length (calls_by by (more ++ xs))) ≤ length (calls_by by xs) = rw met at few in
            let least = none_more by more xs in
            absurd (omega (arith, few_here, least))
        | inr unmet ↦
            let few_here : length (calls_by by (more ++ xs)) ≤ length (calls_by by xs) = rw unmet at few in
            let same = rest few_here in
            let nothing : bit ((length (more ++ xs) == place) && (e.by == by)) ≡ 0 = and_none (length (more ++ xs) == place) (e.by == by) unmet in
            omega (arith, same, nothing)
      ]
        where
          and_none : (a b : Bool) → b ≡ false → bit (a && b) ≡ 0
          and_none true b none = ap bit none
          and_none false b none = refl

  -- a history that goes on without the caller has none more of it
  pub mine_without : (by place : ℕ) (xs ys : List (Entry C R)) → GoesOnWithout by xs ys → mine by place ys ≡ mine by place xs
  mine_without by place xs ys goes =
      ap (mine by place) goes.begins.1
      ∙ others_mine by place goes.begins.0 xs (let same = ap (λ (es : List (Entry C R)). length (calls_by by es)) (sym goes.begins.1) in let all = ap (λ (es : List (Entry C R)). length es) goes.calls in omega (arith, same, all))

  -- a call of the caller itself
  pub mine_more : (by place : ℕ) (e : Entry C R) (earlier : List (Entry C R)) → e.by ≡ by → mine by place (e ∷ earlier) ≡ bit (length earlier == place) + mine by place earlier
  mine_more by place e earlier own = ap (λ (b : Bool). bit b + mine by place earlier) (own_and (length earlier == place))
    where
      own_and : (a : Bool) → (a && (e.by == by)) ≡ a
      own_and true = eq-eqb e.by by own
      own_and false = refl

  -- a call of another
  pub mine_other : (by place : ℕ) (e : Entry C R) (earlier : List (Entry C R)) → (e.by ≡ by → ⊥) → mine by place (e ∷ earlier) ≡ mine by place earlier
  mine_other by place e earlier apart = elim (cases_Bool (e.by == by)) [
    | inl met ↦ absurd (apart (eqb-true e.by by met))
    | inr unmet ↦ ap (λ (b : Bool). bit b + mine by place earlier) (and_false (length earlier == place) unmet) ∙ omega arith
  ]
    where
      and_false : (a : Bool) → (e.by == by) ≡ false → (a && (e.by == by)) ≡ false
      and_false true none = none
      and_false false none = refl

  pub mine_beyond : (by place : ℕ) (calls : List (Entry C R)) → length calls ≤ place → mine by place calls ≡ 0
  mine_beyond by place [] over = refl
  mine_beyond by place (e ∷ earlier) over =
      let rest = mine_beyond by place earlier (omega (arith, over)) in
      elim (cases_Bool (length earlier == place)) [
        | inl met ↦ let same = eqb-true (length earlier) place met in absurd (omega (arith, over, same))
        | inr unmet ↦ rw unmet (omega (arith, rest))
      ]

  -- where the call at a place is
  pub record IsAt (calls : List (Entry C R)) (place : ℕ) (e : Entry C R) (earlier : List (Entry C R)) : Type 0 where
    pub more : List (Entry C R)
    pub is : calls ≡ more ++ e ∷ earlier
    pub height : length earlier ≡ place

  pub mine_there : (by place : ℕ) (calls : List (Entry C R)) (e : Entry C R) (earlier : List (Entry C R)) → IsAt calls place e earlier → e.by ≡ by → 1 ≤ mine by place calls
  mine_there by place calls e earlier at own = subst (λ (cs : List (Entry C R)). 1 ≤ mine by place cs) (sym at.is) (behind at.more)
    where
      behind : (more : List (Entry C R)) → 1 ≤ mine by place (more ++ e ∷ earlier)
      behind [] =
          let one = mine_more by place e earlier own in
          let here : bit (length earlier == place) ≡ 1 = ap bit (eq-eqb (length earlier) place at.height) in
          omega (arith, one, here)
      behind (m ∷ more) = let rest = behind more in omega (arith, rest)

  -- a call of the caller that is counted
  pub data Found (by place : ℕ) (calls : List (Entry C R)) : Type 0 where
    Nothing : mine by place calls ≡ 0 → Found by place calls
    One : (e : Entry C R) (earlier : List (Entry C R)) → IsAt calls place e earlier → e.by ≡ by → Found by place calls

  pub find_mine : (by place : ℕ) (calls : List (Entry C R)) → Found by place calls
  find_mine by place [] = Nothing refl
  find_mine by place (e ∷ earlier) = by_here (cases_Bool ((length earlier == place) && (e.by == by))) (find_mine by place earlier)
    where
      by_here : (((length earlier == place) && (e.by == by)) ≡ true) ⊎ (((length earlier == place) && (e.by == by)) ≡ false) → Found by place earlier → Found by place (e ∷ earlier)
      by_here (inl met) rest =
          let parts = and_parts (length earlier == place) (e.by == by) met in
          One e earlier (record { more = []; is = refl; height = eqb-true (length earlier) place parts.0 }) (eqb-true e.by by parts.1)
      by_here (inr unmet) (Nothing none) = Nothing (let here : bit ((length earlier == place) && (e.by == by)) ≡ 0 = ap bit unmet in omega (arith, here, none))
      by_here (inr unmet) (One other before at own) = One other before (record { more = e ∷ at.more; is = ap (λ (es : List (Entry C R)). e ∷ es) at.is; height = at.height }) own

  -- the call at a place is one
  pub same_at_place : (calls : List (Entry C R)) (place : ℕ) (e other : Entry C R) (earlier before : List (Entry C R)) → IsAt calls place e earlier → IsAt calls place other before → (e ≡ other) × (earlier ≡ before)
  same_at_place calls place e other earlier before one two = (heads same, tails same)
    where
      of : (x : Entry C R) (xs : List (Entry C R)) → IsAt calls place x xs → front (suc place) calls ≡ x ∷ xs
      of x xs at =
          let height = at.height in
          let long : suc place ≡ length (x ∷ xs) = omega (arith, height) in
          ap (λ (n : ℕ). front n calls) long ∙ ap (front (length (x ∷ xs))) at.is ∙ front_of at.more (x ∷ xs)

      same : e ∷ earlier ≡ other ∷ before
      same = sym (of e earlier one) ∙ of other before two

      heads : e ∷ earlier ≡ other ∷ before → e ≡ other
      heads equal = cc

      tails : e ∷ earlier ≡ other ∷ before → earlier ≡ before
      tails equal = cc

  -- how many of the calls of these callers are at a place
  abbrev pub all_mine : List ℕ → ℕ → List (Entry C R) → ℕ
  all_mine [] place calls = 0
  all_mine (by ∷ bys) place calls = mine by place calls + all_mine bys place calls

  all_more : (bys : List ℕ) (place : ℕ) (e : Entry C R) (earlier : List (Entry C R)) → length earlier ≡ place → all_mine bys place (e ∷ earlier) ≡ count_of e.by bys + all_mine bys place earlier
  all_more [] place e earlier here = omega arith
  all_more (by ∷ bys) place e earlier here =
      let rest = all_more bys place e earlier here in
      let one : bit ((length earlier == place) && (e.by == by)) ≡ bit (e.by == by) = ap (λ (b : Bool). bit (b && (e.by == by))) (eq-eqb (length earlier) place here) in
      omega (arith, rest, one)

  all_less : (bys : List ℕ) (place : ℕ) (e : Entry C R) (earlier : List (Entry C R)) → (length earlier == place) ≡ false → all_mine bys place (e ∷ earlier) ≡ all_mine bys place earlier
  all_less [] place e earlier apart = refl
  all_less (by ∷ bys) place e earlier apart =
      let rest = all_less bys place e earlier apart in
      let none : bit ((length earlier == place) && (e.by == by)) ≡ 0 = ap (λ (b : Bool). bit (b && (e.by == by))) apart in
      omega (arith, rest, none)

  all_beyond : (bys : List ℕ) (place : ℕ) (calls : List (Entry C R)) → length calls ≤ place → all_mine bys place calls ≡ 0
  all_beyond [] place calls over = refl
  all_beyond (by ∷ bys) place calls over =
      let rest = all_beyond bys place calls over in
      let none = mine_beyond by place calls over in
      omega (arith, rest, none)

  pub all_none : (bys : List ℕ) (place : ℕ) (calls : List (Entry C R)) → length calls ≤ place → all_mine bys place calls ≡ 0
  all_none bys place calls over = all_beyond bys place calls over

  -- each call is one of one of them
  pub all_one : (bys : List ℕ) (place : ℕ) (calls : List (Entry C R)) → AllOnce bys calls → place < length calls → all_mine bys place calls ≡ 1
  all_one bys place [] each low = absurd (omega (arith, low))
  all_one bys place (e ∷ earlier) each low = elim (cases_Bool (length earlier == place)) [
    | inl met ↦
        let here = eqb-true (length earlier) place met in
        let more = all_more bys place e earlier here in
        let none = all_beyond bys place earlier (omega (arith, here)) in
        let once = each.0 in
        omega (arith, more, none, once)
    | inr unmet ↦
        let apart : length earlier ≡ place → ⊥ = λ same. false≢true (sym unmet ∙ eq-eqb (length earlier) place same) in
        all_less bys place e earlier unmet ∙ all_one bys place earlier each.1 (below apart)
  ]
    where
      below : (length earlier ≡ place → ⊥) → place < length earlier
      below apart = elim (cases_lt place (length earlier)) [
        | inl less ↦ less
        | inr over ↦ absurd (apart (omega (arith, low, over)))
      ]
