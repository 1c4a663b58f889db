-- The places of buffers by the numbers of their layers, found from the last buffer to the first.
use Rattle.std.proofs.Common.{◌≡◌, ℕ, zero, suc, ◌+◌, ◌<◌, ◌≤◌, Bool, true, false, cond, List, [], ◌∷◌, length, get_or, drop, Option, Some, None, refl, ap, ◌∙◌, sym, subst, arith}
use Rattle.std.specs.List.{position, position_or_len}
use Rattle.std.specs.Prelude.{nat_lt, eqb}
use Rattle.std.specs.Ordering.{nat_cmp}
use Rattle.std.specs.BTreeMap.{BTreeMap, get, is_at}
use Rattle.std.proofs.Math.Seq.{drop-cons}
use Rattle.std.proofs.lemmas.List.{drop_all}
use Rattle.std.proofs.lemmas.Grind.{common_steps}
use Rattle.sf_base.specs.declared.ids.LayerId.{LayerId}
use Rattle.sf_commit.specs.OnLayers.{OnLayer, is_on}

is_at_number : (a b : ℕ) → is_at (nat_cmp a) b ≡ eqb a b
is_at_number a b = grind (arith, common_steps)

here : (at l : ℕ) → Some at ≡ cond (nat_lt 0 (suc l)) (Some (at + 0)) None
here at l = grind (arith, common_steps)

later : (at n l : ℕ) → cond (nat_lt n l) (Some (at + 1 + n)) None ≡ cond (nat_lt (1 + n) (suc l)) (Some (at + (1 + n))) None
later at n l = grind (arith, common_steps)

from_none : (n l : ℕ) → cond (nat_lt n l) (Some (0 + n)) None ≡ cond (nat_lt n l) (Some n) None
from_none n l = grind (arith, common_steps)

module _ {L : Type 0} where
  -- the place of the first buffer of a layer, where the first of all has this place
  abbrev pub place_from : ℕ → LayerId → List (OnLayer L) → Option ℕ
  place_from at id [] = None
  place_from at id (x ∷ xs) = cond (is_on id x) (Some at) (place_from (at + 1) id xs)

  place_from-is : (at : ℕ) (id : LayerId) (xs : List (OnLayer L))
      → place_from at id xs ≡ cond (nat_lt (position_or_len (is_on id) xs) (length xs)) (Some (at + position_or_len (is_on id) xs)) None
  place_from-is at id [] = refl
  place_from-is at id (x ∷ xs) = by_test (place_from-is (at + 1) id xs) (is_on id x) refl
    where
      by_test : place_from (at + 1) id xs ≡ cond (nat_lt (position_or_len (is_on id) xs) (length xs)) (Some (at + 1 + position_or_len (is_on id) xs)) None
          → (b : Bool) → is_on id x ≡ b → place_from at id (x ∷ xs)
          ≡ cond (nat_lt (position_or_len (is_on id) (x ∷ xs)) (length (x ∷ xs))) (Some (at + position_or_len (is_on id) (x ∷ xs))) None
      by_test rest true e = rw e (here at (length xs))
      by_test rest false e = rw e (rest ∙ later at (position_or_len (is_on id) xs) (length xs))

  -- a map has the place of each buffer from this place on
  abbrev pub HasPlaces : ℕ → List (OnLayer L) → BTreeMap ℕ ℕ → Type 0
  HasPlaces at on places = (number : ℕ) → get nat_cmp places number ≡ place_from at (record { 0 = number }) (drop at on)

  pub places_more : (on : List (OnLayer L)) (i j : ℕ) (d : OnLayer L) (number : ℕ) (m n : BTreeMap ℕ ℕ) → j ≡ suc i → i < length on → HasPlaces j on m
      → number ≡ (get_or on i d).layer.0 → ((q : ℕ) → get nat_cmp n q ≡ cond (is_at (nat_cmp number) q) (Some i) (get nat_cmp m q)) → HasPlaces i on n
  places_more on i j d number m n next inside old same put = λ q.
      let id : LayerId = record { 0 = q } in
      let after : get nat_cmp m q ≡ place_from (i + 1) id (drop (suc i) on) =
      subst (λ (k : ℕ). get nat_cmp m q ≡ place_from k id (drop (suc i) on)) (let e : suc i ≡ i + 1 = omega arith in e)
      (subst (λ (k : ℕ). get nat_cmp m q ≡ place_from k id (drop k on)) next (old q)) in
      put q
      ∙ ((λ k. cond (is_at_number (same k) q k) (Some i) (after k))
      ∙ ap (place_from i id) (sym (drop-cons on i d inside)))

  pub places_none : (on : List (OnLayer L)) (m : BTreeMap ℕ ℕ) → m.entries ≡ [] → HasPlaces (length on) on m
  places_none on m empty = λ q. rw (empty, drop_all (length on) on (omega arith)) refl

  pub places_all : (on : List (OnLayer L)) (i : ℕ) (m : BTreeMap ℕ ℕ) → i ≤ 0 → HasPlaces i on m
      → (number : ℕ) → get nat_cmp m number ≡ position (is_on (record { 0 = number })) on
  places_all on zero m h found = λ q. found q ∙ (place_from-is 0 (record { 0 = q }) on ∙ from_none (position_or_len (is_on (record { 0 = q })) on) (length on))
  places_all on (suc i) m h found = absurd (omega arith)
