-- Where layers of a list are found, as the list grows and shrinks at its end.
use Rattle.std.proofs.Common.{◌≡◌, ◌≢◌, ℕ, ◌+◌, ◌-◌, ◌<◌, ◌≤◌, Bool, true, false, cond, List, [], ◌∷◌, ◌++◌, length, get_or, take, Option, Some, None, is_some, refl, ap, ◌∙◌, sym, subst, arith, length-append, length-set, inl, inr, ◌⊎◌}
use Rattle.std.specs.List.{position, position_or_len, slice_set}
use Rattle.std.specs.Prelude.{nat_lt, ◌==◌, eqb}
use Rattle.std.proofs.lemmas.List.Folds.{position_or_len_push, position_or_len-set}
use Rattle.std.proofs.lemmas.List.Sums.{prefix_len-le-length}
use Rattle.std.proofs.lemmas.Grind.{common_steps}
use Rattle.std.proofs.lemmas.Bool.{eqb-true, eq-eqb, cases_lt}
use Rattle.std.specs.BTreeMap.{BTreeMap, get, is_at}
use Rattle.std.specs.Ordering.{nat_cmp}
use Rattle.std.proofs.Math.ListN.{get_or-append}
use Rattle.std.proofs.Math.Seq.{get_or-append_seam}
use Rattle.std.proofs.lemmas.List.{get_or-set_other, get_or-set_same, take_at}
use Rattle.std.proofs.lemmas.List.Quantifiers.{position-Some}
use Rattle.sf_base.specs.declared.ids.LayerId.{LayerId}
use Rattle.sf_layer.specs.declared.layer.Layer.{Layer}
use Rattle.sf_tree.specs.Index.{IsIndexed, IsNoted, StandsUpTo}
use Rattle.sf_tree.specs.Kept.{IsDistinct}
use Rattle.sf_tree.specs.Layers.{is_numbered, index_of}

at_end : (n l : ℕ) (b : Bool) → n ≤ l → cond (nat_lt (cond (n == l) (l + cond b 0 1) n) (l + 1)) (Some (cond (n == l) (l + cond b 0 1) n)) None ≡ cond (is_some (cond (nat_lt n l) (Some n) None)) (cond (nat_lt n l) (Some n) None) (cond b (Some l) None)
at_end n l true h = grind (arith, common_steps)
at_end n l false h = grind (arith, common_steps)

-- an item at the end is found where none before it passes
pub position_push : {X : Type 0} (p : X → Bool) (xs : List X) (y : X) → position p (xs ++ y ∷ []) ≡ cond (is_some (position p xs)) (position p xs) (cond (p y) (Some (length xs)) None)
position_push p xs y = rw (position_or_len_push p xs y, length-append xs (y ∷ [])) (at_end (position_or_len p xs) (length xs) (p y) (prefix_len-le-length _ xs))

-- numbers alone tell where a layer is found
pub index_of_same : (xs : List Layer) (a b : LayerId) → eqb a.0 b.0 ≡ true → index_of xs a ≡ index_of xs b
index_of_same xs a b e =
    let number : ℕ → LayerId = λ n. record { 0 = n } in ap (λ n. index_of xs (number n)) (eqb-true a.0 b.0 e)

or_none : (o : Option ℕ) → cond (is_some o) o None ≡ o
or_none None = refl
or_none (Some k) = refl

-- a layer of a new number at the end is found there, and the others where they were
pub index_of_push : (xs : List Layer) (y : Layer) → index_of xs y.number ≡ None → (id : LayerId) → index_of (xs ++ y ∷ []) id ≡ cond (eqb y.number.0 id.0) (Some (length xs)) (index_of xs id)
index_of_push xs y new id = rw position_push (by_number (y.number.0 == id.0) refl)
  where
    by_number : (b : Bool) → (y.number.0 == id.0) ≡ b → cond (is_some (index_of xs id)) (index_of xs id) (cond (y.number.0 == id.0) (Some (length xs)) None) ≡ cond (y.number.0 == id.0) (Some (length xs)) (index_of xs id)
    by_number true e = rw (e, sym (index_of_same xs y.number id e) ∙ new) refl
    by_number false e = rw e (or_none (index_of xs id))

some_inside : (n l k : ℕ) → cond (nat_lt n l) (Some n) None ≡ Some k → k < l
some_inside n l k h = grind (arith, common_steps)

pub index_of_inside : (xs : List Layer) (id : LayerId) (k : ℕ) → index_of xs id ≡ Some k → k < length xs
index_of_inside xs id k e = some_inside _ _ k e

pub is_at_number : (a b : ℕ) → is_at (nat_cmp a) b ≡ eqb a b
is_at_number a b = grind (arith, common_steps)

-- a list with a layer of a new number at its end
pub IsDistinct-push : (xs : List Layer) (y : Layer) → IsDistinct xs → index_of xs y.number ≡ None → IsDistinct (xs ++ y ∷ [])
IsDistinct-push xs y distinct new place d inside = by_place (cases_lt place (length xs))
  where
    old : (b : Bool) (id : LayerId) → eqb y.number.0 id.0 ≡ b → index_of xs id ≡ Some place → cond (eqb y.number.0 id.0) (Some (length xs)) (index_of xs id) ≡ Some place
    old true id e h = let clash : None ≡ Some place = sym (sym (index_of_same xs y.number id e) ∙ new) ∙ h in cc
    old false id e h = rw e h

    by_place : (place < length xs) ⊎ (length xs ≤ place) → index_of (xs ++ y ∷ []) (get_or (xs ++ y ∷ []) place d).number ≡ Some place
    by_place (inl before) = rw (get_or-append xs (y ∷ []) d place before, index_of_push xs y new (get_or xs place d).number) (old _ _ refl (distinct place d before))
    by_place (inr last) =
        let at : place ≡ length xs = omega (arith, length-append xs (y ∷ []), inside) in
        rw (at, get_or-append_seam xs y [] d, index_of_push xs y new y.number, eq-eqb y.number.0 y.number.0 refl) refl

-- what is noted of a layer that is found elsewhere in the same way
IsNoted-as : (xs ys : List Layer) (id : LayerId) (bound : Option ℕ) → index_of ys id ≡ index_of xs id → IsNoted xs id bound → IsNoted ys id bound
IsNoted-as xs ys id None same h = same ∙ h
IsNoted-as xs ys id (Some bound) same h = record { place = h.place; found = same ∙ h.found; up_to = h.up_to }

pub IsIndexed-push : (xs : List Layer) (y : Layer) (m n : BTreeMap ℕ ℕ) → IsIndexed xs m → index_of xs y.number ≡ None → ((q : ℕ) → get nat_cmp n q ≡ cond (is_at (nat_cmp y.number.0) q) (Some (length xs)) (get nat_cmp m q)) → IsIndexed (xs ++ y ∷ []) n
IsIndexed-push xs y m n old new put = record {
  noted = λ id. subst (IsNoted (xs ++ y ∷ []) id) (sym (put id.0)) (subst (λ (b : Bool). IsNoted (xs ++ y ∷ []) id (cond b (Some (length xs)) (get nat_cmp m id.0))) (sym (is_at_number y.number.0 id.0)) (by_number id (eqb y.number.0 id.0) refl));
  distinct = IsDistinct-push xs y old.distinct new;
}
  where
    by_number : (id : LayerId) (b : Bool) → eqb y.number.0 id.0 ≡ b → IsNoted (xs ++ y ∷ []) id (cond b (Some (length xs)) (get nat_cmp m id.0))
    by_number id true e = record { place = length xs; found = index_of_push xs y new id ∙ (rw e refl); up_to = omega arith }
    by_number id false e = IsNoted-as xs (xs ++ y ∷ []) id (get nat_cmp m id.0) (index_of_push xs y new id ∙ (rw e refl)) (old.noted id)

-- a list without the layer at its end
last_is_new : (xs : List Layer) (y : Layer) → IsDistinct (xs ++ y ∷ []) → index_of xs y.number ≡ None
last_is_new xs y distinct = by_place (index_of xs y.number) refl
  where
    last : index_of (xs ++ y ∷ []) y.number ≡ Some (length xs)
    last = rw (get_or-append_seam xs y [] y) at (distinct (length xs) y (omega (arith, length-append xs (y ∷ []))))

    by_place : (o : Option ℕ) → index_of xs y.number ≡ o → o ≡ None
    by_place None e = refl
    by_place (Some k) e =
        let inside : k < length xs = index_of_inside xs y.number k e in
        let same : Some k ≡ Some (length xs) = sym (rw e at (position_push (is_numbered y.number) xs y)) ∙ last in
        let equal : k ≡ length xs = cc in
        absurd (omega arith)

pub IsDistinct-pop : (xs : List Layer) (y : Layer) → IsDistinct (xs ++ y ∷ []) → IsDistinct xs
IsDistinct-pop xs y distinct place d inside = by_number (eqb y.number.0 (get_or xs place d).number.0) refl
  where
    was : cond (eqb y.number.0 (get_or xs place d).number.0) (Some (length xs)) (index_of xs (get_or xs place d).number) ≡ Some place
    was = rw (get_or-append xs (y ∷ []) d place inside, index_of_push xs y (last_is_new xs y distinct) (get_or xs place d).number) at (distinct place d (omega (arith, length-append xs (y ∷ []))))

    by_number : (b : Bool) → eqb y.number.0 (get_or xs place d).number.0 ≡ b → index_of xs (get_or xs place d).number ≡ Some place
    by_number true e = let same : Some (length xs) ≡ Some place = rw e at was in let equal : length xs ≡ place = cc in absurd (omega arith)
    by_number false e = rw e at was

pub IsIndexed-pop : (xs : List Layer) (y : Layer) (m n : BTreeMap ℕ ℕ) → IsIndexed (xs ++ y ∷ []) m → ((q : ℕ) → get nat_cmp n q ≡ cond (is_at (nat_cmp y.number.0) q) None (get nat_cmp m q)) → IsIndexed xs n
IsIndexed-pop xs y m n old gone = record {
  noted = λ id. subst (IsNoted xs id) (sym (gone id.0)) (subst (λ (b : Bool). IsNoted xs id (cond b None (get nat_cmp m id.0))) (sym (is_at_number y.number.0 id.0)) (by_number id (eqb y.number.0 id.0) refl));
  distinct = IsDistinct-pop xs y old.distinct;
}
  where
    new : index_of xs y.number ≡ None
    new = last_is_new xs y old.distinct

    by_number : (id : LayerId) (b : Bool) → eqb y.number.0 id.0 ≡ b → IsNoted xs id (cond b None (get nat_cmp m id.0))
    by_number id true e = sym (index_of_same xs y.number id e) ∙ new
    by_number id false e = IsNoted-as (xs ++ y ∷ []) xs id (get nat_cmp m id.0) (sym (index_of_push xs y new id ∙ (rw e refl))) (old.noted id)

-- an index of the same entries
pub IsIndexed-same : (xs : List Layer) (m n : BTreeMap ℕ ℕ) → IsIndexed xs m → n.entries ≡ m.entries → IsIndexed xs n
IsIndexed-same xs m n old same = record { noted = λ id. subst (IsNoted xs id) (get_same id.0) (old.noted id); distinct = old.distinct }
  where
    get_same : (q : ℕ) → get nat_cmp m q ≡ get nat_cmp n q
    get_same q = rw same refl

-- a layer that came to the end of the list and went, while the index stayed
pub IsIndexed-undone : (xs zs : List Layer) (y : Layer) (m n : BTreeMap ℕ ℕ) → IsIndexed xs m → zs ≡ take (length (xs ++ y ∷ []) - 1) (xs ++ y ∷ []) → n.entries ≡ m.entries → IsIndexed zs n
IsIndexed-undone xs zs y m n old taken same =
    let all : zs ≡ xs = taken ∙ take_at xs (y ∷ []) _ (omega (arith, length-append xs (y ∷ []))) in
    rw all (IsIndexed-same xs m n old same)

-- a layer's own place is noted
pub IsIndexed-noted : (xs : List Layer) (place : ℕ) (d : Layer) (m n : BTreeMap ℕ ℕ) → IsIndexed xs m → place < length xs → ((q : ℕ) → get nat_cmp n q ≡ cond (is_at (nat_cmp (get_or xs place d).number.0) q) (Some place) (get nat_cmp m q)) → IsIndexed xs n
IsIndexed-noted xs place d m n old inside put = record {
  noted = λ id. subst (IsNoted xs id) (sym (put id.0)) (subst (λ (b : Bool). IsNoted xs id (cond b (Some place) (get nat_cmp m id.0))) (sym (is_at_number number.0 id.0)) (by_number id (eqb number.0 id.0) refl));
  distinct = old.distinct;
}
  where
    number : LayerId
    number = (get_or xs place d).number

    by_number : (id : LayerId) (b : Bool) → eqb number.0 id.0 ≡ b → IsNoted xs id (cond b (Some place) (get nat_cmp m id.0))
    by_number id true e = record { place = place; found = sym (index_of_same xs number id e) ∙ old.distinct place d inside; up_to = omega arith }
    by_number id false e = old.noted id

-- another state of a layer is found where the layer was
index_of-state : (xs : List Layer) (place : ℕ) (y : Layer) → (get_or xs place y).number ≡ y.number → (id : LayerId) → index_of (slice_set xs place y) id ≡ index_of xs id
index_of-state xs place y number id =
    rw (position_or_len-set (is_numbered id) xs place y y (ap (λ (n : LayerId). eqb n.0 id.0) (sym number)), length-set xs place y) refl

pub IsDistinct-set : (xs : List Layer) (place : ℕ) (y : Layer) → (get_or xs place y).number ≡ y.number → IsDistinct xs → IsDistinct (slice_set xs place y)
IsDistinct-set xs place y number distinct k d h = by_place (eqb k place) refl
  where
    low : k < length xs
    low = rw (length-set xs place y) at h

    by_place : (b : Bool) → eqb k place ≡ b → index_of (slice_set xs place y) (get_or (slice_set xs place y) k d).number ≡ Some k
    by_place true e =
        let at : k ≡ place = eqb-true k place e in
        let inside : place < length xs = omega (arith, low) in
        let there : (get_or (slice_set xs place y) place d).number ≡ (get_or xs place y).number = ap (λ (l : Layer). l.number) (get_or-set_same xs place y d inside) ∙ sym number in
        let first : index_of (slice_set xs place y) (get_or (slice_set xs place y) place d).number ≡ Some place =
        ap (index_of (slice_set xs place y)) there ∙ (index_of-state xs place y number (get_or xs place y).number ∙ distinct place y inside) in
        subst (λ (j : ℕ). index_of (slice_set xs place y) (get_or (slice_set xs place y) j d).number ≡ Some j) (sym at) first
    by_place false e =
        let apart : k ≢ place = λ p. let clash : true ≡ false = sym (eq-eqb k place p) ∙ e in cc in
        rw (get_or-set_other xs place k y d apart) (index_of-state xs place y number (get_or xs k d).number ∙ distinct k d low)

pub IsIndexed-set : (xs : List Layer) (place : ℕ) (y : Layer) (m : BTreeMap ℕ ℕ) → IsIndexed xs m → (get_or xs place y).number ≡ y.number → IsIndexed (slice_set xs place y) m
IsIndexed-set xs place y m old number = record {
  noted = λ id. IsNoted-as xs (slice_set xs place y) id (get nat_cmp m id.0) (index_of-state xs place y number id) (old.noted id);
  distinct = IsDistinct-set xs place y number old.distinct;
}

-- a layer stands before a place where another one is
pub stands_before : (xs : List Layer) (id : LayerId) (p : ℕ) (d : Layer) → StandsUpTo xs id p → (get_or xs p d).number.0 ≢ id.0 → StandsUpTo xs id (p - 1)
stands_before xs id p d s other = record { place = s.place; found = s.found; up_to = omega (arith, s.up_to, apart) }
  where
    apart : s.place ≢ p
    apart e = other (eqb-true _ _ (subst (λ (k : ℕ). is_numbered id (get_or xs k d) ≡ true) e ((position-Some (is_numbered id) xs s.place d s.found).1)))

-- a layer is found where its number stands
pub stands_here : (xs : List Layer) (id : LayerId) (p : ℕ) (d : Layer) → IsDistinct xs → p < length xs → (get_or xs p d).number.0 ≡ id.0 → index_of xs id ≡ Some p
stands_here xs id p d distinct inside e = sym (index_of_same xs (get_or xs p d).number id (eq-eqb _ _ e)) ∙ distinct p d inside
