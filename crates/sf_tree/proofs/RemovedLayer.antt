-- A layer goes: what is left, and where it is found.
use Rattle.std.proofs.Common.{◌≡◌, ◌≢◌, ℕ, zero, suc, ◌+◌, ◌<◌, ◌≤◌, Bool, true, false, not, cond, List, [], ◌∷◌, ◌++◌, length, get_or, drop, map, take, Option, Some, None, refl, ap, ◌∙◌, sym, subst, arith}
use Rattle.std.specs.List.{filter, position_or_len, remove, slice_set}
use Rattle.std.specs.Prelude.{nat_lt, eqb}
use Rattle.std.proofs.lemmas.Bool.{eqb-true, eq-eqb}
use Rattle.std.proofs.lemmas.List.{get_or_default, length-map, take_at}
use Rattle.std.proofs.lemmas.List.Edits.{map_over_more}
use Rattle.std.proofs.lemmas.List.Quantifiers.{position-Some}
use Rattle.std.proofs.lemmas.Grind.{common_steps}
use Rattle.std.specs.BTreeMap.{BTreeMap, get, is_at}
use Rattle.std.specs.Ordering.{nat_cmp}
use Rattle.sf_base.specs.declared.ids.LayerId.{LayerId}
use Rattle.sf_layer.specs.declared.layer.Layer.{Layer}
use Rattle.sf_tree.specs.Changes.{without, without_steps_to}
use Rattle.sf_tree.specs.Index.{IsIndexed, IsNoted}
use Rattle.sf_tree.specs.Kept.{IsDistinct}
use Rattle.sf_tree.specs.Layers.{is_numbered, index_of}
use Rattle.sf_tree.proofs.TreeKept.{IsDistinct-without}
use Rattle.sf_tree.proofs.Lookups.{numbered_alone, none_is, some_is}
use Rattle.sf_tree.proofs.Places.{index_of_same, index_of_inside, is_at_number}

filter_all : {X : Type 0} (q : X → Bool) (xs : List X) → ((k : ℕ) (d : X) → k < length xs → q (get_or xs k d) ≡ true) → filter q xs ≡ xs
filter_all q [] h = refl
filter_all q (x ∷ xs) h = rw (h 0 x (omega arith)) (ap (λ ys. x ∷ ys) (filter_all q xs (λ k d i. h (suc k) d (omega arith))))

-- where a test refuses one alone, the others are left
filter_one : {X : Type 0} (q : X → Bool) (xs : List X) (p : ℕ) (e : X) → p < length xs → q (get_or xs p e) ≡ false → ((k : ℕ) (d : X) → k < length xs → k ≢ p → q (get_or xs k d) ≡ true) → filter q xs ≡ remove xs p
filter_one q [] p e h out others = absurd (omega arith)
filter_one q (x ∷ xs) zero e h out others = rw out (filter_all q xs (λ k d i. others (suc k) d (omega arith) (omega arith)))
filter_one q (x ∷ xs) (suc p) e h out others =
    rw (others 0 x (omega arith) (omega arith)) (ap (λ ys. x ∷ ys) (filter_one q xs p e (omega arith) out (λ k d i other. others (suc k) d (omega arith) (λ same. other (omega arith)))))

-- the layers that are left, by the place of the one that goes
pub without-place : (xs : List Layer) (id : LayerId) (p : ℕ) (d : Layer) → IsDistinct xs → index_of xs id ≡ Some p → map (without_steps_to id) (remove xs p) ≡ without id xs
without-place xs id p d distinct e =
    ap (map (without_steps_to id)) (sym (filter_one (λ layer. not (is_numbered id layer)) xs p d (index_of_inside xs id p e) (ap not ((position-Some (is_numbered id) xs p d e).1)) (λ k f inside other. ap not (numbered_alone xs id p k f distinct e inside other))))

-- of l layers, the first that passes a test is at a, and of m that are left at b: no later, and there is none where there was none
record StaysUpTo (a l b m : ℕ) : Type 0 where
  up_to : b ≤ a
  there : a < l → b < m
  absent : l ≤ a → m ≤ b

stays_up_to : (p q : Layer → Bool) (f : Layer → Layer) → ((x : Layer) → p x ≡ true → q x ≡ true) → ((x : Layer) → p (f x) ≡ p x) → (xs : List Layer) → StaysUpTo (position_or_len p xs) (length xs) (position_or_len p (map f (filter q xs))) (length (map f (filter q xs)))
stays_up_to p q f stays same [] = record { up_to = omega arith; there = λ h. omega arith; absent = λ h. omega arith }
stays_up_to p q f stays same (x ∷ xs) = by_tests (p x) (q x) refl refl (stays_up_to p q f stays same xs)
  where
    by_tests : (a b : Bool) → p x ≡ a → q x ≡ b → StaysUpTo (position_or_len p xs) (length xs) (position_or_len p (map f (filter q xs))) (length (map f (filter q xs))) → StaysUpTo (position_or_len p (x ∷ xs)) (length (x ∷ xs)) (position_or_len p (map f (filter q (x ∷ xs)))) (length (map f (filter q (x ∷ xs))))
    by_tests true true e h rest = rw (h, same x, e) (record { up_to = omega arith; there = λ i. omega arith; absent = λ i. omega arith })
    by_tests true false e h rest = let clash : true ≡ false = sym (stays x e) ∙ h in cc
    by_tests false true e h rest = rw (h, same x, e) (record { up_to = omega (arith, rest.up_to); there = λ i. omega (arith, rest.there (omega arith)); absent = λ i. omega (arith, rest.absent (omega arith)) })
    by_tests false false e h rest = rw (h, e) (record { up_to = omega (arith, rest.up_to); there = λ i. omega (arith, rest.there (omega arith)); absent = λ i. omega (arith, rest.absent (omega arith)) })

-- none is left that has the number
none_left : (id : LayerId) (xs : List Layer) → length (without id xs) ≤ position_or_len (is_numbered id) (without id xs)
none_left id [] = omega arith
none_left id (x ∷ xs) = by_test (is_numbered id x) refl (none_left id xs)
  where
    by_test : (b : Bool) → is_numbered id x ≡ b → length (without id xs) ≤ position_or_len (is_numbered id) (without id xs) → length (without id (x ∷ xs)) ≤ position_or_len (is_numbered id) (without id (x ∷ xs))
    by_test true e rest = rw e rest
    by_test false e rest = rw (e, e) (omega (arith, rest))

none_at : (n l : ℕ) → l ≤ n → cond (nat_lt n l) (Some n) None ≡ None
none_at n l h = grind (arith, common_steps)

some_at : (n l : ℕ) → n < l → cond (nat_lt n l) (Some n) None ≡ Some n
some_at n l h = grind (arith, common_steps)

-- what is noted of another layer holds still
IsNoted-without : (xs : List Layer) (id other : LayerId) (bound : Option ℕ) → eqb id.0 other.0 ≡ false → IsNoted xs other bound → IsNoted (without id xs) other bound
IsNoted-without xs id other bound apart = by_bound bound
  where
    stays : (layer : Layer) → is_numbered other layer ≡ true → not (is_numbered id layer) ≡ true
    stays layer e = by_test (is_numbered id layer) refl
      where
        by_test : (b : Bool) → is_numbered id layer ≡ b → not (is_numbered id layer) ≡ true
        by_test false h = ap not h
        by_test true h =
            let one : layer.number.0 ≡ id.0 = eqb-true layer.number.0 id.0 h in
            let two : layer.number.0 ≡ other.0 = eqb-true layer.number.0 other.0 e in
            let clash : true ≡ false = sym (eq-eqb id.0 other.0 (sym one ∙ two)) ∙ apart in cc

    left : StaysUpTo (position_or_len (is_numbered other) xs) (length xs) (position_or_len (is_numbered other) (without id xs)) (length (without id xs))
    left = stays_up_to (is_numbered other) (λ layer. not (is_numbered id layer)) (without_steps_to id) stays (λ layer. refl) xs

    by_bound : (bound : Option ℕ) → IsNoted xs other bound → IsNoted (without id xs) other bound
    by_bound None h = none_at _ _ (left.absent (none_is _ _ h))
    by_bound (Some bound) h =
        let at : position_or_len (is_numbered other) xs ≡ h.place = some_is _ _ _ h.found in
        let inside : h.place < length xs = index_of_inside xs other h.place h.found in
        record {
          place = position_or_len (is_numbered other) (without id xs);
          found = some_at _ _ (left.there (omega arith));
          up_to = omega (arith, left.up_to, h.up_to);
        }

-- the index without a layer that goes
pub IsIndexed-without : (xs : List Layer) (id : LayerId) (m n : BTreeMap ℕ ℕ) → IsIndexed xs m → ((q : ℕ) → get nat_cmp n q ≡ cond (is_at (nat_cmp id.0) q) None (get nat_cmp m q)) → IsIndexed (without id xs) n
IsIndexed-without xs id m n old gone = record {
  noted = λ other. subst (IsNoted (without id xs) other) (sym (gone other.0)) (subst (λ (b : Bool). IsNoted (without id xs) other (cond b None (get nat_cmp m other.0))) (sym (is_at_number id.0 other.0)) (by_number other (eqb id.0 other.0) refl));
  distinct = IsDistinct-without xs id old.distinct;
}
  where
    by_number : (other : LayerId) (b : Bool) → eqb id.0 other.0 ≡ b → IsNoted (without id xs) other (cond b None (get nat_cmp m other.0))
    by_number other true e = sym (index_of_same (without id xs) id other e) ∙ none_at _ _ (none_left id xs)
    by_number other false e = IsNoted-without xs id other (get nat_cmp m other.0) e (old.noted other)

-- the list as it is written back where a layer was taken out of it
pub removed-is : (xs ys zs ws : List Layer) (id : LayerId) (p n : ℕ) (d : Layer) → IsDistinct xs → index_of xs id ≡ Some p → zs ≡ remove xs p → n ≡ length zs → ws ≡ zs → ys ≡ map (without_steps_to id) ws → take n (ys ++ drop (length ys) zs) ≡ without id xs
removed-is xs ys zs ws id p n d distinct e cut size same made =
    let is : ys ≡ map (without_steps_to id) zs = made ∙ ap (map (without_steps_to id)) same in
    let long : length ys ≡ n = (ap length is ∙ length-map zs (without_steps_to id)) ∙ sym size in
    take_at ys (drop (length ys) zs) n long ∙ (is ∙ (ap (map (without_steps_to id)) cut ∙ without-place xs id p d distinct e))

-- one more layer has no step to the one that went
pub cleared_more : (id : LayerId) (xs ys : List Layer) (i : ℕ) (d next : Layer) → i < length xs → i < length ys → ys ≡ map (without_steps_to id) (take i xs) ++ drop i xs → next ≡ without_steps_to id (get_or ys i d) → slice_set ys i next ≡ map (without_steps_to id) (take (i + 1) xs) ++ drop (i + 1) xs
cleared_more id xs ys i d next inside within is made =
    rw made (map_over_more (without_steps_to id) xs ys i (get_or ys i d) inside is (get_or_default ys i d (get_or ys i d) within))
