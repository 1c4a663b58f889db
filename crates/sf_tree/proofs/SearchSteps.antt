-- The two steps from a layer that a search has reached.
use Rattle.std.proofs.Common.{◌≡◌, ℕ, zero, suc, ◌+◌, ◌<◌, ◌≤◌, Bool, true, false, List, [], ◌∷◌, ◌++◌, length, get_or, Option, Some, None, refl, ap, ◌∙◌, sym, subst, arith, inl, inr, ◌⊎◌, append-nil, append_assoc, add-one}
use Rattle.std.specs.List.{AllByRecursion, Contains, list_any, slice_get}
use Rattle.std.specs.Prelude.{◌==◌, ◌||◌, IfSome, IsSomeAnd, option_to_list}
use Rattle.std.proofs.lemmas.Bool.{eq-eqb, cases_lt}
use Rattle.std.proofs.Math.ListN.{get_or-append}
use Rattle.std.proofs.lemmas.List.Elements.{Contains-append_left}
use Rattle.sf_base.specs.declared.ids.LayerId.{LayerId}
use Rattle.sf_layer.specs.declared.layer.Layer.{Layer}
use Rattle.sf_tree.specs.declared.cycles.Along.{Along}
use Rattle.sf_tree.specs.declared.cycles.Along.TheVariants as along
use Rattle.sf_tree.specs.Layers.{layer_of, index_of}
use Rattle.sf_tree.specs.Steps.{steps_of, reaches, to_parent}
use Rattle.sf_tree.specs.inner.Search.{Grows, IsExplored, IsFollowed, IsReached, IsSearch, relative_along, steps_along}
use Rattle.sf_tree.proofs.Lookups.{layer_of-place}
use Rattle.sf_tree.proofs.SearchKnowledge.{mark_count-le}
use Rattle.sf_tree.proofs.LayerPaths.{reaches-step, reaches-more}

steps_along-two : (a : Along) (layer : Layer) → steps_along a layer ≡ to_parent layer.parent ++ option_to_list (relative_along a layer)
steps_along-two along.Parents layer = sym (append-nil (to_parent layer.parent))
steps_along-two along.All layer = refl

-- the steps from a layer are these two, where there are any
pub record HasSteps (a : Along) (tree : List Layer) (from : LayerId) (one two : Option LayerId) : Type 0 where
  pub are : steps_of (steps_along a) (layer_of tree from) ≡ option_to_list one ++ option_to_list two

pub HasSteps-place : (a : Along) (tree : List Layer) (from : LayerId) (place : ℕ) (layer : Layer) (one two : Option LayerId) → Some place ≡ index_of tree from → slice_get tree place ≡ Some layer → option_to_list one ≡ to_parent layer.parent → two ≡ relative_along a layer → HasSteps a tree from one two
HasSteps-place a tree from place layer one two e at p r = record {
  are = rw (layer_of-place tree from place (sym e), at, p, r) (steps_along-two a layer);
}

in_first : (id : LayerId) (ys : List LayerId) → list_any (λ s. s.0 == id.0) (option_to_list (Some id) ++ ys) ≡ true
in_first id ys = rw (eq-eqb id.0 id.0 refl) refl

in_second : (xs : List LayerId) (id : LayerId) → list_any (λ s. s.0 == id.0) (xs ++ option_to_list (Some id)) ≡ true
in_second [] id = rw (eq-eqb id.0 id.0 refl) refl
in_second (x ∷ xs) id = to_right (x.0 == id.0) _ (in_second xs id)
  where
    to_right : (p q : Bool) → q ≡ true → (p || q) ≡ true
    to_right true q e = refl
    to_right false q e = e

way : (a : Along) (tree : List Layer) (first : LayerId) (found : List LayerId) (marks : List Bool) (index : ℕ) (d id : LayerId) → IsSearch (steps_along a) tree first found marks → index < length found → list_any (λ s. s.0 == id.0) (steps_of (steps_along a) (layer_of tree (get_or found index d))) ≡ true → reaches (steps_along a) tree (index + 1) first id ≡ true
way a tree first found marks index d id s inside step = by_reached (s.reached index d inside)
  where
    at : ℕ → LayerId
    at n = record { 0 = n }

    by_reached : IsReached (steps_along a) tree first index (get_or found index d) → reaches (steps_along a) tree (index + 1) first id ≡ true
    by_reached (inl here) = rw here.0 (reaches-step (steps_along a) tree 0 first id (subst (λ (n : ℕ). list_any (λ s. s.0 == id.0) (steps_of (steps_along a) (layer_of tree (record { 0 = n }))) ≡ true) here.1 step))
    by_reached (inr there) = rw add-one (reaches-more (steps_along a) tree index first (get_or found index d) id there step)

-- both steps lead on from the first layer
pub first_way : (a : Along) (tree : List Layer) (first : LayerId) (found : List LayerId) (marks : List Bool) (index : ℕ) (d : LayerId) (one two : Option LayerId) → IsSearch (steps_along a) tree first found marks → index < length found → HasSteps a tree (get_or found index d) one two → IfSome one (λ id. reaches (steps_along a) tree (index + 1) first id ≡ true)
first_way a tree first found marks index d None two s inside h = tt
first_way a tree first found marks index d (Some id) two s inside h = way a tree first found marks index d id s inside (rw h.are (in_first id (option_to_list two)))

pub second_way : (a : Along) (tree : List Layer) (first : LayerId) (found : List LayerId) (marks : List Bool) (index : ℕ) (d : LayerId) (one two : Option LayerId) → IsSearch (steps_along a) tree first found marks → index < length found → HasSteps a tree (get_or found index d) one two → IfSome two (λ id. reaches (steps_along a) tree (index + 1) first id ≡ true)
second_way a tree first found marks index d one None s inside h = tt
second_way a tree first found marks index d one (Some id) s inside h = way a tree first found marks index d id s inside (rw h.are (in_second (option_to_list one) id))

-- a way to the first layer's number is a way back
pub way_back : (a : Along) (tree : List Layer) (first : LayerId) (k : ℕ) (next : Option LayerId) → IsSomeAnd next (λ id. id.0 ≡ first.0) → IfSome next (λ id. reaches (steps_along a) tree k first id ≡ true) → reaches (steps_along a) tree k first first ≡ true
way_back a tree first k None same way = absurd same
way_back a tree first k (Some id) same way = subst (λ (n : ℕ). reaches (steps_along a) tree k first (record { 0 = n }) ≡ true) same way

pub IsFollowed-grows : (tree : List Layer) (first : LayerId) (old new : List LayerId) (next : Option LayerId) → Grows old new → IfSome next (IsFollowed tree first old) → IfSome next (IsFollowed tree first new)
IsFollowed-grows tree first old new None g h = tt
IsFollowed-grows tree first old new (Some id) g h = record { other = h.other; noted = by_noted h.noted }
  where
    by_noted : (index_of tree id ≡ None) ⊎ Contains old id → (index_of tree id ≡ None) ⊎ Contains new id
    by_noted (inl e) = inl e
    by_noted (inr at) = inr (rw g.1 (Contains-append_left old g.0 id at))

pub Grows-trans : (a b c : List LayerId) → Grows a b → Grows b c → Grows a c
Grows-trans a b c g h = (g.0 ++ h.0, h.1 ∙ (rw g.1 (append_assoc a g.0 h.0)))

-- both steps were followed
pub IsExplored-both : (a : Along) (tree : List Layer) (first from : LayerId) (found : List LayerId) (one two : Option LayerId) → HasSteps a tree from one two → IfSome one (IsFollowed tree first found) → IfSome two (IsFollowed tree first found) → IsExplored (steps_along a) tree first found from
IsExplored-both a tree first from found one two h p q = rw h.are (both one two p q)
  where
    both : (one two : Option LayerId) → IfSome one (IsFollowed tree first found) → IfSome two (IsFollowed tree first found) → AllByRecursion (IsFollowed tree first found) (option_to_list one ++ option_to_list two)
    both None None p q = tt
    both None (Some id) p q = (q, tt)
    both (Some id) None p q = (p, tt)
    both (Some one) (Some two) p q = (p, (q, tt))

all_grow : (tree : List Layer) (first : LayerId) (old new xs : List LayerId) → Grows old new → AllByRecursion (IsFollowed tree first old) xs → AllByRecursion (IsFollowed tree first new) xs
all_grow tree first old new [] g h = tt
all_grow tree first old new (x ∷ xs) g h = (IsFollowed-grows tree first old new (Some x) g h.0, all_grow tree first old new xs g h.1)

pub IsExplored-grows : (steps : Layer → List LayerId) (tree : List Layer) (first from : LayerId) (old new : List LayerId) → Grows old new → IsExplored steps tree first old from → IsExplored steps tree first new from
IsExplored-grows steps tree first from old new g h = all_grow tree first old new _ g h

pub any_default : {X : Type 0} (xs : List X) (i : ℕ) (d e : X) → i < length xs → get_or xs i d ≡ get_or xs i e
any_default [] i d e h = absurd (omega arith)
any_default (x ∷ xs) zero d e h = refl
any_default (x ∷ xs) (suc i) d e h = any_default xs i d e (omega arith)

-- one more layer was explored
pub explored_more : (steps : Layer → List LayerId) (tree : List Layer) (first : LayerId) (old new : List LayerId) (index : ℕ) → Grows old new → index < length old → ((k : ℕ) (d : LayerId) → k < index → IsExplored steps tree first old (get_or old k d)) → ((d : LayerId) → IsExplored steps tree first new (get_or old index d)) → (k : ℕ) (d : LayerId) → k < index + 1 → IsExplored steps tree first new (get_or new k d)
explored_more steps tree first old new index g inside before here k d h = by_index (cases_lt k index)
  where
    same : k < length old → get_or new k d ≡ get_or old k d
    same low = ap (λ (xs : List LayerId). get_or xs k d) g.1 ∙ get_or-append old g.0 d k low

    by_index : (k < index) ⊎ (index ≤ k) → IsExplored steps tree first new (get_or new k d)
    by_index (inl low) = rw (same (omega arith)) (IsExplored-grows steps tree first _ old new g (before k d low))
    by_index (inr high) = let at : k ≡ index = omega arith in rw (same (omega arith), at) (here d)

pub Contains-grows : (old new : List LayerId) (id : LayerId) → Grows old new → Contains old id → Contains new id
Contains-grows old new id g at = rw g.1 (Contains-append_left old g.0 id at)

-- what was found is no more than the tree has layers
pub found-le : (steps : Layer → List LayerId) (tree : List Layer) (first : LayerId) (found : List LayerId) (marks : List Bool) → IsSearch steps tree first found marks → length found ≤ length tree
found-le steps tree first found marks s = omega (arith, s.counted, s.marked, mark_count-le marks)
