-- Rankings after a layer got another step.
use Rattle.std.proofs.Common.{◌≡◌, ℕ, zero, suc, ◌+◌, ◌<◌, Bool, true, false, cond, List, [], ◌∷◌, ◌++◌, length, get_or, Option, Some, None, refl, ◌∙◌, sym, subst, arith, inl, inr, ◌⊎◌}
use Rattle.std.specs.List.{list_any, slice_set}
use Rattle.std.specs.Prelude.{◌==◌, ◌||◌, option_to_list}
use Rattle.std.proofs.lemmas.Bool.{eqb-true, eq-eqb}
use Rattle.std.proofs.lemmas.List.Elements.{All-set}
use Rattle.sf_base.specs.declared.ids.LayerId.{LayerId}
use Rattle.sf_layer.specs.declared.layer.Layer.{Layer}
use Rattle.sf_layer.specs.declared.parent.Parent.{Parent}
use Rattle.sf_layer.specs.declared.parent.Parent.TheVariants as parent
use Rattle.sf_tree.specs.Kept.{HasNoCycle, IsRanked}
use Rattle.sf_tree.specs.inner.Known.{IsBounded}
use Rattle.sf_tree.specs.Layers.{layer_of}
use Rattle.sf_tree.specs.Steps.{all_steps, steps_of, reaches, to_parent}
use Rattle.sf_tree.proofs.Ranks.{All-layer_of, layer_of-number}
use Rattle.sf_tree.proofs.LayerPaths.{any_weaker, reaches-step, reaches-first, reaches-le}

-- the numbers of the steps of a layer rank lower
pub step_rank : (rank : ℕ → ℕ) (layer : Layer) (n : LayerId) → IsRanked rank layer → list_any (λ s. s.0 == n.0) (all_steps layer) ≡ true → rank n.0 < rank layer.number.0
step_rank rank layer n r h = by_parent layer.parent refl h
  where
    same : (s : LayerId) → (s.0 == n.0) ≡ true → rank s.0 < rank layer.number.0 → rank n.0 < rank layer.number.0
    same s t low = subst (λ (m : ℕ). rank m < rank layer.number.0) (eqb-true s.0 n.0 t) low

    by_relative : (o : Option LayerId) → layer.relative ≡ o → list_any (λ s. s.0 == n.0) (option_to_list o) ≡ true → rank n.0 < rank layer.number.0
    by_relative None e h = cc
    by_relative (Some s) e h = by_test (s.0 == n.0) refl h
      where
        by_test : (b : Bool) → (s.0 == n.0) ≡ b → (b || false) ≡ true → rank n.0 < rank layer.number.0
        by_test true t h = same s t (r.relative s e)
        by_test false t h = cc

    by_parent : (p : Parent) → layer.parent ≡ p → list_any (λ s. s.0 == n.0) (to_parent p ++ option_to_list layer.relative) ≡ true → rank n.0 < rank layer.number.0
    by_parent parent.Root e h = by_relative layer.relative refl h
    by_parent parent.Nothing e h = by_relative layer.relative refl h
    by_parent (parent.Layer s) e h = by_test (s.0 == n.0) refl h
      where
        by_test : (b : Bool) → (s.0 == n.0) ≡ b → (b || list_any (λ s. s.0 == n.0) (option_to_list layer.relative)) ≡ true → rank n.0 < rank layer.number.0
        by_test true t h = same s t (r.parent s e)
        by_test false t h = by_relative layer.relative refl h

-- a layer is under another if it is that one or reaches it; how long the way is, its rank says
pub under : (ℕ → ℕ) → List Layer → LayerId → ℕ → Bool
under rank tree id n = n == id.0 || reaches all_steps tree (rank n) (record { 0 = n }) id

-- the layers under one rank higher
lifted : (ℕ → ℕ) → List Layer → LayerId → ℕ → ℕ → ℕ
lifted rank tree id more n = rank n + cond (under rank tree id n) more 0

-- what is stepped to from a layer that is not under is not under
under-step : (rank : ℕ → ℕ) (tree : List Layer) (id : LayerId) (layer : Layer) (s : LayerId) → IsRanked rank layer → layer_of tree layer.number ≡ Some layer → list_any (λ next. next.0 == s.0) (all_steps layer) ≡ true → under rank tree id s.0 ≡ true → under rank tree id layer.number.0 ≡ true
unfolding under
under-step rank tree id layer s r found step u = to_right (layer.number.0 == id.0) _ (by_test (s.0 == id.0) refl u)
  where
    to_right : (p q : Bool) → q ≡ true → (p || q) ≡ true
    to_right true q e = refl
    to_right false q e = e

    low : rank s.0 < rank layer.number.0
    low = step_rank rank layer s r step

    steps : list_any (λ next. next.0 == s.0) (steps_of all_steps (layer_of tree layer.number)) ≡ true
    steps = rw found step

    by_test : (b : Bool) → (s.0 == id.0) ≡ b → (b || reaches all_steps tree (rank s.0) s id) ≡ true → reaches all_steps tree (rank layer.number.0) layer.number id ≡ true
    by_test true t u =
        let one : reaches all_steps tree (suc 0) layer.number id ≡ true = reaches-step all_steps tree 0 layer.number id (subst (λ (n : ℕ). list_any (λ next. next.0 == n) (steps_of all_steps (layer_of tree layer.number)) ≡ true) (eqb-true s.0 id.0 t) steps) in
        reaches-le all_steps tree (suc 0) (rank layer.number.0) layer.number id (omega (arith, low)) one
    by_test false t u =
        reaches-le all_steps tree (suc (rank s.0)) (rank layer.number.0) layer.number id (omega (arith, low)) (reaches-first all_steps tree (rank s.0) layer.number s id steps u)

-- a step of a layer keeps its direction when the layers under one are lifted
lifted-step : (rank : ℕ → ℕ) (tree : List Layer) (id : LayerId) (more : ℕ) (layer : Layer) (s : LayerId) → IsRanked rank layer → layer_of tree layer.number ≡ Some layer → list_any (λ next. next.0 == s.0) (all_steps layer) ≡ true → lifted rank tree id more s.0 < lifted rank tree id more layer.number.0
unfolding lifted
lifted-step rank tree id more layer s r found step =
    by_tests (under rank tree id s.0) (under rank tree id layer.number.0) (under-step rank tree id layer s r found step) (step_rank rank layer s r step)
  where
    by_tests : (a b : Bool) → (a ≡ true → b ≡ true) → rank s.0 < rank layer.number.0 → rank s.0 + cond a more 0 < rank layer.number.0 + cond b more 0
    by_tests true true h low = omega arith
    by_tests true false h low = let clash : false ≡ true = h refl in cc
    by_tests false true h low = omega arith
    by_tests false false h low = omega arith

parent_is_step : (layer : Layer) (s : LayerId) → layer.parent ≡ parent.Layer s → list_any (λ next. next.0 == s.0) (all_steps layer) ≡ true
parent_is_step layer s e = rw (e, eq-eqb s.0 s.0 refl) refl

pub in_last : (xs : List LayerId) (s : LayerId) → list_any (λ next. next.0 == s.0) (xs ++ s ∷ []) ≡ true
in_last [] s = rw (eq-eqb s.0 s.0 refl) refl
in_last (x ∷ xs) s = to_right (x.0 == s.0) _ (in_last xs s)
  where
    to_right : (p q : Bool) → q ≡ true → (p || q) ≡ true
    to_right true q e = refl
    to_right false q e = e

relative_is_step : (layer : Layer) (s : LayerId) → layer.relative ≡ Some s → list_any (λ next. next.0 == s.0) (all_steps layer) ≡ true
relative_is_step layer s e = rw e (in_last (to_parent layer.parent) s)

lifted-ranked : (rank : ℕ → ℕ) (tree : List Layer) (id : LayerId) (more : ℕ) (layer : Layer) → IsRanked rank layer → layer_of tree layer.number ≡ Some layer → IsRanked (lifted rank tree id more) layer
lifted-ranked rank tree id more layer r found = record {
  parent = λ s e. lifted-step rank tree id more layer s r found (parent_is_step layer s e);
  relative = λ s e. lifted-step rank tree id more layer s r found (relative_is_step layer s e);
}

-- the layer that is stepped to newly ranks lower than the layer that steps there
lifted-new : (rank : ℕ → ℕ) (tree : List Layer) (id t : LayerId) (n : ℕ) → n ≡ id.0 → under rank tree id t.0 ≡ false → lifted rank tree id (rank t.0 + 1) t.0 < lifted rank tree id (rank t.0 + 1) n
unfolding lifted under
lifted-new rank tree id t n e out = rw (out, eq-eqb n id.0 e) (omega arith)

-- the steps of a layer that was edited are its steps before, and one more
pub record StepsTo (layer next : Layer) (t : LayerId) : Type 0 where
  pub parent : (s : LayerId) → next.parent ≡ parent.Layer s → (layer.parent ≡ parent.Layer s) ⊎ (s ≡ t)
  pub relative : (s : LayerId) → next.relative ≡ Some s → (layer.relative ≡ Some s) ⊎ (s ≡ t)
  pub there : list_any (λ s. s.0 == t.0) (all_steps next) ≡ true

pub HasNoCycle-moved : (tree : List Layer) (rank : ℕ → ℕ) (id t : LayerId) (place : ℕ) (layer next : Layer) → ((k : ℕ) (d : Layer) → k < length tree → layer_of tree (get_or tree k d).number ≡ Some (get_or tree k d)) → IsBounded tree rank → layer_of tree id ≡ Some layer → next.number ≡ layer.number → StepsTo layer next t → under rank tree id t.0 ≡ false → HasNoCycle (slice_set tree place next)
HasNoCycle-moved tree rank id t place layer next found b at number steps out = record {
  rank = up;
  ranked = All-set (IsRanked up) tree place next (record { parent = parents; relative = relatives }) (λ k d h. lifted-ranked rank tree id (rank t.0 + 1) (get_or tree k d) (b.ranked k d h) (found k d h));
}
  where
    up : ℕ → ℕ
    up = lifted rank tree id (rank t.0 + 1)

    is_id : layer.number.0 ≡ id.0
    is_id = layer_of-number tree id layer at

    same : layer_of tree layer.number ≡ Some layer
    same = subst (λ (n : ℕ). layer_of tree (record { 0 = n }) ≡ Some layer) (sym is_id) at

    old : IsRanked up layer
    old = lifted-ranked rank tree id (rank t.0 + 1) layer (All-layer_of (IsRanked rank) tree id layer b.ranked at) same

    to_next : (s : LayerId) → up s.0 < up layer.number.0 → up s.0 < up next.number.0
    to_next s low = rw number low

    by_step : (s : LayerId) → s ≡ t → up s.0 < up next.number.0
    by_step s e = rw (e, number) (lifted-new rank tree id t layer.number.0 is_id out)

    parents : (s : LayerId) → next.parent ≡ parent.Layer s → up s.0 < up next.number.0
    parents s e = by_case (steps.parent s e)
      where
        by_case : (layer.parent ≡ parent.Layer s) ⊎ (s ≡ t) → up s.0 < up next.number.0
        by_case (inl h) = to_next s (old.parent s h)
        by_case (inr h) = by_step s h

    relatives : (s : LayerId) → next.relative ≡ Some s → up s.0 < up next.number.0
    relatives s e = by_case (steps.relative s e)
      where
        by_case : (layer.relative ≡ Some s) ⊎ (s ≡ t) → up s.0 < up next.number.0
        by_case (inl h) = to_next s (old.relative s h)
        by_case (inr h) = by_step s h

-- ways that begin elsewhere stay when one layer is edited, until they come to it
reaches-edited : (tree next : List Layer) (id : LayerId) → ((a : LayerId) → (a.0 == id.0) ≡ false → layer_of next a ≡ layer_of tree a) → (k : ℕ) (a : LayerId) → (a.0 == id.0) ≡ false → reaches all_steps tree k a id ≡ true → reaches all_steps next k a id ≡ true
unfolding reaches
reaches-edited tree next id same zero a other r = cc
reaches-edited tree next id same (suc k) a other r =
    rw (same a other) (any_weaker _ _ (λ s. by_test s (s.0 == id.0) refl (reaches-edited tree next id same k s)) (steps_of all_steps (layer_of tree a)) r)
  where
    by_test : (s : LayerId) (b : Bool) → (s.0 == id.0) ≡ b → (b ≡ false → reaches all_steps tree k s id ≡ true → reaches all_steps next k s id ≡ true) → (b || reaches all_steps tree k s id) ≡ true → (b || reaches all_steps next k s id) ≡ true
    by_test s true e ih r = refl
    by_test s false e ih r = ih refl r

-- where the edited layer does not reach itself, what it steps to newly is not under it
pub not_under : (tree next : List Layer) (rank : ℕ → ℕ) (id t : LayerId) (layer : Layer) → length next ≡ length tree → 0 < length tree → rank t.0 < length tree → layer_of next id ≡ Some layer → list_any (λ s. s.0 == t.0) (all_steps layer) ≡ true → ((a : LayerId) → (a.0 == id.0) ≡ false → layer_of next a ≡ layer_of tree a) → reaches all_steps next (length next) id id ≡ false → under rank tree id t.0 ≡ false
unfolding under
not_under tree next rank id t layer size some low at step same clear = by_test (t.0 == id.0) refl
  where
    steps : list_any (λ s. s.0 == t.0) (steps_of all_steps (layer_of next id)) ≡ true
    steps = rw at step

    clash : reaches all_steps next (length next) id id ≡ true → (b : Bool) → b ≡ false
    clash r b = let no : true ≡ false = sym r ∙ clear in cc

    way : (b : Bool) → reaches all_steps tree (rank t.0) t id ≡ b → (t.0 == id.0) ≡ false → b ≡ false
    way false e other = refl
    way true e other =
        clash (reaches-le all_steps next (suc (rank t.0)) (length next) id id (omega (arith, low, size)) (reaches-first all_steps next (rank t.0) id t id steps (reaches-edited tree next id same (rank t.0) t other e))) true

    by_test : (b : Bool) → (t.0 == id.0) ≡ b → (b || reaches all_steps tree (rank t.0) t id) ≡ false
    by_test true e =
        let one : reaches all_steps next (suc 0) id id ≡ true = reaches-step all_steps next 0 id id (subst (λ (n : ℕ). list_any (λ s. s.0 == n) (steps_of all_steps (layer_of next id)) ≡ true) (eqb-true t.0 id.0 e) steps) in
        clash (reaches-le all_steps next (suc 0) (length next) id id (omega (arith, some, size)) one) true
    by_test false e = way _ refl e
