-- No layer of a tree reaches itself.
use Rattle.std.proofs.Common.{◌≡◌, ℕ, zero, suc, ◌<◌, Bool, true, false, List, [], ◌∷◌, ◌++◌, Option, Some, None, refl, subst, arith}
use Rattle.std.specs.List.{All, list_any}
use Rattle.std.specs.Prelude.{◌==◌, ◌||◌, option_to_list}
use Rattle.std.proofs.lemmas.Bool.{eq-eqb}
use Rattle.sf_base.specs.declared.ids.LayerId.{LayerId}
use Rattle.sf_layer.specs.declared.layer.Layer.{Layer}
use Rattle.sf_layer.specs.declared.parent.Parent.{Parent}
use Rattle.sf_layer.specs.declared.parent.Parent.TheVariants as parent
use Rattle.sf_tree.specs.Kept.{HasNoCycle, IsRanked, IsTree}
use Rattle.sf_tree.specs.Layers.{layer_of}
use Rattle.sf_tree.specs.Steps.{all_steps, parent_steps, reaches, reaches_itself, steps_of, to_parent}
use Rattle.sf_tree.proofs.RankingChanges.{step_rank}
use Rattle.sf_tree.proofs.Ranks.{All-layer_of, layer_of-number}

to_right : (p q : Bool) → q ≡ true → (p || q) ≡ true
to_right true q e = refl
to_right false q e = e

-- one of the steps of a layer leads there
abbrev StepsTo : List LayerId → LayerId → Type 0
StepsTo steps to = list_any (λ next. next.0 == to.0) steps ≡ true

-- where each step leads lower, so does a way that begins with one of them
way_low : (rank : ℕ → ℕ) (top : ℕ) (to : LayerId) (back : LayerId → Bool) → ((n : LayerId) → back n ≡ true → rank to.0 < rank n.0) → (steps : List LayerId) → ((n : LayerId) → StepsTo steps n → rank n.0 < top) → list_any (λ next. next.0 == to.0 || back next) steps ≡ true → rank to.0 < top
way_low rank top to back on [] low h = cc
way_low rank top to back on (x ∷ xs) low h =
    by_tests (x.0 == to.0) (back x) refl refl h (way_low rank top to back on xs (λ n e. low n (to_right (x.0 == n.0) _ e)))
  where
    by_tests : (a b : Bool) → (x.0 == to.0) ≡ a → back x ≡ b → ((a || b) || list_any (λ next. next.0 == to.0 || back next) xs) ≡ true → (list_any (λ next. next.0 == to.0 || back next) xs ≡ true → rank to.0 < top) → rank to.0 < top
    by_tests true b e f h rest = low to (rw e refl)
    by_tests false true e f h rest =
        let here : StepsTo (x ∷ xs) x = rw (eq-eqb x.0 x.0 refl) refl in
        omega (arith, on x f, low x here)
    by_tests false false e f h rest = rest h

-- steps that lead lower in a ranking
abbrev LeadLower : (Layer → List LayerId) → (ℕ → ℕ) → Type 0
LeadLower steps rank = (layer : Layer) (n : LayerId) → IsRanked rank layer → StepsTo (steps layer) n → rank n.0 < rank layer.number.0

reaches-low : (steps : Layer → List LayerId) (rank : ℕ → ℕ) (tree : List Layer) → LeadLower steps rank → All (IsRanked rank) tree → (k : ℕ) (from to : LayerId) → reaches steps tree k from to ≡ true → rank to.0 < rank from.0
unfolding reaches
reaches-low steps rank tree lower ranked zero from to h = cc
reaches-low steps rank tree lower ranked (suc k) from to h =
    by_layer (λ n e. reaches-low steps rank tree lower ranked k n to e) (layer_of tree from) refl h
  where
    by_layer : ((n : LayerId) → reaches steps tree k n to ≡ true → rank to.0 < rank n.0) → (o : Option Layer) → layer_of tree from ≡ o → list_any (λ next. next.0 == to.0 || reaches steps tree k next to) (steps_of steps o) ≡ true → rank to.0 < rank from.0
    by_layer on None e h = cc
    by_layer on (Some layer) e h =
        subst (λ (n : ℕ). rank to.0 < rank n) (layer_of-number tree from layer e)
        (way_low rank (rank layer.number.0) to (λ next. reaches steps tree k next to) on (steps layer) (λ n t. lower layer n (All-layer_of (IsRanked rank) tree from layer ranked e) t) h)

none_reaches : (steps : Layer → List LayerId) (layers : List Layer) (id : LayerId) → ((rank : ℕ → ℕ) → LeadLower steps rank) → HasNoCycle layers → reaches_itself steps layers id ≡ false
unfolding reaches_itself
none_reaches steps layers id lower no_cycle = by_test (reaches_itself steps layers id) refl
  where
    by_test : (b : Bool) → reaches_itself steps layers id ≡ b → reaches_itself steps layers id ≡ false
    by_test false e = e
    by_test true e =
        let less : no_cycle.rank id.0 < no_cycle.rank id.0 = reaches-low steps no_cycle.rank layers (lower no_cycle.rank) no_cycle.ranked _ id id e in
        absurd (omega arith)

pub none_reaches_itself : (most : ℕ) (layers : List Layer) (id : LayerId) → IsTree most layers → reaches_itself all_steps layers id ≡ false
none_reaches_itself most layers id tree = none_reaches all_steps layers id (λ rank layer n ranked step. step_rank rank layer n ranked step) tree.no_cycle

pub none_is_above_itself : (most : ℕ) (layers : List Layer) (id : LayerId) → IsTree most layers → reaches_itself parent_steps layers id ≡ false
none_is_above_itself most layers id tree = none_reaches parent_steps layers id (λ rank layer n ranked step. step_rank rank layer n ranked (in_front layer.parent (option_to_list layer.relative) n step)) tree.no_cycle
  where
    in_front : (p : Parent) (more : List LayerId) (n : LayerId) → StepsTo (to_parent p) n → StepsTo (to_parent p ++ more) n
    in_front parent.Root more n h = cc
    in_front parent.Nothing more n h = cc
    in_front (parent.Layer id) more n h = by_test (id.0 == n.0) h
      where
        by_test : (b : Bool) → (b || false) ≡ true → (b || list_any (λ next. next.0 == n.0) more) ≡ true
        by_test true h = refl
        by_test false h = cc
