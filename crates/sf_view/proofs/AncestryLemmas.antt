-- Ancestors, step by step.
use Rattle.std.proofs.Common.{◌≡◌, ℕ, zero, suc, ◌-◌, ◌+◌, ◌<◌, ◌≤◌, List, [], ◌∷◌, ◌++◌, length, Option, Some, None, refl, ap, ◌∙◌, sym, arith, append_assoc}
use Rattle.std.specs.List.{All}
use Rattle.sf_tree.specs.sf_layer.declared.layer.Layer.{Layer}
use Rattle.sf_tree.specs.sf_layer.declared.parent.Parent.{Parent}
use Rattle.sf_tree.specs.sf_layer.declared.parent.Parent.TheVariants as parent
use Rattle.sf_tree.specs.Layers.{layer_of, parent_layer}
use Rattle.sf_tree.specs.Kept.{IsRanked}
use Rattle.sf_tree.specs.inner.Known.{Outranks}
use Rattle.sf_tree.proofs.ShowLemmas.{Outranks-parent}
use Rattle.sf_tree.proofs.Ranks.{All-layer_of, layer_of-number}
use Rattle.sf_base.specs.declared.ids.LayerId.{LayerId}
use Rattle.sf_view.specs.Ancestry.{ancestry, ancestry_within, and_above}

pub ancestry_within-suc : (tree : List Layer) (steps : ℕ) (layer : Layer) → 0 < steps → ancestry_within tree steps layer ≡ layer ∷ and_above (ancestry_within tree (steps - 1)) (parent_layer tree layer.parent)
ancestry_within-suc tree zero layer h = absurd (omega arith)
ancestry_within-suc tree (suc steps) layer h = by_number (suc steps - 1) (omega arith)
  where
    by_number : (n : ℕ) → n ≡ steps → ancestry_within tree (suc steps) layer ≡ layer ∷ and_above (ancestry_within tree n) (parent_layer tree layer.parent)
    by_number n e = rw e refl

-- one more ancestor was found
pub ancestry_more : (tree list : List Layer) (steps : ℕ) (layer : Layer) → 0 < steps → (list ++ layer ∷ []) ++ and_above (ancestry_within tree (steps - 1)) (parent_layer tree layer.parent) ≡ list ++ ancestry_within tree steps layer
ancestry_more tree list steps layer h =
    append_assoc list (layer ∷ []) _ ∙ ap (λ xs. list ++ xs) (sym (ancestry_within-suc tree steps layer h))

-- there are no more than the steps
pub length-ancestry_within : (tree : List Layer) (steps : ℕ) (layer : Layer) → length (ancestry_within tree steps layer) ≤ steps
length-ancestry_within tree zero layer = omega arith
length-ancestry_within tree (suc steps) layer = omega (arith, above (parent_layer tree layer.parent) (length-ancestry_within tree steps))
  where
    above : (o : Option Layer) → ((l : Layer) → length (ancestry_within tree steps l) ≤ steps) → length (and_above (ancestry_within tree steps) o) ≤ steps
    above None ih = omega arith
    above (Some l) ih = ih l

-- what lies above a parent
above_agree : (tree : List Layer) (f g : Layer → List Layer) (p : Parent) → ((id : LayerId) (layer : Layer) → p ≡ parent.Layer id → layer_of tree id ≡ Some layer → f layer ≡ g layer) → and_above f (parent_layer tree p) ≡ and_above g (parent_layer tree p)
above_agree tree f g parent.Root h = refl
above_agree tree f g parent.Nothing h = refl
above_agree tree f g (parent.Layer id) h = by_layer (layer_of tree id) refl
  where
    by_layer : (o : Option Layer) → layer_of tree id ≡ o → and_above f o ≡ and_above g o
    by_layer None e = refl
    by_layer (Some layer) e = h id layer refl e

-- the rank of a layer is steps enough
ancestry_within-enough : (tree : List Layer) (rank : ℕ → ℕ) (j k : ℕ) (layer : Layer) → All (IsRanked rank) tree → IsRanked rank layer → rank layer.number.0 < j → rank layer.number.0 < k → ancestry_within tree j layer ≡ ancestry_within tree k layer
ancestry_within-enough tree rank zero k layer all r low high = absurd (omega arith)
ancestry_within-enough tree rank (suc j) zero layer all r low high = absurd (omega arith)
ancestry_within-enough tree rank (suc j) (suc k) layer all r low high =
    ap (λ xs. layer ∷ xs) (above_agree tree (ancestry_within tree j) (ancestry_within tree k) layer.parent (λ id m e f. onward id m f (r.parent id e) (ancestry_within-enough tree rank j k m)))
  where
    onward : (id : LayerId) (m : Layer) → layer_of tree id ≡ Some m → rank id.0 < rank layer.number.0 → (All (IsRanked rank) tree → IsRanked rank m → rank m.number.0 < j → rank m.number.0 < k → ancestry_within tree j m ≡ ancestry_within tree k m) → ancestry_within tree j m ≡ ancestry_within tree k m
    onward id m f less ih =
        let same : rank m.number.0 ≡ rank id.0 = ap rank (layer_of-number tree id m f) in
        ih all (All-layer_of (IsRanked rank) tree id m all f) (omega arith) (omega arith)

-- a layer's ancestry is the layer and the ancestry of its parent
pub ancestry-is : (tree : List Layer) (layer : Layer) (steps : ℕ) → Outranks tree layer steps → ancestry tree layer ≡ layer ∷ and_above (ancestry tree) (parent_layer tree layer.parent)
unfolding ancestry
ancestry-is tree layer steps o = by_length (length tree) refl
  where
    inside : o.rank layer.number.0 < length tree
    inside = o.bounded.bounded layer.number layer o.found

    r : IsRanked o.rank layer
    r = All-layer_of (IsRanked o.rank) tree layer.number layer o.bounded.ranked o.found

    by_length : (n : ℕ) → length tree ≡ n → ancestry_within tree n layer ≡ layer ∷ and_above (ancestry_within tree n) (parent_layer tree layer.parent)
    by_length zero e = absurd (omega (arith, inside))
    by_length (suc n) e = ap (λ xs. layer ∷ xs) (above_agree tree (ancestry_within tree n) (ancestry_within tree (suc n)) layer.parent (λ id m p f. onward id m f (r.parent id p)))
      where
        onward : (id : LayerId) (m : Layer) → layer_of tree id ≡ Some m → o.rank id.0 < o.rank layer.number.0 → ancestry_within tree n m ≡ ancestry_within tree (suc n) m
        onward id m f less =
            let same : o.rank m.number.0 ≡ o.rank id.0 = ap o.rank (layer_of-number tree id m f) in
            ancestry_within-enough tree o.rank n (suc n) m o.bounded.ranked (All-layer_of (IsRanked o.rank) tree id m o.bounded.ranked f) (omega (arith, inside)) (omega (arith, inside))

-- a layer and its ancestors are no more than the tree has layers
pub ancestry-few : (tree : List Layer) (layer : Layer) → length (ancestry tree layer) ≤ length tree
unfolding ancestry
ancestry-few tree layer = length-ancestry_within tree (length tree) layer

pub above-few : (tree : List Layer) (o : Option Layer) → length (and_above (ancestry tree) o) ≤ length tree
above-few tree None = omega arith
above-few tree (Some layer) = ancestry-few tree layer

pub none_left : (tree : List Layer) (next : Option Layer) → and_above (ancestry_within tree 0) next ≡ []
none_left tree None = refl
none_left tree (Some layer) = refl

-- what a layer hangs from needs one step less
pub hangs : (tree : List Layer) (layer above : Layer) (steps : ℕ) → Outranks tree layer (steps + 1) → parent_layer tree layer.parent ≡ Some above → Outranks tree above steps
hangs tree layer above steps o e = by_parent layer.parent refl e
  where
    by_parent : (p : Parent) → layer.parent ≡ p → parent_layer tree p ≡ Some above → Outranks tree above steps
    by_parent parent.Root q e = cc
    by_parent parent.Nothing q e = cc
    by_parent (parent.Layer id) q e = Outranks-parent tree layer above id steps o q e
