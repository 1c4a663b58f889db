-- Whether layers show: how far steps need to be followed.
use Rattle.std.proofs.Common.{◌≡◌, ℕ, zero, suc, ◌+◌, ◌<◌, ◌≤◌, Bool, true, false, not, ◌&&◌, List, [], ◌∷◌, length, get_or, Option, Some, None, is_some, refl, ap, ◌∙◌, sym, subst, arith, ◌≢◌, replicate, length-set, map, take, drop, ◌++◌}
use Rattle.std.specs.List.{All, slice_get, slice_set}
use Rattle.std.specs.Prelude.{eqb}
use Rattle.std.proofs.lemmas.Bool.{eqb-true, eq-eqb}
use Rattle.std.proofs.lemmas.List.{get_or-set_same, get_or-set_other, get_or-replicate, length-replicate, map_more, take_at}
use Rattle.std.proofs.lemmas.Option.{get_or_from_slice_get}
use Rattle.sf_base.specs.declared.ids.LayerId.{LayerId}
use Rattle.sf_layer.specs.declared.layer.Layer.{Layer}
use Rattle.sf_layer.specs.declared.parent.Parent.{Parent}
use Rattle.sf_layer.specs.declared.parent.Parent.TheVariants as parent
use Rattle.sf_tree.specs.Kept.{HasNoCycle, IsDistinct, IsRanked, IsTied}
use Rattle.sf_tree.specs.inner.Known.{IsBounded, IsKnown, Outranks}
use Rattle.sf_tree.specs.Layers.{layer_of, index_of}
use Rattle.sf_tree.specs.Showing.{parent_passes, passes, relative_passes, shows, shows_within}
use Rattle.sf_tree.proofs.TreeKept.{found_itself}
use Rattle.sf_tree.proofs.Lookups.{has_layer-place, layer_of-place}
use Rattle.sf_tree.proofs.Ranks.{All-layer_of, bounded_rank, is_there, layer_of-number}

parent_agree : (tree : List Layer) (f g : Layer → Bool) (p : Parent) → ((id : LayerId) (layer : Layer) → p ≡ parent.Layer id → layer_of tree id ≡ Some layer → f layer ≡ g layer) → parent_passes tree f p ≡ parent_passes tree g p
parent_agree tree f g parent.Root h = refl
parent_agree tree f g parent.Nothing h = refl
parent_agree tree f g (parent.Layer id) h = by_layer (layer_of tree id) refl
  where
    by_layer : (o : Option Layer) → layer_of tree id ≡ o → passes f o ≡ passes g o
    by_layer None e = refl
    by_layer (Some layer) e = h id layer refl e

relative_agree : (tree : List Layer) (f g : Layer → Bool) (r : Option LayerId) → ((id : LayerId) (layer : Layer) → r ≡ Some id → layer_of tree id ≡ Some layer → f layer ≡ g layer) → relative_passes tree f r ≡ relative_passes tree g r
relative_agree tree f g None h = refl
relative_agree tree f g (Some id) h = by_layer (layer_of tree id) refl
  where
    by_layer : (o : Option Layer) → layer_of tree id ≡ o → passes f o ≡ passes g o
    by_layer None e = refl
    by_layer (Some layer) e = h id layer refl e

pub inside_from_slice_get : (xs : List Layer) (place : ℕ) (layer : Layer) → slice_get xs place ≡ Some layer → place < length xs
inside_from_slice_get [] place layer at = cc
inside_from_slice_get (x ∷ xs) zero layer at = omega arith
inside_from_slice_get (x ∷ xs) (suc place) layer at = omega (arith, inside_from_slice_get xs place layer at)

-- the rank of a layer is number of steps enough
pub shows_within-enough : (tree : List Layer) (rank : ℕ → ℕ) (j k : ℕ) (layer : Layer) → All (IsRanked rank) tree → IsRanked rank layer → rank layer.number.0 < j → rank layer.number.0 < k → shows_within tree j layer ≡ shows_within tree k layer
shows_within-enough tree rank zero k layer all r low high = absurd (omega arith)
shows_within-enough tree rank (suc j) zero layer all r low high = absurd (omega arith)
shows_within-enough tree rank (suc j) (suc k) layer all r low high =
    ap (λ b. not layer.hidden && b) (both
    (parent_agree tree (shows_within tree j) (shows_within tree k) layer.parent (λ id m e f. onward id m f (r.parent id e) (shows_within-enough tree rank j k m)))
    (relative_agree tree (shows_within tree j) (shows_within tree k) layer.relative (λ id m e f. onward id m f (r.relative id e) (shows_within-enough tree rank j k m))))
  where
    both : {a b c d : Bool} → a ≡ b → c ≡ d → (a && c) ≡ (b && d)
    both p q = rw (p, q) refl

    onward : (id : LayerId) (m : Layer) → layer_of tree id ≡ Some m → rank id.0 < rank layer.number.0 → (All (IsRanked rank) tree → IsRanked rank m → rank m.number.0 < j → rank m.number.0 < k → shows_within tree j m ≡ shows_within tree k m) → shows_within tree j m ≡ shows_within tree k m
    onward id m f less ih =
        let same : rank m.number.0 ≡ rank id.0 = ap rank (layer_of-number tree id m f) in
        ih all (All-layer_of (IsRanked rank) tree id m all f) (omega arith) (omega arith)

-- a layer shows by what its parent and its relative layer do
pub shows-is : (tree : List Layer) (layer : Layer) (steps : ℕ) → Outranks tree layer steps → shows tree layer ≡ (not layer.hidden && (parent_passes tree (shows tree) layer.parent && relative_passes tree (shows tree) layer.relative))
unfolding shows
shows-is tree layer steps o = by_length (length tree) refl
  where
    rank : ℕ → ℕ
    rank = o.rank

    inside : rank layer.number.0 < length tree
    inside = o.bounded.bounded layer.number layer o.found

    r : IsRanked rank layer
    r = All-layer_of (IsRanked rank) tree layer.number layer o.bounded.ranked o.found

    by_length : (n : ℕ) → length tree ≡ n → shows_within tree n layer ≡ (not layer.hidden && (parent_passes tree (shows_within tree n) layer.parent && relative_passes tree (shows_within tree n) layer.relative))
    by_length zero e = absurd (omega (arith, inside))
    by_length (suc n) e =
        ap (λ b. not layer.hidden && b) (both
        (parent_agree tree (shows_within tree n) (shows_within tree (suc n)) layer.parent (λ id m p f. onward id m f (r.parent id p)))
        (relative_agree tree (shows_within tree n) (shows_within tree (suc n)) layer.relative (λ id m p f. onward id m f (r.relative id p))))
      where
        both : {a b c d : Bool} → a ≡ b → c ≡ d → (a && c) ≡ (b && d)
        both p q = rw (p, q) refl

        onward : (id : LayerId) (m : Layer) → layer_of tree id ≡ Some m → rank id.0 < rank layer.number.0 → shows_within tree n m ≡ shows_within tree (suc n) m
        onward id m f less =
            let same : rank m.number.0 ≡ rank id.0 = ap rank (layer_of-number tree id m f) in
            shows_within-enough tree rank n (suc n) m o.bounded.ranked (All-layer_of (IsRanked rank) tree id m o.bounded.ranked f) (omega (arith, inside)) (omega (arith, inside))

-- a layer that is stepped to
pub Outranks-parent : (tree : List Layer) (layer m : Layer) (id : LayerId) (steps : ℕ) → Outranks tree layer (steps + 1) → layer.parent ≡ parent.Layer id → layer_of tree id ≡ Some m → Outranks tree m steps
Outranks-parent tree layer m id steps o e f = record {
  rank = o.rank;
  bounded = o.bounded;
  found = subst (λ (n : ℕ). layer_of tree (record { 0 = n }) ≡ Some m) (sym (layer_of-number tree id m f)) f;
  low =
      let same : o.rank m.number.0 ≡ o.rank id.0 = ap o.rank (layer_of-number tree id m f) in
      let less : o.rank id.0 < o.rank layer.number.0 = (All-layer_of (IsRanked o.rank) tree layer.number layer o.bounded.ranked o.found).parent id e in
      omega (arith, o.low);
}

pub Outranks-relative : (tree : List Layer) (layer m : Layer) (id : LayerId) (steps : ℕ) → Outranks tree layer (steps + 1) → layer.relative ≡ Some id → layer_of tree id ≡ Some m → Outranks tree m steps
Outranks-relative tree layer m id steps o e f = record {
  rank = o.rank;
  bounded = o.bounded;
  found = subst (λ (n : ℕ). layer_of tree (record { 0 = n }) ≡ Some m) (sym (layer_of-number tree id m f)) f;
  low =
      let same : o.rank m.number.0 ≡ o.rank id.0 = ap o.rank (layer_of-number tree id m f) in
      let less : o.rank id.0 < o.rank layer.number.0 = (All-layer_of (IsRanked o.rank) tree layer.number layer o.bounded.ranked o.found).relative id e in
      omega (arith, o.low);
}

pub Outranks-le : (tree : List Layer) (layer : Layer) (j k : ℕ) → Outranks tree layer j → j ≤ k → Outranks tree layer k
Outranks-le tree layer j k o h = record { rank = o.rank; bounded = o.bounded; found = o.found; low = omega (arith, o.low) }

pub Outranks-tree : (tree : List Layer) (place : ℕ) (layer : Layer) → IsDistinct tree → All (IsTied tree) tree → HasNoCycle tree → slice_get tree place ≡ Some layer → Outranks tree layer (length tree)
Outranks-tree tree place layer distinct tied no_cycle at = record {
  rank = low.0;
  bounded = low.1;
  found = found;
  low = low.1.bounded layer.number layer found;
}
  where
    low : (rank : ℕ → ℕ) × IsBounded tree rank
    low = bounded_rank tree tied no_cycle

    inside : place < length tree
    inside = inside_from_slice_get tree place layer at

    found : layer_of tree layer.number ≡ Some layer
    found = subst (λ (l : Layer). layer_of tree l.number ≡ Some l) (get_or_from_slice_get tree place layer layer at) (found_itself tree distinct place layer inside)

-- a layer of a number that has a place
pub at_found : (tree : List Layer) (id : LayerId) (place : ℕ) → Some place ≡ index_of tree id → (layer : Layer) × (layer_of tree id ≡ Some layer) × (slice_get tree place ≡ Some layer)
at_found tree id place e =
    let there = is_there tree id (has_layer-place tree id ∙ ap is_some (sym e)) in
    (there.0, there.1, sym (layer_of-place tree id place (sym e)) ∙ there.1)

pub IsKnown-set : (tree : List Layer) (known : List (Option Bool)) (place : ℕ) (layer : Layer) (shown : Bool) → IsKnown tree known → slice_get tree place ≡ Some layer → shown ≡ shows tree layer → IsKnown tree (slice_set known place (Some shown))
IsKnown-set tree known place layer shown k at is = record {
  size = length-set known place (Some shown) ∙ k.size;
  right = λ p d s inside e. by_place p d s inside e (eqb p place) refl;
}
  where
    inside : place < length tree
    inside = inside_from_slice_get tree place layer at

    by_place : (p : ℕ) (d : Layer) (s : Bool) → p < length tree → get_or (slice_set known place (Some shown)) p None ≡ Some s → (b : Bool) → eqb p place ≡ b → s ≡ shows tree (get_or tree p d)
    by_place p d s low e true t =
        let same : p ≡ place = eqb-true p place t in
        let here : get_or (slice_set known place (Some shown)) place None ≡ Some shown = get_or-set_same known place (Some shown) None (rw k.size inside) in
        let both : Some shown ≡ Some s = sym here ∙ subst (λ (q : ℕ). get_or (slice_set known place (Some shown)) q None ≡ Some s) same e in
        let one : s ≡ shown = cc in
        rw (same, get_or_from_slice_get tree place layer d at) (one ∙ is)
    by_place p d s low e false t =
        let apart : p ≢ place = λ q. let clash : true ≡ false = sym (eq-eqb p place q) ∙ t in cc in
        k.right p d s low (sym (get_or-set_other known place p (Some shown) None apart) ∙ e)

pub IsKnown-none : (tree : List Layer) (n : ℕ) → n ≡ length tree → IsKnown tree (replicate n None)
IsKnown-none tree n size = record {
  size = length-replicate n None ∙ size;
  right = λ p d s inside e.
      let none : None ≡ Some s = sym (get_or-replicate n p None None (omega arith)) ∙ e in cc;
}

-- a list that was lent as a slice and came back
pub written_back : {X : Type 0} (new old : List X) (n : ℕ) → length new ≡ length old → n ≡ length old → take n (new ++ drop (length new) old) ≡ new
written_back new old n same size = take_at new (drop (length new) old) n (same ∙ sym size)

pub layer_at : {X : Type 0} (xs : List X) (i : ℕ) → i < length xs → (x : X) × (slice_get xs i ≡ Some x)
layer_at [] i h = absurd (omega arith)
layer_at (x ∷ xs) zero h = (x, refl)
layer_at (x ∷ xs) (suc i) h = layer_at xs i (omega arith)

pub map-take-more : {X Y : Type 0} (f : X → Y) (xs : List X) (i : ℕ) (x : X) → i < length xs → slice_get xs i ≡ Some x → map f (take (i + 1) xs) ≡ map f (take i xs) ++ f x ∷ []
map-take-more f xs i x inside at = map_more f xs i x inside ∙ ap (λ y. map f (take i xs) ++ f y ∷ []) (get_or_from_slice_get xs i x x at)
