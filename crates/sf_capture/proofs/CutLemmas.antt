-- What is cut off a tree is a tree.
use Rattle.std.proofs.Common.{◌≡◌, ℕ, ◌<◌, ◌≤◌, Bool, true, false, cond, List, [], ◌∷◌, length, get_or, map, Option, Some, None, is_some, refl, ap, ◌∙◌, sym, arith, pos}
use Rattle.std.specs.List.{All, filter, find, list_any}
use Rattle.std.specs.Prelude.{◌==◌, if◌then◌else◌, IfSome}
use Rattle.std.proofs.lemmas.List.{length-map}
use Rattle.std.proofs.lemmas.List.Elements.{All-filter, All-map, All-weaker, filter_passes}
use Rattle.std.proofs.lemmas.Option.{slice_get-get_or}
use Rattle.sf_base.specs.declared.ids.LayerId.{LayerId}
use Rattle.sf_output_shown.specs.sf_layer.declared.layer.Layer.{Layer}
use Rattle.sf_output_shown.specs.sf_layer.declared.parent.Parent.{Parent}
use Rattle.sf_output_shown.specs.sf_layer.declared.parent.Parent.TheVariants as parent
use Rattle.sf_output_shown.specs.sf_tree.Kept.{IsLayerInRange, IsOfKind, IsRanked, IsTied, IsTree}
use Rattle.sf_output_shown.specs.sf_tree.Layers.{has_layer, has_parent, is_numbered, layer_of, parent_layer}
use Rattle.sf_output_shown.proofs.sf_tree_lemmas.TreeKept.{IsDistinct-filter, IsDistinct-map}
use Rattle.sf_output_shown.proofs.sf_tree_lemmas.ShowLemmas.{Outranks-tree}
use Rattle.sf_output_shown.specs.sf_view.Ancestry.{ancestry, and_above}
use Rattle.sf_output_shown.proofs.sf_view_lemmas.AncestryLemmas.{ancestry-is}
use Rattle.sf_output_shown.specs.Cuts.{cut, cut_layer, is_under, relative_in, under}
use Rattle.sf_output_shown.proofs.KeepingLemmas.{either, origin, under-few}

-- a layer that is found and picked is there among those
found_picked : (p : Layer → Bool) (xs : List Layer) (id : LayerId) (m : Layer) → layer_of xs id ≡ Some m → p m ≡ true → has_layer (filter p xs) id ≡ true
found_picked p [] id m e h = cc
found_picked p (x ∷ xs) id m e h = by_tests (is_numbered id x) (p x) refl refl e (λ e. found_picked p xs id m e h)
  where
    by_tests : (a b : Bool) → is_numbered id x ≡ a → p x ≡ b → cond a (Some x) (layer_of xs id) ≡ Some m → (layer_of xs id ≡ Some m → has_layer (filter p xs) id ≡ true) → has_layer (cond b (x ∷ filter p xs) (filter p xs)) id ≡ true
    by_tests true true q r e ih = rw q refl
    by_tests true false q r e ih =
        let same : x ≡ m = cc in
        let clash : true ≡ false = sym h ∙ (ap p (sym same) ∙ r) in cc
    by_tests false true q r e ih = rw q (ih e)
    by_tests false false q r e ih = ih e

-- layers with other states and the same numbers
has_layer-map : (f : Layer → Layer) (xs : List Layer) (id : LayerId) → ((x : Layer) → (f x).number ≡ x.number) → has_layer (map f xs) id ≡ has_layer xs id
has_layer-map f [] id same = refl
has_layer-map f (x ∷ xs) id same =
    ap (λ (b : Bool). is_some (cond b (Some (f x)) (find (is_numbered id) (map f xs)))) (ap (λ (n : LayerId). n.0 == id.0) (same x)) ∙ by_test (is_numbered id x) (has_layer-map f xs id same)
  where
    by_test : (b : Bool) → has_layer (map f xs) id ≡ has_layer xs id → is_some (cond b (Some (f x)) (find (is_numbered id) (map f xs))) ≡ is_some (cond b (Some x) (find (is_numbered id) xs))
    by_test true ih = refl
    by_test false ih = ih

has_parent-map : (f : Layer → Layer) (xs : List Layer) (p : Parent) → ((x : Layer) → (f x).number ≡ x.number) → has_parent xs p ≡ true → has_parent (map f xs) p ≡ true
has_parent-map f xs parent.Root same h = refl
has_parent-map f xs (parent.Layer id) same h = has_layer-map f xs id same ∙ h
has_parent-map f xs parent.Nothing same h = refl

module _ (kept : List Layer) (id : LayerId) where
  numbered : (layer : Layer) → 0 < layer.number.0 → 0 < (cut_layer kept id layer).number.0
  numbered layer h = either (λ l. 0 < l.number.0) (is_numbered id layer) _ _ h h

  in_range : (layer : Layer) → IsLayerInRange layer → IsLayerInRange (cut_layer kept id layer)
  in_range layer r = either IsLayerInRange (is_numbered id layer) _ _
      (record { x = origin; y = origin; crop = r.crop; shown = r.shown; orient = r.orient })
      (record { x = r.x; y = r.y; crop = r.crop; shown = r.shown; orient = r.orient })

  of_kind : (layer : Layer) → IsOfKind layer → IsOfKind (cut_layer kept id layer)
  of_kind layer k = either IsOfKind (is_numbered id layer) _ _ (record { colour = k.colour; shown = k.shown }) (record { colour = k.colour; shown = k.shown })

  number-cut : (layer : Layer) → (cut_layer kept id layer).number ≡ layer.number
  number-cut layer = by_test (is_numbered id layer)
    where
      by_test : (b : Bool) → (if b then record layer { parent = parent.Root; position = (pos 0, pos 0); relative = None } else record layer { relative = relative_in kept layer.relative }).number ≡ layer.number
      by_test true = refl
      by_test false = refl

  relative-was : (o : Option LayerId) (other : LayerId) → relative_in kept o ≡ Some other → o ≡ Some other
  relative-was None other e = cc
  relative-was (Some s) other e = by_test (has_layer kept s) e
    where
      by_test : (b : Bool) → (if b then Some s else None) ≡ Some other → Some s ≡ Some other
      by_test true e = e
      by_test false e = cc

  relative-there : (o : Option LayerId) → IfSome (relative_in kept o) (λ other. has_layer (map (cut_layer kept id) kept) other ≡ true)
  relative-there None = tt
  relative-there (Some s) = by_test (has_layer kept s) refl
    where
      by_test : (b : Bool) → has_layer kept s ≡ b → IfSome (if b then Some s else None) (λ other. has_layer (map (cut_layer kept id) kept) other ≡ true)
      by_test true e = has_layer-map (cut_layer kept id) kept s number-cut ∙ e
      by_test false e = tt

  IsRanked-cut : (rank : ℕ → ℕ) (layer : Layer) → IsRanked rank layer → IsRanked rank (cut_layer kept id layer)
  IsRanked-cut rank layer r = by_test (is_numbered id layer)
    where
      by_test : (b : Bool) → IsRanked rank (if b then record layer { parent = parent.Root; position = (pos 0, pos 0); relative = None } else record layer { relative = relative_in kept layer.relative })
      by_test true = record { parent = λ s e. cc; relative = λ s e. cc }
      by_test false = record { parent = r.parent; relative = λ s e. r.relative s (relative-was layer.relative s e) }

  IsTied-cut : (layer : Layer) → (is_numbered id layer ≡ false → has_parent kept layer.parent ≡ true) → IsTied (map (cut_layer kept id) kept) (cut_layer kept id layer)
  IsTied-cut layer hangs = by_test (is_numbered id layer) refl
    where
      by_test : (b : Bool) → is_numbered id layer ≡ b → IsTied (map (cut_layer kept id) kept) (if b then record layer { parent = parent.Root; position = (pos 0, pos 0); relative = None } else record layer { relative = relative_in kept layer.relative })
      by_test true e = record { parent = refl; relative = tt }
      by_test false e = record { parent = has_parent-map (cut_layer kept id) kept layer.parent number-cut (hangs e); relative = relative-there layer.relative }

-- what a layer below another one hangs from is below it too, or is it
hangs_below : (most : ℕ) (tree : List Layer) (id : LayerId) → IsTree most tree → (k : ℕ) (d : Layer) → k < length tree → is_under tree id (get_or tree k d) ≡ true → is_numbered id (get_or tree k d) ≡ false → has_parent (under tree id) (get_or tree k d).parent ≡ true
hangs_below most tree id t k d inside below other = by_parent layer.parent above
  where
    layer : Layer
    layer = get_or tree k d

    is : ancestry tree (get_or tree k d) ≡ get_or tree k d ∷ and_above (ancestry tree) (parent_layer tree (get_or tree k d).parent)
    is = ancestry-is tree (get_or tree k d) (length tree) (Outranks-tree tree k (get_or tree k d) t.distinct t.tied t.no_cycle (slice_get-get_or tree k d inside))

    above : list_any (is_numbered id) (and_above (ancestry tree) (parent_layer tree (get_or tree k d).parent)) ≡ true
    above = rw (is, other) at below

    by_layer : (s : LayerId) (o : Option Layer) → layer_of tree s ≡ o → list_any (is_numbered id) (and_above (ancestry tree) o) ≡ true → has_layer (under tree id) s ≡ true
    by_layer s None e h = cc
    by_layer s (Some m) e h = found_picked (is_under tree id) tree s m e h

    by_parent : (p : Parent) → list_any (is_numbered id) (and_above (ancestry tree) (parent_layer tree p)) ≡ true → has_parent (under tree id) p ≡ true
    by_parent parent.Root h = refl
    by_parent (parent.Layer s) h = by_layer s (layer_of tree s) refl h
    by_parent parent.Nothing h = refl

pub IsTree-cut : (most : ℕ) (tree : List Layer) (id : LayerId) → IsTree most tree → IsTree 9216 (cut tree id)
IsTree-cut most tree id t = record {
  limit = omega arith;
  few = few;
  numbered = each (λ l. 0 < l.number.0) (numbered kept id) t.numbered;
  distinct = IsDistinct-map (cut_layer kept id) kept (number-cut kept id) (IsDistinct-filter (is_under tree id) tree t.distinct);
  tied = All-map (IsTied (cut tree id)) (cut_layer kept id) kept (λ k d inside. IsTied-cut kept id (get_or kept k d) (hangs k d inside (filter_passes (is_under tree id) tree k d inside)));
  no_cycle = record { rank = t.no_cycle.rank; ranked = each (IsRanked t.no_cycle.rank) (IsRanked-cut kept id t.no_cycle.rank) t.no_cycle.ranked };
  in_range = each IsLayerInRange (in_range kept id) t.in_range;
  of_kind = each IsOfKind (of_kind kept id) t.of_kind;
}
  where
    kept : List Layer
    kept = under tree id

    few : length (map (cut_layer (under tree id) id) (under tree id)) ≤ 9216
    few =
        let limit = t.limit in
        let some = t.few in
        omega (arith, length-map (under tree id) (cut_layer (under tree id) id), under-few tree id, limit, some)

    each : (P : Layer → Type 0) → ((layer : Layer) → P layer → P (cut_layer (under tree id) id layer)) → All P tree → All P (map (cut_layer (under tree id) id) (under tree id))
    each P keeps all = All-map P (cut_layer (under tree id) id) (under tree id) (All-weaker P (λ (l : Layer). P (cut_layer (under tree id) id l)) keeps (under tree id) (All-filter (is_under tree id) P tree all))

    hangs : All (λ (l : Layer). is_under tree id l ≡ true → is_numbered id l ≡ false → has_parent (under tree id) l.parent ≡ true) (under tree id)
    hangs = All-filter (is_under tree id) (λ (l : Layer). is_under tree id l ≡ true → is_numbered id l ≡ false → has_parent (under tree id) l.parent ≡ true) tree (hangs_below most tree id t)
