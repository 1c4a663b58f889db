-- What every tree keeps where a layer hangs or is drawn elsewhere.
use Rattle.std.proofs.Common.{◌≡◌, ℕ, ◌<◌, Bool, true, false, List, length, Some, None, refl, ap, ◌∙◌, sym, subst, arith, inl, inr, length-set, ℤ}
use Rattle.std.specs.List.{All, find, slice_get, slice_set}
use Rattle.std.specs.Prelude.{◌==◌, eqb}
use Rattle.std.proofs.lemmas.Bool.{eqb-true, eq-eqb}
use Rattle.std.proofs.lemmas.List.{get_or-set_same}
use Rattle.std.proofs.lemmas.List.Elements.{All-set}
use Rattle.std.proofs.lemmas.List.Recursion.{found_set_other}
use Rattle.std.proofs.lemmas.Option.{get_or_from_slice_get, slice_get-get_or}
use Rattle.sf_base.specs.declared.ids.LayerId.{LayerId}
use Rattle.sf_layer.specs.declared.layer.Layer.{Layer}
use Rattle.sf_layer.specs.declared.parent.Parent.{Parent}
use Rattle.sf_layer.specs.declared.parent.Parent.TheVariants as parent
use Rattle.sf_tree.specs.Kept.{IsLayerInRange, IsOfKind, IsRanked, IsTied, IsTree}
use Rattle.sf_tree.specs.inner.Known.{IsBounded}
use Rattle.sf_tree.specs.Layers.{is_numbered, layer_of, index_of, has_layer, has_parent}
use Rattle.sf_tree.specs.Steps.{all_steps, reaches_itself, to_parent}
use Rattle.sf_tree.proofs.TreeKept.{IsTree-set, found_itself, index_of-set}
use Rattle.sf_tree.proofs.Lookups.{is_numbered-place, layer_of-place}
use Rattle.sf_tree.proofs.RankingChanges.{HasNoCycle-moved, StepsTo, in_last, not_under}
use Rattle.sf_tree.proofs.Places.{index_of_inside}
use Rattle.sf_tree.proofs.Ranks.{bounded_rank, is_there}

eqb_flip : (a b : ℕ) → eqb a b ≡ false → eqb b a ≡ false
eqb_flip a b e = by_test (eqb b a) refl
  where
    by_test : (t : Bool) → eqb b a ≡ t → eqb b a ≡ false
    by_test false p = p
    by_test true p = let clash : true ≡ false = sym (eq-eqb a b (sym (eqb-true b a p))) ∙ e in cc

-- a layer that steps to another one newly and does not reach itself
pub IsTree-stepping : (most : ℕ) (xs : List Layer) (id t : LayerId) (place : ℕ) (layer y : Layer) → IsTree most xs → index_of xs id ≡ Some place → slice_get xs place ≡ Some layer → y.number ≡ layer.number → IsTied xs y → IsLayerInRange y → IsOfKind y → StepsTo layer y t → has_layer xs t ≡ true → reaches_itself all_steps (slice_set xs place y) id ≡ false → IsTree most (slice_set xs place y)
unfolding reaches_itself
IsTree-stepping most xs id t place layer y tree e at number tied range of_kind steps there clear =
    IsTree-set most xs place layer y tree inside at number tied range of_kind
    (HasNoCycle-moved xs low.0 id t place layer y (found_itself xs tree.distinct) low.1 (layer_of-place xs id place e ∙ at) number steps
    (not_under xs next low.0 id t y (length-set xs place y) (omega (arith, inside)) (low.1.bounded t target.0 target.1) here steps.there elsewhere clear))
  where
    next : List Layer
    next = slice_set xs place y

    inside : place < length xs
    inside = index_of_inside xs id place e

    low : (rank : ℕ → ℕ) × IsBounded xs rank
    low = bounded_rank xs tree.tied tree.no_cycle

    target : (layer : Layer) × (layer_of xs t ≡ Some layer)
    target = is_there xs t there

    here : layer_of next id ≡ Some y
    here = layer_of-place next id place (index_of-set xs place layer y at number id ∙ e) ∙ (slice_get-get_or next place y (rw (length-set xs place y) inside) ∙ ap Some (get_or-set_same xs place y y inside))

    is_id : is_numbered id layer ≡ true
    is_id = is_numbered-place xs id place layer e at

    not_numbered : (a : LayerId) → (a.0 == id.0) ≡ false → is_numbered a layer ≡ false
    not_numbered a other = subst (λ (n : ℕ). (n == a.0) ≡ false) (sym (eqb-true layer.number.0 id.0 is_id)) (eqb_flip a.0 id.0 other)

    elsewhere : (a : LayerId) → (a.0 == id.0) ≡ false → layer_of next a ≡ layer_of xs a
    elsewhere a other = found_set_other (find (is_numbered a)) (is_numbered a) (λ x. Some x) None refl (λ x xs. refl) xs place y layer (rw (get_or_from_slice_get xs place layer layer at) (not_numbered a other)) (rw number (not_numbered a other))

at_place : (P : Layer → Type 0) (xs : List Layer) (place : ℕ) (layer : Layer) → All P xs → place < length xs → slice_get xs place ≡ Some layer → P layer
at_place P xs place layer all inside at = subst P (get_or_from_slice_get xs place layer layer at) (all place layer inside)

pub IsTree-reparented : (most : ℕ) (xs : List Layer) (id : LayerId) (p : Parent) (place : ℕ) (layer : Layer) → IsTree most xs → index_of xs id ≡ Some place → slice_get xs place ≡ Some layer → has_parent xs p ≡ true → reaches_itself all_steps (slice_set xs place (record layer { parent = p })) id ≡ false → IsTree most (slice_set xs place (record layer { parent = p }))
IsTree-reparented most xs id p place layer tree e at there clear = by_parent p refl
  where
    inside : place < length xs
    inside = index_of_inside xs id place e

    y : Layer
    y = record layer { parent = p }

    tied : IsTied xs y
    tied = record { parent = there; relative = (at_place (IsTied xs) xs place layer tree.tied inside at).relative }

    range : IsLayerInRange y
    range = let r = at_place IsLayerInRange xs place layer tree.in_range inside at in record { x = r.x; y = r.y; crop = r.crop; shown = r.shown; orient = r.orient }

    of_kind : IsOfKind y
    of_kind = let r = at_place IsOfKind xs place layer tree.of_kind inside at in record { colour = r.colour; shown = r.shown }

    ranked : IsRanked tree.no_cycle.rank layer
    ranked = at_place (IsRanked tree.no_cycle.rank) xs place layer tree.no_cycle.ranked inside at

    loose : ((s : LayerId) → p ≡ parent.Layer s → ⊥) → IsTree most (slice_set xs place y)
    loose none = IsTree-set most xs place layer y tree inside at refl tied range of_kind (record { rank = tree.no_cycle.rank; ranked = All-set (IsRanked tree.no_cycle.rank) xs place y (record { parent = λ s h. absurd (none s h); relative = λ s h. ranked.relative s h }) tree.no_cycle.ranked })

    by_parent : (q : Parent) → p ≡ q → IsTree most (slice_set xs place y)
    by_parent parent.Root q = loose (λ s h. cc)
    by_parent parent.Nothing q = loose (λ s h. cc)
    by_parent (parent.Layer t) q =
        IsTree-stepping most xs id t place layer y tree e at refl tied range of_kind
        (record {
          parent = λ s h. inr (let same : parent.Layer s ≡ parent.Layer t = sym h ∙ q in cc);
          relative = λ s h. inl h;
          there = rw (q, eq-eqb t.0 t.0 refl) refl;
        })
        (rw q at there) clear

pub IsTree-related : (most : ℕ) (xs : List Layer) (id t : LayerId) (z : ℤ) (place : ℕ) (layer : Layer) → IsTree most xs → index_of xs id ≡ Some place → slice_get xs place ≡ Some layer → has_layer xs t ≡ true → reaches_itself all_steps (slice_set xs place (record layer { relative = Some t; z = z })) id ≡ false → IsTree most (slice_set xs place (record layer { relative = Some t; z = z }))
IsTree-related most xs id t z place layer tree e at there clear =
    IsTree-stepping most xs id t place layer y tree e at refl
    (record { parent = (at_place (IsTied xs) xs place layer tree.tied inside at).parent; relative = there })
    (let r = at_place IsLayerInRange xs place layer tree.in_range inside at in record { x = r.x; y = r.y; crop = r.crop; shown = r.shown; orient = r.orient })
    (let r = at_place IsOfKind xs place layer tree.of_kind inside at in record { colour = r.colour; shown = r.shown })
    (record {
      parent = λ s h. inl h;
      relative = λ s h. inr (let same : Some s ≡ Some t = sym h in cc);
      there = in_last (to_parent layer.parent) t;
    })
    there clear
  where
    inside : place < length xs
    inside = index_of_inside xs id place e

    y : Layer
    y = record layer { relative = Some t; z = z }
