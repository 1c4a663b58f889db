-- What every tree keeps, whatever operations are done.
use Rattle.std.proofs.Common.{◌≡◌, ℕ, ◌+◌, ◌<◌, Bool, true, false, not, ◌&&◌, List, [], ◌∷◌, ◌++◌, length, Option, Some, None, is_some, Result, Ok, Err, refl, ap, ◌∙◌, sym, subst, arith, ℤ}
use Rattle.std.specs.List.{All, slice_get, slice_set}
use Rattle.std.specs.Prelude.{nat_le, if◌then◌else◌, OnOk, OnErr, IfErr}
use Rattle.sf_tree.specs.declared.apply.ApplyFault.{ApplyFault}
use Rattle.sf_tree.specs.declared.apply.ApplyFault.TheVariants as fault
use Rattle.sf_tree.specs.Answers.{IsRejection}
use Rattle.sf_tree.specs.Trees.{TreeOf}
use Rattle.std.proofs.lemmas.List.Elements.{All-head, All-tail}
use Rattle.sf_base.specs.declared.ids.LayerId.{LayerId}
use Rattle.sf_layer.specs.Ranges.{IsInRange, IsOperation}
use Rattle.sf_layer.specs.declared.kind.Kind.{Kind}
use Rattle.sf_layer.specs.declared.layer.Layer.{Layer}
use Rattle.sf_layer.specs.declared.op.Op.{Op}
use Rattle.sf_layer.specs.declared.op.Op.TheVariants as op
use Rattle.sf_layer.specs.declared.parent.Parent.{Parent}
use Rattle.sf_tree.specs.declared.reject.Reject.{Reject}
use Rattle.sf_tree.specs.declared.reject.Reject.TheVariants as reject
use Rattle.sf_tree.specs.Changes.{after, after_from, changed, created, destroyed, edited, edited_layer, fits_kind, made_relative, new_layer, Rejection, reparented, then_after, with_layer, with_layers, without}
use Rattle.sf_tree.specs.Kept.{IsTree}
use Rattle.sf_tree.specs.Layers.{layer_of, index_of, has_layer, has_parent}
use Rattle.sf_tree.specs.Steps.{all_steps, parent_steps, reaches_itself}
use Rattle.sf_tree.proofs.TreeKept.{IsTree-created, IsTree-destroyed, IsTree-edited}
use Rattle.sf_tree.proofs.KeepingMoves.{IsTree-reparented, IsTree-related}
use Rattle.sf_tree.proofs.Lookups.{has_layer-place, layer_of-place, with_layer-place}
use Rattle.sf_tree.proofs.Places.{index_of_inside}

-- a layer that is in the tree stands at a place
record IsPlaced (xs : List Layer) (id : LayerId) : Type 0 where
  place : ℕ
  layer : Layer
  found : index_of xs id ≡ Some place
  at : slice_get xs place ≡ Some layer

placed : (xs : List Layer) (id : LayerId) → has_layer xs id ≡ true → IsPlaced xs id
placed xs id h = by_place (index_of xs id) refl
  where
    by_place : (o : Option ℕ) → index_of xs id ≡ o → IsPlaced xs id
    by_place None e = let clash : true ≡ false = sym h ∙ (has_layer-place xs id ∙ ap is_some e) in cc
    by_place (Some place) e = by_layer (layer_of xs id) refl
      where
        by_layer : (o : Option Layer) → layer_of xs id ≡ o → IsPlaced xs id
        by_layer None f = let clash : true ≡ false = sym h ∙ ap is_some f in cc
        by_layer (Some layer) f = record { place = place; layer = layer; found = e; at = sym (layer_of-place xs id place e) ∙ f }

created-keeps : (most : ℕ) (xs next : List Layer) (id : LayerId) (kind : Kind) (p : Parent) → created most xs id kind p ≡ Ok next → IsTree most xs → 0 < id.0 → IsTree most next
unfolding created
created-keeps most xs next id kind p e t one = by_tests (has_parent xs p) (has_layer xs id) (nat_le most (length xs)) refl refl refl e
  where
    by_tests : (a b c : Bool) → has_parent xs p ≡ a → has_layer xs id ≡ b → nat_le most (length xs) ≡ c → (if not a then Err reject.UnknownLayer else if b then Err reject.LayerExists else if c then Err reject.TooManyLayers else Ok (xs ++ new_layer id kind p ∷ [])) ≡ Ok next → IsTree most next
    by_tests false b c pa pb pc e = cc
    by_tests true true c pa pb pc e = cc
    by_tests true false true pa pb pc e = cc
    by_tests true false false pa pb pc e =
        let same : xs ++ new_layer id kind p ∷ [] ≡ next = cc in
        subst (IsTree most) same (IsTree-created most xs id kind p t (grind arith) one pb pa)

destroyed-keeps : (most : ℕ) (xs next : List Layer) (id : LayerId) → destroyed xs id ≡ Ok next → IsTree most xs → IsTree most next
unfolding destroyed
destroyed-keeps most xs next id e t = by_test (has_layer xs id) e
  where
    by_test : (b : Bool) → (if b then Ok (without id xs) else Err reject.UnknownLayer) ≡ Ok next → IsTree most next
    by_test true e = let same : without id xs ≡ next = cc in subst (IsTree most) same (IsTree-destroyed most xs id t)
    by_test false e = cc

reparented-keeps : (most : ℕ) (xs next : List Layer) (id : LayerId) (p : Parent) → reparented xs id p ≡ Ok next → IsTree most xs → IsTree most next
unfolding reparented
reparented-keeps most xs next id p e t = by_tests (has_layer xs id) (has_parent xs p) (reaches_itself parent_steps moved id) (reaches_itself all_steps moved id) refl refl refl e
  where
    moved : List Layer
    moved = with_layer id (λ layer. record layer { parent = p }) xs

    by_tests : (a b c d : Bool) → has_layer xs id ≡ a → has_parent xs p ≡ b → reaches_itself all_steps moved id ≡ d → (if not (a && b) then Err reject.UnknownLayer else if c then Err reject.ParentCycle else if d then Err reject.DrawCycle else Ok moved) ≡ Ok next → IsTree most next
    by_tests false b c d pa pb pd e = cc
    by_tests true false c d pa pb pd e = cc
    by_tests true true true d pa pb pd e = cc
    by_tests true true false true pa pb pd e = cc
    by_tests true true false false pa pb pd e =
        let same : moved ≡ next = cc in
        let here : IsPlaced xs id = placed xs id pa in
        let in_place : moved ≡ slice_set xs here.place (record here.layer { parent = p }) = with_layer-place xs id (λ layer. record layer { parent = p }) here.place here.layer t.distinct here.found here.at in
        subst (IsTree most) (sym in_place ∙ same) (IsTree-reparented most xs id p here.place here.layer t here.found here.at pb (rw in_place at pd))

related-keeps : (most : ℕ) (xs next : List Layer) (id other : LayerId) (z : ℤ) → made_relative xs id other z ≡ Ok next → IsTree most xs → IsTree most next
unfolding made_relative
related-keeps most xs next id other z e t = by_tests (has_layer xs id) (has_layer xs other) (reaches_itself all_steps moved id) refl refl refl e
  where
    moved : List Layer
    moved = with_layer id (λ layer. record layer { relative = Some other; z = z }) xs

    by_tests : (a b d : Bool) → has_layer xs id ≡ a → has_layer xs other ≡ b → reaches_itself all_steps moved id ≡ d → (if not (a && b) then Err reject.UnknownLayer else if d then Err reject.DrawCycle else Ok moved) ≡ Ok next → IsTree most next
    by_tests false b d pa pb pd e = cc
    by_tests true false d pa pb pd e = cc
    by_tests true true true pa pb pd e = cc
    by_tests true true false pa pb pd e =
        let same : moved ≡ next = cc in
        let here : IsPlaced xs id = placed xs id pa in
        let in_place : moved ≡ slice_set xs here.place (record here.layer { relative = Some other; z = z }) = with_layer-place xs id (λ layer. record layer { relative = Some other; z = z }) here.place here.layer t.distinct here.found here.at in
        subst (IsTree most) (sym in_place ∙ same) (IsTree-related most xs id other z here.place here.layer t here.found here.at pb (rw in_place at pd))

edited-keeps : (most : ℕ) (xs next : List Layer) (id : LayerId) (operation : Op) → edited_layer xs id operation (layer_of xs id) ≡ Ok next → IsTree most xs → IsInRange operation → IsTree most next
edited-keeps most xs next id operation e t o = by_layer (layer_of xs id) refl e
  where
    by_layer : (found : Option Layer) → layer_of xs id ≡ found → edited_layer xs id operation found ≡ Ok next → IsTree most next
    by_layer None f e = cc
    by_layer (Some layer) f e = by_test (fits_kind operation layer.kind) refl e
      where
        by_test : (b : Bool) → fits_kind operation layer.kind ≡ b → (if b then Ok (with_layer id (edited operation) xs) else Err reject.WrongKind) ≡ Ok next → IsTree most next
        by_test false fits e = cc
        by_test true fits e =
            let same : with_layer id (edited operation) xs ≡ next = cc in
            let here : IsPlaced xs id = placed xs id (ap is_some f) in
            let both : Some layer ≡ Some here.layer = sym f ∙ (layer_of-place xs id here.place here.found ∙ here.at) in
            let one : layer ≡ here.layer = cc in
            let in_place : with_layer id (edited operation) xs ≡ slice_set xs here.place (edited operation here.layer) = with_layer-place xs id (edited operation) here.place here.layer t.distinct here.found here.at in
            subst (IsTree most) (sym in_place ∙ same) (IsTree-edited most xs here.place here.layer operation t (index_of_inside xs id here.place here.found) here.at o (subst (λ (l : Layer). fits_kind operation l.kind ≡ true) one fits))

changed-keeps : (most : ℕ) (xs next : List Layer) (id : LayerId) (operation : Op) → changed most xs id operation ≡ Ok next → IsTree most xs → 0 < id.0 → IsInRange operation → IsTree most next
changed-keeps most xs next id (op.Create kind p) e t one o = created-keeps most xs next id kind p e t one
changed-keeps most xs next id op.Destroy e t one o = destroyed-keeps most xs next id e t
changed-keeps most xs next id (op.Reparent p) e t one o = reparented-keeps most xs next id p e t
changed-keeps most xs next id (op.Relative other z) e t one o = related-keeps most xs next id other z e t
changed-keeps most xs next id (op.Z z) e t one o = edited-keeps most xs next id (op.Z z) e t o
changed-keeps most xs next id (op.Position x y) e t one o = edited-keeps most xs next id (op.Position x y) e t o
changed-keeps most xs next id (op.Crop crop) e t one o = edited-keeps most xs next id (op.Crop crop) e t o
changed-keeps most xs next id (op.Alpha alpha) e t one o = edited-keeps most xs next id (op.Alpha alpha) e t o
changed-keeps most xs next id (op.Hidden hidden) e t one o = edited-keeps most xs next id (op.Hidden hidden) e t o
changed-keeps most xs next id (op.Opaque opaque) e t one o = edited-keeps most xs next id (op.Opaque opaque) e t o
changed-keeps most xs next id (op.Colour colour) e t one o = edited-keeps most xs next id (op.Colour colour) e t o
changed-keeps most xs next id (op.Backpressure backpressure) e t one o = edited-keeps most xs next id (op.Backpressure backpressure) e t o
changed-keeps most xs next id (op.Show shown) e t one o = edited-keeps most xs next id (op.Show shown) e t o
changed-keeps most xs next id (op.Orient orient) e t one o = edited-keeps most xs next id (op.Orient orient) e t o

after_from-keeps : (most : ℕ) (number : ℕ) (xs next : List Layer) (operations : List (LayerId × Op)) → after_from most number xs operations ≡ Ok next → IsTree most xs → All IsOperation operations → IsTree most next
after_from-keeps most number xs next [] e t all = let same : xs ≡ next = cc in subst (IsTree most) same t
after_from-keeps most number xs next (operation ∷ operations) e t all =
    by_change (changed most xs operation.0 operation.1) refl e (λ mid e t. after_from-keeps most (number + 1) mid next operations e t (All-tail IsOperation operation operations all))
  where
    one : IsOperation operation
    one = All-head IsOperation operation operations all

    by_change : (change : Result (List Layer) Reject) → changed most xs operation.0 operation.1 ≡ change → then_after number change (λ mid. after_from most (number + 1) mid operations) ≡ Ok next → ((mid : List Layer) → after_from most (number + 1) mid operations ≡ Ok next → IsTree most mid → IsTree most next) → IsTree most next
    by_change (Ok mid) c e ih = ih mid e (changed-keeps most xs mid operation.0 operation.1 c t one.0 one.1)
    by_change (Err cause) c e ih = cc

-- operations in their ranges keep what every tree keeps
pub answer-keeps : (result : Result (Unit {0}) ApplyFault) (most : ℕ) (xs next : List Layer) (operations : List (LayerId × Op)) → OnOk result (after_from most 1 xs operations ≡ Ok next) → OnErr result (next ≡ xs) → IsTree most xs → All IsOperation operations → IsTree most next
answer-keeps (Ok _) most xs next operations ok err t all = after_from-keeps most 1 xs next operations ok t all
answer-keeps (Err _) most xs next operations ok err t all = subst (IsTree most) (sym err) t

-- what was done with the layers was done with the tree
pub answer-ok : (result : Result (Unit {0}) ApplyFault) (tree : TreeOf) (next : List Layer) (operations : List (LayerId × Op)) → OnOk result (after_from tree.most 1 tree.layers operations ≡ Ok next) → OnOk result (after tree operations ≡ Ok (record tree { layers = next }))
answer-ok (Ok _) tree next operations ok = rw ok refl
answer-ok (Err _) tree next operations ok = tt

pub answer-rejected : (result : Result (Unit {0}) ApplyFault) (tree : TreeOf) (operations : List (LayerId × Op)) → IfErr result (IsRejection (after_from tree.most 1 tree.layers operations)) → IfErr result (IsRejection (after tree operations))
answer-rejected (Ok _) tree operations rejected = tt
answer-rejected (Err (fault.Reject cause number)) tree operations rejected = rw rejected refl
answer-rejected (Err fault.NoMemory) tree operations rejected = tt

-- what was done with a tree was done with its layers, and its limit stayed
pub after-ok : (tree next : TreeOf) (operations : List (LayerId × Op)) → after tree operations ≡ Ok next → (after_from tree.most 1 tree.layers operations ≡ Ok next.layers) × (next.most ≡ tree.most)
after-ok tree next operations e = by_layers (after_from tree.most 1 tree.layers operations) e
  where
    by_layers : (r : Result (List Layer) Rejection) → with_layers tree r ≡ Ok next → (r ≡ Ok next.layers) × (next.most ≡ tree.most)
    by_layers (Ok layers) e = let same : (record tree { layers = layers }) ≡ next = cc in (ap (λ (t : TreeOf). Ok t.layers) same, sym (ap (λ (t : TreeOf). t.most) same))
    by_layers (Err rejection) e = cc

pub after-err : (tree : TreeOf) (rejection : Rejection) (operations : List (LayerId × Op)) → after tree operations ≡ Err rejection → after_from tree.most 1 tree.layers operations ≡ Err rejection
after-err tree rejection operations e = by_layers (after_from tree.most 1 tree.layers operations) e
  where
    by_layers : (r : Result (List Layer) Rejection) → with_layers tree r ≡ Err rejection → r ≡ Err rejection
    by_layers (Ok layers) e = cc
    by_layers (Err other) e = let same : other ≡ rejection = cc in ap Err same
