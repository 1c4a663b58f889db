-- What every tree keeps, operation by operation.
use Rattle.std.proofs.Common.{◌≡◌, ℕ, ◌+◌, ◌<◌, ◌≤◌, Bool, true, false, not, cond, List, [], ◌∷◌, ◌++◌, length, get_or, map, Option, Some, None, is_some, refl, ap, ◌∙◌, sym, subst, arith, inl, inr, ◌⊎◌, length-append, length-set, pos, rules}
use Rattle.std.specs.List.{All, AllPairs, filter, find, slice_get, slice_set}
use Rattle.std.specs.Prelude.{◌==◌, eqb, if◌then◌else◌, IfSome}
use Rattle.std.proofs.lemmas.Bool.{eqb-true, eq-eqb, lt-ltb}
use Rattle.std.proofs.lemmas.List.{length-map, get_or-map}
use Rattle.std.proofs.lemmas.List.Elements.{All-filter, All-map, All-push, All-set}
use Rattle.std.proofs.lemmas.List.Folds.{position_or_len-set}
use Rattle.std.proofs.lemmas.List.Kept.{AllPairs-filter}
use Rattle.std.proofs.lemmas.List.Quantifiers.{position-Some}
use Rattle.std.proofs.lemmas.List.Sums.{length-filter, count_by-le-length, position_or_len_is}
use Rattle.std.proofs.lemmas.Option.{get_or_from_slice_get, slice_get-get_or}
use Rattle.sf_base.specs.declared.ids.LayerId.{LayerId}
use Rattle.sf_layer.specs.Ranges.{IsInRange, IsCoordinate}
use Rattle.sf_layer.specs.declared.kind.Kind.{Kind}
use Rattle.sf_layer.specs.declared.kind.Kind.TheVariants as kind
use Rattle.sf_layer.specs.declared.layer.Layer.{Layer}
use Rattle.sf_layer.specs.declared.op.Op.{Op}
use Rattle.sf_layer.specs.declared.op.Op.TheVariants as op
use Rattle.sf_layer.specs.declared.parent.Parent.{Parent}
use Rattle.sf_layer.specs.declared.parent.Parent.TheVariants as parent
use Rattle.sf_tree.specs.Changes.{new_layer, without, without_steps_to, parent_without, relative_without, edited, fits_kind}
use Rattle.sf_tree.specs.Kept.{HasNoCycle, IsDistinct, IsLayerInRange, IsOfKind, IsRanked, IsTied, IsTree}
use Rattle.sf_tree.specs.inner.Known.{IsBounded}
use Rattle.sf_tree.specs.Layers.{is_numbered, layer_of, index_of, has_layer, has_parent}
use Rattle.sf_tree.proofs.Edits.{edited_number}
use Rattle.sf_tree.proofs.Lookups.{has_layer-place, layer_of-place, index_of-absent}
use Rattle.sf_tree.proofs.Places.{IsDistinct-push, IsDistinct-set, index_of_push}
use Rattle.sf_tree.proofs.Ranks.{bounded_rank}

pub IsTree_nil : (most : ℕ) → most ≤ 9216 → IsTree most []
IsTree_nil most limit = record {
  limit = limit;
  few = omega arith;
  numbered = λ k d h. absurd (omega arith);
  distinct = λ k d h. absurd (omega arith);
  tied = λ k d h. absurd (omega arith);
  no_cycle = record { rank = λ n. 0; ranked = λ k d h. absurd (omega arith) };
  in_range = λ k d h. absurd (omega arith);
  of_kind = λ k d h. absurd (omega arith);
}

-- each layer is found by its number
pub found_itself : (tree : List Layer) → IsDistinct tree → (k : ℕ) (d : Layer) → k < length tree → layer_of tree (get_or tree k d).number ≡ Some (get_or tree k d)
found_itself tree distinct k d h = layer_of-place tree (get_or tree k d).number k (distinct k d h) ∙ slice_get-get_or tree k d h

-- what layers are tied to stays where all layers stay
pub IsTied-stays : (old new : List Layer) (layer : Layer) → ((id : LayerId) → has_layer old id ≡ true → has_layer new id ≡ true) → IsTied old layer → IsTied new layer
IsTied-stays old new layer stays t = record { parent = by_parent layer.parent t.parent; relative = by_relative layer.relative t.relative }
  where
    by_parent : (p : Parent) → has_parent old p ≡ true → has_parent new p ≡ true
    by_parent parent.Root h = refl
    by_parent (parent.Layer id) h = stays id h
    by_parent parent.Nothing h = refl

    by_relative : (o : Option LayerId) → IfSome o (λ id. has_layer old id ≡ true) → IfSome o (λ id. has_layer new id ≡ true)
    by_relative None h = tt
    by_relative (Some id) h = stays id h

-- a layer was added: the others are still there
has_layer-push : (xs : List Layer) (y : Layer) → index_of xs y.number ≡ None → (id : LayerId) → has_layer xs id ≡ true → has_layer (xs ++ y ∷ []) id ≡ true
has_layer-push xs y new id h = has_layer-place (xs ++ y ∷ []) id ∙ (rw (index_of_push xs y new id) (by_test (eqb y.number.0 id.0)))
  where
    was : is_some (index_of xs id) ≡ true
    was = sym (has_layer-place xs id) ∙ h

    by_test : (b : Bool) → is_some (cond b (Some (length xs)) (index_of xs id)) ≡ true
    by_test true = refl
    by_test false = was

-- a number that is in the tree is not a new one
other_than_new : (xs : List Layer) (id new : LayerId) → has_layer xs id ≡ true → has_layer xs new ≡ false → eqb id.0 new.0 ≡ false
other_than_new xs id new h out = by_test (eqb id.0 new.0) refl
  where
    by_test : (b : Bool) → eqb id.0 new.0 ≡ b → eqb id.0 new.0 ≡ false
    by_test false e = e
    by_test true e =
        let there : has_layer xs new ≡ true = subst (λ (n : ℕ). has_layer xs (record { 0 = n }) ≡ true) (eqb-true id.0 new.0 e) h in
        let clash : true ≡ false = sym there ∙ out in cc

-- `create`
pub IsTree-created : (most : ℕ) (xs : List Layer) (id : LayerId) (kind : Kind) (p : Parent) → IsTree most xs → length xs < most → 0 < id.0 → has_layer xs id ≡ false → has_parent xs p ≡ true → IsTree most (xs ++ new_layer id kind p ∷ [])
IsTree-created most xs id kind p t room one out there = record {
  limit = t.limit;
  few = rw (length-append xs (y ∷ [])) (omega arith);
  numbered = All-push (λ layer. 0 < layer.number.0) xs y t.numbered one;
  distinct = IsDistinct-push xs y t.distinct new;
  tied = All-push (IsTied (xs ++ y ∷ [])) xs y (λ k d h. IsTied-stays xs (xs ++ y ∷ []) (get_or xs k d) (has_layer-push xs y new) (t.tied k d h)) (IsTied-stays xs (xs ++ y ∷ []) y (has_layer-push xs y new) (record { parent = there; relative = tt }));
  no_cycle = record { rank = up; ranked = All-push (IsRanked up) xs y olds (record { parent = λ s e. above s (rw e at there); relative = λ s e. cc }) };
  in_range = All-push IsLayerInRange xs y t.in_range (record { x = origin; y = origin; crop = tt; shown = tt; orient = omega arith });
  of_kind = All-push IsOfKind xs y t.of_kind (record { colour = λ h. refl; shown = λ h. refl });
}
  where
    y : Layer
    y = new_layer id kind p

    new : index_of xs id ≡ None
    new = index_of-absent xs id out

    origin : IsCoordinate (pos 0)
    origin = record { low = search rules; high = search rules }

    low : (rank : ℕ → ℕ) × IsBounded xs rank
    low = bounded_rank xs t.tied t.no_cycle

    up : ℕ → ℕ
    up n = cond (eqb n id.0) (length xs + 1) (low.0 n)

    at_old : (s : LayerId) → has_layer xs s ≡ true → up s.0 ≡ low.0 s.0
    at_old s h = rw (other_than_new xs s id h out) refl

    above : (s : LayerId) → has_layer xs s ≡ true → up s.0 < up id.0
    above s h = rw (at_old s h, eq-eqb id.0 id.0 refl) (omega (arith, low.1.most s.0))

    olds : All (IsRanked up) xs
    olds k d h = record {
      parent = λ s e. lower s (rw e at (t.tied k d h).parent) ((low.1.ranked k d h).parent s e);
      relative = λ s e. lower s (rw e at (t.tied k d h).relative) ((low.1.ranked k d h).relative s e);
    }
      where
        itself : has_layer xs (get_or xs k d).number ≡ true
        itself = rw (found_itself xs t.distinct k d h) refl

        lower : (s : LayerId) → has_layer xs s ≡ true → low.0 s.0 < low.0 (get_or xs k d).number.0 → up s.0 < up (get_or xs k d).number.0
        lower s there less = rw (at_old s there, at_old (get_or xs k d).number itself) less

-- a layer got another state in place
pub index_of-set : (xs : List Layer) (place : ℕ) (layer y : Layer) → slice_get xs place ≡ Some layer → y.number ≡ layer.number → (id : LayerId) → index_of (slice_set xs place y) id ≡ index_of xs id
index_of-set xs place layer y at number id =
    rw (position_or_len-set (is_numbered id) xs place y layer (ap (λ (n : LayerId). n.0 == id.0) number ∙ ap (is_numbered id) (sym (get_or_from_slice_get xs place layer layer at))), length-set xs place y) refl

pub IsTree-set : (most : ℕ) (xs : List Layer) (place : ℕ) (layer y : Layer) → IsTree most xs → place < length xs → slice_get xs place ≡ Some layer → y.number ≡ layer.number → IsTied xs y → IsLayerInRange y → IsOfKind y → HasNoCycle (slice_set xs place y) → IsTree most (slice_set xs place y)
IsTree-set most xs place layer y t inside at number tied range of_kind no_cycle = record {
  limit = t.limit;
  few = rw (length-set xs place y) t.few;
  numbered = All-set (λ layer. 0 < layer.number.0) xs place y (rw number (rw (get_or_from_slice_get xs place layer layer at) at (t.numbered place layer inside))) t.numbered;
  distinct = IsDistinct-set xs place y (ap (λ (l : Layer). l.number) (get_or_from_slice_get xs place layer y at) ∙ sym number) t.distinct;
  tied = All-set (IsTied next) xs place y (IsTied-stays xs next y stays tied) (λ k d h. IsTied-stays xs next (get_or xs k d) stays (t.tied k d h));
  no_cycle = no_cycle;
  in_range = All-set IsLayerInRange xs place y range t.in_range;
  of_kind = All-set IsOfKind xs place y of_kind t.of_kind;
}
  where
    next : List Layer
    next = slice_set xs place y

    same : (id : LayerId) → index_of next id ≡ index_of xs id
    same = index_of-set xs place layer y at number

    stays : (id : LayerId) → has_layer xs id ≡ true → has_layer next id ≡ true
    stays id h = has_layer-place next id ∙ (ap is_some (same id) ∙ (sym (has_layer-place xs id) ∙ h))

-- numbers are apart where no two layers have one, and the other way round
pub pairs_from_distinct : (xs : List Layer) → IsDistinct xs → AllPairs (λ a b. (a.number.0 == b.number.0) ≡ false) xs
pairs_from_distinct xs distinct i j d low inside = (position-Some (is_numbered (get_or xs j d).number) xs j d (distinct j d inside)).2 i low

distinct_from_pairs : (xs : List Layer) → AllPairs (λ a b. (a.number.0 == b.number.0) ≡ false) xs → IsDistinct xs
distinct_from_pairs xs pairs k d h =
    rw (position_or_len_is (is_numbered (get_or xs k d).number) xs k d (omega arith) (λ j low. pairs j k d low h) (λ low. eq-eqb _ _ refl), lt-ltb k (length xs) h) refl

-- some of the layers
pub IsDistinct-filter : (p : Layer → Bool) (xs : List Layer) → IsDistinct xs → IsDistinct (filter p xs)
IsDistinct-filter p xs distinct = distinct_from_pairs (filter p xs) (AllPairs-filter (λ (a b : Layer). (a.number.0 == b.number.0) ≡ false) p xs (pairs_from_distinct xs distinct))

-- the layers in other states
pub IsDistinct-map : (f : Layer → Layer) (xs : List Layer) → ((x : Layer) → (f x).number ≡ x.number) → IsDistinct xs → IsDistinct (map f xs)
IsDistinct-map f xs same distinct = distinct_from_pairs (map f xs) pairs
  where
    pairs : AllPairs (λ a b. (a.number.0 == b.number.0) ≡ false) (map f xs)
    pairs i j d low inside =
        let size : j < length xs = rw (length-map xs f) at inside in
        rw (get_or-map f xs i d d (omega arith), get_or-map f xs j d d size, same (get_or xs i d), same (get_or xs j d)) (pairs_from_distinct xs distinct i j d low size)

pub IsDistinct-without : (xs : List Layer) (id : LayerId) → IsDistinct xs → IsDistinct (without id xs)
IsDistinct-without xs id distinct = IsDistinct-map (without_steps_to id) (filter stays xs) (λ layer. refl) (IsDistinct-filter stays xs distinct)
  where
    stays : Layer → Bool
    stays layer = not (is_numbered id layer)

-- the others stay where one layer goes
has_layer-without : (xs : List Layer) (id other : LayerId) → (other.0 == id.0) ≡ false → has_layer xs other ≡ true → has_layer (without id xs) other ≡ true
has_layer-without [] id other apart h = cc
has_layer-without (x ∷ xs) id other apart h = by_tests (is_numbered id x) (is_numbered other x) refl refl h (has_layer-without xs id other apart)
  where
    by_tests : (a b : Bool) → is_numbered id x ≡ a → is_numbered other x ≡ b → is_some (cond b (Some x) (layer_of xs other)) ≡ true → (has_layer xs other ≡ true → has_layer (without id xs) other ≡ true) → is_some (find (is_numbered other) (map (without_steps_to id) (cond (not a) (x ∷ filter (λ layer. not (is_numbered id layer)) xs) (filter (λ layer. not (is_numbered id layer)) xs)))) ≡ true
    by_tests true true p q h ih =
        let one : x.number.0 ≡ id.0 = eqb-true x.number.0 id.0 p in
        let two : x.number.0 ≡ other.0 = eqb-true x.number.0 other.0 q in
        let clash : true ≡ false = sym (eq-eqb other.0 id.0 (sym two ∙ one)) ∙ apart in cc
    by_tests true false p q h ih = ih h
    by_tests false true p q h ih = rw q refl
    by_tests false false p q h ih = rw q (ih h)

IsTied-without : (xs : List Layer) (id : LayerId) (layer : Layer) → IsTied xs layer → IsTied (without id xs) (without_steps_to id layer)
IsTied-without xs id layer t = record { parent = by_parent layer.parent t.parent; relative = by_relative layer.relative t.relative }
  where
    by_parent : (p : Parent) → has_parent xs p ≡ true → has_parent (without id xs) (parent_without id p) ≡ true
    by_parent parent.Root h = refl
    by_parent parent.Nothing h = refl
    by_parent (parent.Layer other) h = by_test (other.0 == id.0) refl
      where
        by_test : (b : Bool) → (other.0 == id.0) ≡ b → has_parent (without id xs) (if b then parent.Nothing else parent.Layer other) ≡ true
        by_test true e = refl
        by_test false e = has_layer-without xs id other e h

    by_relative : (o : Option LayerId) → IfSome o (λ id. has_layer xs id ≡ true) → IfSome (relative_without id o) (λ other. has_layer (without id xs) other ≡ true)
    by_relative None h = tt
    by_relative (Some other) h = by_test (other.0 == id.0) refl
      where
        by_test : (b : Bool) → (other.0 == id.0) ≡ b → IfSome (if b then None else Some other) (λ other. has_layer (without id xs) other ≡ true)
        by_test true e = tt
        by_test false e = has_layer-without xs id other e h

IsRanked-without : (rank : ℕ → ℕ) (id : LayerId) (layer : Layer) → IsRanked rank layer → IsRanked rank (without_steps_to id layer)
IsRanked-without rank id layer r = record { parent = λ s e. by_parent layer.parent refl s e; relative = λ s e. by_relative layer.relative refl s e }
  where
    by_parent : (p : Parent) → layer.parent ≡ p → (s : LayerId) → parent_without id p ≡ parent.Layer s → rank s.0 < rank layer.number.0
    by_parent parent.Root e s h = cc
    by_parent parent.Nothing e s h = cc
    by_parent (parent.Layer other) e s h = by_test (other.0 == id.0) h
      where
        by_test : (b : Bool) → (if b then parent.Nothing else parent.Layer other) ≡ parent.Layer s → rank s.0 < rank layer.number.0
        by_test true h = cc
        by_test false h = r.parent s (e ∙ h)

    by_relative : (o : Option LayerId) → layer.relative ≡ o → (s : LayerId) → relative_without id o ≡ Some s → rank s.0 < rank layer.number.0
    by_relative None e s h = cc
    by_relative (Some other) e s h = by_test (other.0 == id.0) h
      where
        by_test : (b : Bool) → (if b then None else Some other) ≡ Some s → rank s.0 < rank layer.number.0
        by_test true h = cc
        by_test false h = r.relative s (e ∙ h)

-- `destroy`
pub IsTree-destroyed : (most : ℕ) (xs : List Layer) (id : LayerId) → IsTree most xs → IsTree most (without id xs)
IsTree-destroyed most xs id t = record {
  limit = t.limit;
  few = rw (length-map kept (without_steps_to id), length-filter stays xs) (omega (arith, count_by-le-length stays xs, t.few));
  numbered = All-map (λ layer. 0 < layer.number.0) (without_steps_to id) kept (All-filter stays (λ layer. 0 < layer.number.0) xs t.numbered);
  distinct = IsDistinct-without xs id t.distinct;
  tied = All-map (IsTied (without id xs)) (without_steps_to id) kept (All-filter stays (λ layer. IsTied (without id xs) (without_steps_to id layer)) xs (λ k d h. IsTied-without xs id (get_or xs k d) (t.tied k d h)));
  no_cycle = record { rank = t.no_cycle.rank; ranked = All-map (IsRanked t.no_cycle.rank) (without_steps_to id) kept (All-filter stays (λ layer. IsRanked t.no_cycle.rank (without_steps_to id layer)) xs (λ k d h. IsRanked-without t.no_cycle.rank id (get_or xs k d) (t.no_cycle.ranked k d h))) };
  in_range = All-map IsLayerInRange (without_steps_to id) kept (All-filter stays (λ layer. IsLayerInRange (without_steps_to id layer)) xs (λ k d h. let r = t.in_range k d h in record { x = r.x; y = r.y; crop = r.crop; shown = r.shown; orient = r.orient }));
  of_kind = All-map IsOfKind (without_steps_to id) kept (All-filter stays (λ layer. IsOfKind (without_steps_to id layer)) xs (λ k d h. let r = t.of_kind k d h in record { colour = r.colour; shown = r.shown }));
}
  where
    stays : Layer → Bool
    stays layer = not (is_numbered id layer)

    kept : List Layer
    kept = filter stays xs

-- an edit that moves and removes nothing
edited-kept : (operation : Op) (layer : Layer) → (edited operation layer).parent ≡ layer.parent
edited-kept (op.Create _ _) layer = refl
edited-kept op.Destroy layer = refl
edited-kept (op.Reparent _) layer = refl
edited-kept (op.Z _) layer = refl
edited-kept (op.Relative _ _) layer = refl
edited-kept (op.Position _ _) layer = refl
edited-kept (op.Crop _) layer = refl
edited-kept (op.Alpha _) layer = refl
edited-kept (op.Hidden _) layer = refl
edited-kept (op.Opaque _) layer = refl
edited-kept (op.Colour _) layer = refl
edited-kept (op.Backpressure _) layer = refl
edited-kept (op.Show _) layer = refl
edited-kept (op.Orient _) layer = refl

edited-relative : (operation : Op) (layer : Layer) → ((edited operation layer).relative ≡ layer.relative) ⊎ ((edited operation layer).relative ≡ None)
edited-relative (op.Create _ _) layer = inl refl
edited-relative op.Destroy layer = inl refl
edited-relative (op.Reparent _) layer = inl refl
edited-relative (op.Z _) layer = inr refl
edited-relative (op.Relative _ _) layer = inl refl
edited-relative (op.Position _ _) layer = inl refl
edited-relative (op.Crop _) layer = inl refl
edited-relative (op.Alpha _) layer = inl refl
edited-relative (op.Hidden _) layer = inl refl
edited-relative (op.Opaque _) layer = inl refl
edited-relative (op.Colour _) layer = inl refl
edited-relative (op.Backpressure _) layer = inl refl
edited-relative (op.Show _) layer = inl refl
edited-relative (op.Orient _) layer = inl refl

edited-in_range : (operation : Op) (layer : Layer) → IsInRange operation → IsLayerInRange layer → IsLayerInRange (edited operation layer)
edited-in_range (op.Create _ _) layer o r = r
edited-in_range op.Destroy layer o r = r
edited-in_range (op.Reparent _) layer o r = r
edited-in_range (op.Z _) layer o r = record { x = r.x; y = r.y; crop = r.crop; shown = r.shown; orient = r.orient }
edited-in_range (op.Relative _ _) layer o r = r
edited-in_range (op.Position _ _) layer o r = record { x = o.0; y = o.1; crop = r.crop; shown = r.shown; orient = r.orient }
edited-in_range (op.Crop None) layer o r = record { x = r.x; y = r.y; crop = tt; shown = r.shown; orient = r.orient }
edited-in_range (op.Crop (Some _)) layer o r = record { x = r.x; y = r.y; crop = o; shown = r.shown; orient = r.orient }
edited-in_range (op.Alpha _) layer o r = record { x = r.x; y = r.y; crop = r.crop; shown = r.shown; orient = r.orient }
edited-in_range (op.Hidden _) layer o r = record { x = r.x; y = r.y; crop = r.crop; shown = r.shown; orient = r.orient }
edited-in_range (op.Opaque _) layer o r = record { x = r.x; y = r.y; crop = r.crop; shown = r.shown; orient = r.orient }
edited-in_range (op.Colour _) layer o r = record { x = r.x; y = r.y; crop = r.crop; shown = r.shown; orient = r.orient }
edited-in_range (op.Backpressure _) layer o r = record { x = r.x; y = r.y; crop = r.crop; shown = r.shown; orient = r.orient }
edited-in_range (op.Show _) layer o r = record { x = r.x; y = r.y; crop = r.crop; shown = o; orient = r.orient }
edited-in_range (op.Orient _) layer o r = record { x = r.x; y = r.y; crop = r.crop; shown = r.shown; orient = o }

-- an edit that fits the kind of its layer
edited-of_kind : (operation : Op) (layer : Layer) → fits_kind operation layer.kind ≡ true → IsOfKind layer → IsOfKind (edited operation layer)
edited-of_kind (op.Create _ _) layer fits r = r
edited-of_kind op.Destroy layer fits r = r
edited-of_kind (op.Reparent _) layer fits r = r
edited-of_kind (op.Z _) layer fits r = record { colour = r.colour; shown = r.shown }
edited-of_kind (op.Relative _ _) layer fits r = r
edited-of_kind (op.Position _ _) layer fits r = record { colour = r.colour; shown = r.shown }
edited-of_kind (op.Crop _) layer fits r = record { colour = r.colour; shown = r.shown }
edited-of_kind (op.Alpha _) layer fits r = record { colour = r.colour; shown = r.shown }
edited-of_kind (op.Hidden _) layer fits r = record { colour = r.colour; shown = r.shown }
edited-of_kind (op.Opaque _) layer fits r = record { colour = r.colour; shown = r.shown }
edited-of_kind (op.Colour colour) layer fits r = record { colour = λ other. absurd (other (is_colour layer.kind fits)); shown = r.shown }
  where
    is_colour : (k : Kind) → fits_kind (op.Colour colour) k ≡ true → k ≡ kind.Colour
    is_colour kind.Container h = cc
    is_colour kind.Colour h = refl
    is_colour kind.Buffer h = cc
edited-of_kind (op.Backpressure _) layer fits r = record { colour = r.colour; shown = r.shown }
edited-of_kind (op.Show shown) layer fits r = record { colour = r.colour; shown = λ other. absurd (other (is_buffer layer.kind fits)) }
  where
    is_buffer : (k : Kind) → fits_kind (op.Show shown) k ≡ true → k ≡ kind.Buffer
    is_buffer kind.Container h = cc
    is_buffer kind.Colour h = cc
    is_buffer kind.Buffer h = refl
edited-of_kind (op.Orient _) layer fits r = record { colour = r.colour; shown = r.shown }

pub IsTree-edited : (most : ℕ) (xs : List Layer) (place : ℕ) (layer : Layer) (operation : Op) → IsTree most xs → place < length xs → slice_get xs place ≡ Some layer → IsInRange operation → fits_kind operation layer.kind ≡ true → IsTree most (slice_set xs place (edited operation layer))
IsTree-edited most xs place layer operation t inside at o fits =
    IsTree-set most xs place layer (edited operation layer) t inside at (edited_number operation layer) tied (edited-in_range operation layer o (at_layer IsLayerInRange t.in_range)) (edited-of_kind operation layer fits (at_layer IsOfKind t.of_kind))
    (record { rank = t.no_cycle.rank; ranked = All-set (IsRanked t.no_cycle.rank) xs place (edited operation layer) ranked t.no_cycle.ranked })
  where
    at_layer : (P : Layer → Type 0) → All P xs → P layer
    at_layer P all = subst P (get_or_from_slice_get xs place layer layer at) (all place layer inside)

    tied : IsTied xs (edited operation layer)
    tied = record { parent = rw (edited-kept operation layer) (at_layer (IsTied xs) t.tied).parent; relative = by_relative (edited-relative operation layer) }
      where
        by_relative : ((edited operation layer).relative ≡ layer.relative) ⊎ ((edited operation layer).relative ≡ None) → IfSome (edited operation layer).relative (λ id. has_layer xs id ≡ true)
        by_relative (inl e) = rw e (at_layer (IsTied xs) t.tied).relative
        by_relative (inr e) = rw e tt

    ranked : IsRanked t.no_cycle.rank (edited operation layer)
    ranked = record {
      parent = λ s e. rw (edited_number operation layer) ((at_layer (IsRanked t.no_cycle.rank) t.no_cycle.ranked).parent s (sym (edited-kept operation layer) ∙ e));
      relative = λ s e. by_relative s e (edited-relative operation layer);
    }
      where
        by_relative : (s : LayerId) → (edited operation layer).relative ≡ Some s → ((edited operation layer).relative ≡ layer.relative) ⊎ ((edited operation layer).relative ≡ None) → t.no_cycle.rank s.0 < t.no_cycle.rank (edited operation layer).number.0
        by_relative s e (inl same) = rw (edited_number operation layer) ((at_layer (IsRanked t.no_cycle.rank) t.no_cycle.ranked).relative s (sym same ∙ e))
        by_relative s e (inr none) = cc
