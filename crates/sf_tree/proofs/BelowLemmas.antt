-- Lists of the places of the layers that are drawn with each layer.
use Rattle.std.proofs.Common.{◌≡◌, ℕ, zero, suc, ◌+◌, ◌-◌, ◌<◌, ◌≤◌, ◌≢◌, Bool, true, false, List, [], ◌∷◌, ◌++◌, length, get_or, map, take, Some, None, refl, ap, ◌∙◌, sym, subst, arith, append-nil, append_assoc, length-set}
use Rattle.std.specs.List.{All, filter, flat_map, slice_get, slice_set}
use Rattle.std.specs.Prelude.{eqb, ◌==◌}
use Rattle.std.proofs.lemmas.Bool.{eqb-true, eq-eqb}
use Rattle.std.proofs.lemmas.List.{length-map, get_or-map, get_or-set_same, get_or-set_other, take_all}
use Rattle.std.proofs.lemmas.List.Elements.{All-head, All-tail, filter-append}
use Rattle.std.proofs.lemmas.Grind.{flat_map-append}
use Rattle.sf_base.specs.declared.ids.LayerId.{LayerId}
use Rattle.sf_layer.specs.declared.layer.Layer.{Layer}
use Rattle.sf_layer.specs.declared.parent.Parent.{Parent}
use Rattle.sf_layer.specs.declared.parent.Parent.TheVariants as parent
use Rattle.sf_tree.specs.DrawOrder.{draw, draw_parent, drawn_with, is_same}
use Rattle.sf_tree.specs.Kept.{IsDistinct}
use Rattle.sf_tree.specs.inner.Known.{AtPlaces, IsBelow, is_on_side}
use Rattle.sf_tree.specs.Layers.{index_of}
use Rattle.sf_tree.proofs.Lookups.{is_numbered-place}
use Rattle.sf_tree.proofs.Places.{index_of_same}
use Rattle.sf_tree.proofs.ShowLemmas.{inside_from_slice_get}
use Rattle.std.proofs.lemmas.Option.{get_or_from_slice_get}

pub drawn_with-yes : (p : Parent) (xs : List Layer) (layer : Layer) → is_same (draw_parent layer) p ≡ true → drawn_with p (xs ++ layer ∷ []) ≡ drawn_with p xs ++ layer ∷ []
drawn_with-yes p xs layer e = filter-append (λ layer. is_same (draw_parent layer) p) xs (layer ∷ []) ∙ (rw e refl)

pub drawn_with-no : (p : Parent) (xs : List Layer) (layer : Layer) → is_same (draw_parent layer) p ≡ false → drawn_with p (xs ++ layer ∷ []) ≡ drawn_with p xs
drawn_with-no p xs layer e = filter-append (λ layer. is_same (draw_parent layer) p) xs (layer ∷ []) ∙ (rw e (append-nil (drawn_with p xs)))

pub AtPlaces-push : (tree : List Layer) (places : List ℕ) (layers : List Layer) (place : ℕ) (layer : Layer) → AtPlaces tree places layers → slice_get tree place ≡ Some layer → AtPlaces tree (places ++ place ∷ []) (layers ++ layer ∷ [])
AtPlaces-push tree [] [] place layer all at = (at, tt)
AtPlaces-push tree [] (l ∷ ls) place layer all at = absurd all
AtPlaces-push tree (p ∷ ps) [] place layer all at = absurd all
AtPlaces-push tree (p ∷ ps) (l ∷ ls) place layer all at = (all.0, AtPlaces-push tree ps ls place layer all.1 at)

-- there is a layer at each place
pub at_index : (tree : List Layer) (places : List ℕ) (layers : List Layer) (i d : ℕ) → AtPlaces tree places layers → i < length places → (layer : Layer) × (slice_get tree (get_or places i d) ≡ Some layer)
at_index tree [] layers i d all h = absurd (omega arith)
at_index tree (p ∷ ps) [] i d all h = absurd all
at_index tree (p ∷ ps) (l ∷ ls) zero d all h = (l, all.0)
at_index tree (p ∷ ps) (l ∷ ls) (suc i) d all h = at_index tree ps ls i d all.1 (omega arith)

-- the layer at the next place
pub next_at : (tree : List Layer) (places : List ℕ) (layers : List Layer) (i d : ℕ) (layer : Layer) → AtPlaces tree places layers → i < length places → slice_get tree (get_or places i d) ≡ Some layer → take (i + 1) layers ≡ take i layers ++ layer ∷ []
next_at tree [] layers i d layer at h e = absurd (omega arith)
next_at tree (p ∷ ps) [] i d layer at h e = absurd at
next_at tree (p ∷ ps) (l ∷ ls) zero d layer at h e =
    let both : Some l ≡ Some layer = sym at.0 ∙ e in
    let same : l ≡ layer = cc in
    ap (λ (x : Layer). x ∷ []) same
next_at tree (p ∷ ps) (l ∷ ls) (suc i) d layer at h e =
    let one : suc i + 1 ≡ suc (i + 1) = omega arith in
    rw one (ap (λ xs. l ∷ xs) (next_at tree ps ls i d layer at.1 (omega arith) e))

pub all_taken : (tree : List Layer) (places : List ℕ) (layers : List Layer) (i : ℕ) → AtPlaces tree places layers → length places ≤ i → take i layers ≡ layers
all_taken tree [] [] i at h = take_all i [] (omega arith)
all_taken tree [] (l ∷ ls) i at h = absurd at
all_taken tree (p ∷ ps) [] i at h = absurd at
all_taken tree (p ∷ ps) (l ∷ ls) zero at h = absurd (omega arith)
all_taken tree (p ∷ ps) (l ∷ ls) (suc i) at h = ap (λ xs. l ∷ xs) (all_taken tree ps ls i at.1 (omega arith))

other_number : (tree : List Layer) (id : LayerId) (k : ℕ) (layer : Layer) → IsDistinct tree → slice_get tree k ≡ Some layer → (index_of tree id ≡ Some k → ⊥) → (id.0 == layer.number.0) ≡ false
other_number tree id k layer distinct at apart = by_test (id.0 == layer.number.0) refl
  where
    inside : k < length tree
    inside = inside_from_slice_get tree k layer at

    here : index_of tree layer.number ≡ Some k
    here = subst (λ (l : Layer). index_of tree l.number ≡ Some k) (get_or_from_slice_get tree k layer layer at) (distinct k layer inside)

    by_test : (b : Bool) → (id.0 == layer.number.0) ≡ b → (id.0 == layer.number.0) ≡ false
    by_test false e = e
    by_test true e = absurd (apart (index_of_same tree id layer.number e ∙ here))

-- a layer that is drawn with no layer of the tree
pub IsBelow-other : (tree xs : List Layer) (layer : Layer) (lists : List (List ℕ)) → ((k : ℕ) (with : Layer) → slice_get tree k ≡ Some with → is_same (draw_parent layer) (parent.Layer with.number) ≡ false) → IsBelow tree xs lists → IsBelow tree (xs ++ layer ∷ []) lists
IsBelow-other tree xs layer lists other b = record {
  size = b.size;
  lists = λ k with at. rw (drawn_with-no (parent.Layer with.number) xs layer (other k with at)) (b.lists k with at);
}

-- a layer that is drawn with the one at a place
pub IsBelow-push : (tree xs : List Layer) (layer : Layer) (lists : List (List ℕ)) (id : LayerId) (w place : ℕ) → IsDistinct tree → draw_parent layer ≡ parent.Layer id → index_of tree id ≡ Some w → slice_get tree place ≡ Some layer → w < length lists → IsBelow tree xs lists → IsBelow tree (xs ++ layer ∷ []) (slice_set lists w (get_or lists w [] ++ place ∷ []))
IsBelow-push tree xs layer lists id w place distinct with_id e at inside b = record {
  size = length-set lists w _ ∙ b.size;
  lists = λ k with there. by_place k with there (eqb k w) refl;
}
  where
    new : List (List ℕ)
    new = slice_set lists w (get_or lists w [] ++ place ∷ [])

    by_place : (k : ℕ) (with : Layer) → slice_get tree k ≡ Some with → (t : Bool) → eqb k w ≡ t → AtPlaces tree (get_or new k []) (drawn_with (parent.Layer with.number) (xs ++ layer ∷ []))
    by_place k with there true t =
        let same : k ≡ w = eqb-true k w t in
        let here : slice_get tree w ≡ Some with = subst (λ (n : ℕ). slice_get tree n ≡ Some with) same there in
        let number : with.number.0 ≡ id.0 = eqb-true with.number.0 id.0 (is_numbered-place tree id w with e here) in
        let yes : is_same (draw_parent layer) (parent.Layer with.number) ≡ true = rw with_id (eq-eqb id.0 with.number.0 (sym number)) in
        rw (same, get_or-set_same lists w (get_or lists w [] ++ place ∷ []) [] inside, drawn_with-yes (parent.Layer with.number) xs layer yes)
        (AtPlaces-push tree (get_or lists w []) (drawn_with (parent.Layer with.number) xs) place layer (b.lists w with here) at)
    by_place k with there false t =
        let apart : k ≢ w = λ q. let clash : true ≡ false = sym (eq-eqb k w q) ∙ t in cc in
        let other : (id.0 == with.number.0) ≡ false = other_number tree id k with distinct there (λ f. let both : Some k ≡ Some w = sym f ∙ e in let one : k ≡ w = cc in apart one) in
        let no : is_same (draw_parent layer) (parent.Layer with.number) ≡ false = rw with_id other in
        rw (get_or-set_other lists w k (get_or lists w [] ++ place ∷ []) [] apart, drawn_with-no (parent.Layer with.number) xs layer no) (b.lists k with there)

pub not_in_tree : (tree : List Layer) (id : LayerId) (k : ℕ) (with : Layer) → IsDistinct tree → index_of tree id ≡ None → slice_get tree k ≡ Some with → (id.0 == with.number.0) ≡ false
not_in_tree tree id k with distinct none at = other_number tree id k with distinct at (λ f. let both : None ≡ Some k = sym none ∙ f in cc)

-- nothing was drawn with any layer yet
pub all_empty : {X : Type 0} (f : X → List ℕ) (xs : List X) → All (λ x. f x ≡ []) xs → (k : ℕ) → get_or (map f xs) k [] ≡ []
all_empty f [] h k = refl
all_empty f (x ∷ xs) h zero = All-head (λ x. f x ≡ []) x xs h
all_empty f (x ∷ xs) h (suc k) = all_empty f xs (All-tail (λ x. f x ≡ []) x xs h) k

pub draw-suc : (showing : List Layer) (steps : ℕ) (layer : Layer) → 0 < steps → draw showing steps layer ≡ (flat_map (draw showing (steps - 1)) (filter (is_on_side true) (drawn_with (parent.Layer layer.number) showing)) ++ layer.number ∷ flat_map (draw showing (steps - 1)) (filter (is_on_side false) (drawn_with (parent.Layer layer.number) showing)))
draw-suc showing zero layer h = absurd (omega arith)
draw-suc showing (suc steps) layer h = by_number (suc steps - 1) (omega arith)
  where
    by_number : (n : ℕ) → n ≡ steps → draw showing (suc steps) layer ≡ (flat_map (draw showing n) (filter (is_on_side true) (drawn_with (parent.Layer layer.number) showing)) ++ layer.number ∷ flat_map (draw showing n) (filter (is_on_side false) (drawn_with (parent.Layer layer.number) showing)))
    by_number n e = rw e refl

-- the list of a layer's place
pub list_at : {X : Type 0} (f : X → List ℕ) (tree layers : List Layer) (lists : List X) (place : ℕ) (x : X) (layer : Layer) → IsBelow tree layers (map f lists) → slice_get tree place ≡ Some layer → x ≡ get_or lists place x → AtPlaces tree (f x) (drawn_with (parent.Layer layer.number) layers)
list_at f tree layers lists place x layer b at e =
    let inside : place < length lists = rw (sym (length-map lists f)) (rw b.size (inside_from_slice_get tree place layer at)) in
    let same : get_or (map f lists) place [] ≡ f x = get_or-map f lists place x [] inside ∙ ap f (sym e) in
    subst (λ (ps : List ℕ). AtPlaces tree ps (drawn_with (parent.Layer layer.number) layers)) same (b.lists place layer at)

pub joined : (order a b : List LayerId) (n : LayerId) → (((order ++ a) ++ n ∷ []) ++ b) ≡ (order ++ (a ++ n ∷ b))
joined order a b n = append_assoc (order ++ a) (n ∷ []) b ∙ append_assoc order a (n ∷ b)

pub on_side-more : (f : Layer → List LayerId) (side : Layer → Bool) (order : List LayerId) (xs : List Layer) (layer : Layer) → side layer ≡ true → ((order ++ flat_map f (filter side xs)) ++ f layer) ≡ (order ++ flat_map f (filter side (xs ++ layer ∷ [])))
on_side-more f side order xs layer e =
    append_assoc order (flat_map f (filter side xs)) (f layer) ∙ ap (λ zs. order ++ zs) (sym (ap (flat_map f) (filter-append side xs (layer ∷ []) ∙ (rw e refl)) ∙ (flat_map-append f (filter side xs) (layer ∷ []) ∙ ap (λ zs. flat_map f (filter side xs) ++ zs) (append-nil (f layer)))))

pub on_side-same : (f : Layer → List LayerId) (side : Layer → Bool) (order : List LayerId) (xs : List Layer) (layer : Layer) → side layer ≡ false → (order ++ flat_map f (filter side xs)) ≡ (order ++ flat_map f (filter side (xs ++ layer ∷ [])))
on_side-same f side order xs layer e =
    ap (λ zs. order ++ flat_map f zs) (sym (filter-append side xs (layer ∷ []) ∙ (rw e (append-nil (filter side xs)))))
