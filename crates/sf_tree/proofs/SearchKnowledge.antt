-- What a search knows, from its start on.
use Rattle.std.proofs.Common.{◌≡◌, ℕ, zero, suc, ◌+◌, ◌<◌, ◌≤◌, ◌≢◌, Bool, true, false, List, [], ◌∷◌, ◌++◌, length, get_or, replicate, Some, None, refl, ap, ◌∙◌, sym, subst, arith, inl, inr, ◌⊎◌, length-append, length-set}
use Rattle.std.specs.List.{Contains, slice_set}
use Rattle.std.specs.Prelude.{◌==◌, eqb}
use Rattle.std.proofs.lemmas.Bool.{eqb-true, cases_lt}
use Rattle.std.proofs.lemmas.List.{get_or-set_other, get_or-replicate, length-replicate}
use Rattle.std.proofs.lemmas.List.Elements.{Contains-append_left, Contains-push}
use Rattle.std.proofs.lemmas.List.Quantifiers.{position-Some}
use Rattle.std.proofs.Math.ListN.{get_or-append}
use Rattle.std.proofs.Math.Seq.{get_or-append_seam}
use Rattle.sf_base.specs.declared.ids.LayerId.{LayerId}
use Rattle.sf_layer.specs.declared.kind.Kind.TheVariants as kind
use Rattle.sf_layer.specs.declared.layer.Layer.{Layer}
use Rattle.sf_layer.specs.declared.parent.Parent.TheVariants as parent
use Rattle.sf_tree.specs.Changes.{new_layer}
use Rattle.sf_tree.specs.Layers.{is_numbered, index_of}
use Rattle.sf_tree.specs.Steps.{reaches}
use Rattle.sf_tree.specs.inner.Search.{IsReached, IsSearch, GoesOn, mark_count}
use Rattle.sf_tree.proofs.Places.{index_of_inside}
use Rattle.sf_tree.proofs.LayerPaths.{reaches-le}

mark_count-set : (marks : List Bool) (i : ℕ) → i < length marks → get_or marks i false ≡ false → mark_count (slice_set marks i true) ≡ mark_count marks + 1
mark_count-set [] i h e = absurd (omega arith)
mark_count-set (true ∷ marks) zero h e = cc
mark_count-set (false ∷ marks) zero h e = omega arith
mark_count-set (true ∷ marks) (suc i) h e = omega (arith, mark_count-set marks i (omega arith) e)
mark_count-set (false ∷ marks) (suc i) h e = mark_count-set marks i (omega arith) e

mark_count-none : (n : ℕ) → mark_count (replicate n false) ≡ 0
mark_count-none zero = refl
mark_count-none (suc n) = mark_count-none n

pub mark_count-le : (marks : List Bool) → mark_count marks ≤ length marks
mark_count-le [] = omega arith
mark_count-le (true ∷ marks) = omega (arith, mark_count-le marks)
mark_count-le (false ∷ marks) = omega (arith, mark_count-le marks)

eqb_apart : (a b : ℕ) → eqb a b ≡ false → a ≢ b
eqb_apart a b e = grind arith

-- two numbers at one place are one
index_of_one : (tree : List Layer) (a b : LayerId) (p : ℕ) → index_of tree a ≡ Some p → index_of tree b ≡ Some p → a ≡ b
index_of_one tree a b p e f =
    let d : Layer = new_layer a kind.Container parent.Root in
    let one : (get_or tree p d).number.0 ≡ a.0 = eqb-true _ _ ((position-Some (is_numbered a) tree p d e).1) in
    let two : (get_or tree p d).number.0 ≡ b.0 = eqb-true _ _ ((position-Some (is_numbered b) tree p d f).1) in
    let at : ℕ → LayerId = λ n. record { 0 = n } in ap at (sym one ∙ two)

pub IsSearch-start : (steps : Layer → List LayerId) (tree : List Layer) (first : LayerId) (place n : ℕ) → index_of tree first ≡ Some place → n ≡ length tree → IsSearch steps tree first (first ∷ []) (slice_set (replicate n false) place true)
IsSearch-start steps tree first place n e size = record {
  marked = length-set (replicate n false) place true ∙ (length-replicate n false ∙ size);
  counted = mark_count-set (replicate n false) place (rw (length-replicate n false) inside) (get_or-replicate n place false false inside) ∙ ap (λ m. m + 1) (mark_count-none n);
  known = known;
  reached = reached;
}
  where
    inside : place < n
    inside = let low : place < length tree = index_of_inside tree first place e in omega arith

    by_place : (id : LayerId) (p : ℕ) (b : Bool) → eqb p place ≡ b → index_of tree id ≡ Some p → get_or (slice_set (replicate n false) place true) p false ≡ true → Contains (first ∷ []) id
    by_place id p true t f m = let same : p ≡ place = eqb-true p place t in (0, omega arith, index_of_one tree first id place e (rw same at f))
    by_place id p false t f m =
        let apart : p ≢ place = eqb_apart p place t in
        let unmarked : get_or (slice_set (replicate n false) place true) p false ≡ false = get_or-set_other (replicate n false) place p true false apart ∙ get_or-replicate n p false false (let low : p < length tree = index_of_inside tree id p f in omega arith) in
        cc

    known : (id : LayerId) (p : ℕ) → index_of tree id ≡ Some p → get_or (slice_set (replicate n false) place true) p false ≡ true → Contains (first ∷ []) id
    known id p = by_place id p (eqb p place) refl

    reached : (k : ℕ) (d : LayerId) → k < length (first ∷ []) → IsReached steps tree first k (get_or (first ∷ []) k d)
    reached zero d h = inl (refl, refl)
    reached (suc k) d h = absurd (omega arith)

-- a step to a layer that was found, or that is not there
pub GoesOn-known : (steps : Layer → List LayerId) (tree : List Layer) (first : LayerId) (found : List LayerId) (marks : List Bool) (next : LayerId) → IsSearch steps tree first found marks → (next.0 == first.0) ≡ false → (index_of tree next ≡ None) ⊎ ((p : ℕ) × (index_of tree next ≡ Some p) × (get_or marks p false ≡ true)) → GoesOn steps tree first found marks (Some next)
GoesOn-known steps tree first found marks next s other (inl none) = record { search = s; followed = record { other = other; noted = inl none } }
GoesOn-known steps tree first found marks next s other (inr at) = record { search = s; followed = record { other = other; noted = inr (s.known next at.0 at.1 at.2) } }

-- a step to a layer that was not found yet
pub GoesOn-new : (steps : Layer → List LayerId) (tree : List Layer) (first : LayerId) (found : List LayerId) (marks : List Bool) (next : LayerId) (place k : ℕ) → IsSearch steps tree first found marks → (next.0 == first.0) ≡ false → index_of tree next ≡ Some place → get_or marks place false ≡ false → reaches steps tree (k + 1) first next ≡ true → k < length found → GoesOn steps tree first (found ++ next ∷ []) (slice_set marks place true) (Some next)
GoesOn-new steps tree first found marks next place k s other e unmarked way low = record {
  search = record {
    marked = length-set marks place true ∙ s.marked;
    counted = mark_count-set marks place inside unmarked ∙ (rw (length-append found (next ∷ [])) (ap (λ m. m + 1) s.counted));
    known = λ id p. by_place id p (eqb p place) refl;
    reached = λ j d h. by_index j d (cases_lt j (length found)) h;
  };
  followed = record { other = other; noted = inr (Contains-push found next) };
}
  where
    inside : place < length marks
    inside = let low : place < length tree = index_of_inside tree next place e in rw s.marked low

    by_place : (id : LayerId) (p : ℕ) (b : Bool) → eqb p place ≡ b → index_of tree id ≡ Some p → get_or (slice_set marks place true) p false ≡ true → Contains (found ++ next ∷ []) id
    by_place id p true t f m =
        let same : p ≡ place = eqb-true p place t in
        let one : next ≡ id = index_of_one tree next id place e (rw same at f) in
        subst (λ (x : LayerId). Contains (found ++ next ∷ []) x) one (Contains-push found next)
    by_place id p false t f m =
        let apart : p ≢ place = eqb_apart p place t in
        Contains-append_left found (next ∷ []) id (s.known id p f (sym (get_or-set_other marks place p true false apart) ∙ m))

    by_index : (j : ℕ) (d : LayerId) → (j < length found) ⊎ (length found ≤ j) → j < length (found ++ next ∷ []) → IsReached steps tree first j (get_or (found ++ next ∷ []) j d)
    by_index j d (inl old) h = rw (get_or-append found (next ∷ []) d j old) (s.reached j d old)
    by_index j d (inr last) h =
        let at : j ≡ length found = omega (arith, length-append found (next ∷ []), h) in
        rw (at, get_or-append_seam found next [] d) (inr (reaches-le steps tree (k + 1) (length found) first next (omega arith) way))
