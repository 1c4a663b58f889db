-- What was found on the way up from layers.
use Rattle.std.proofs.Common.{◌≡◌, ◌≢◌, ℕ, ◌+◌, ◌<◌, Bool, true, false, ◌||◌, cond, List, [], ◌∷◌, ◌++◌, length, get_or, map, take, Option, Some, None, is_some, refl, ap, ◌∙◌, sym, arith, replicate, length-set}
use Rattle.std.specs.List.{filter, list_any, slice_get, slice_set}
use Rattle.std.specs.Prelude.{eqb, find}
use Rattle.std.specs.Option.{option_map}
use Rattle.std.proofs.lemmas.Bool.{eqb-true, eq-eqb}
use Rattle.std.proofs.lemmas.List.{append-nil, get_or-map, get_or-set_same, get_or-set_other, get_or-replicate, length-replicate}
use Rattle.std.proofs.lemmas.List.Elements.{filter_more}
use Rattle.sf_base.specs.declared.ids.LayerId.{LayerId}
use Rattle.sf_view.specs.sf_layer.declared.layer.Layer.{Layer}
use Rattle.sf_view.specs.sf_tree.Layers.{is_numbered}
use Rattle.sf_view.proofs.sf_tree_lemmas.ShowLemmas.{inside_from_slice_get}
use Rattle.sf_view.specs.Ancestry.{ancestry}
use Rattle.sf_output_shown.specs.Above.{AreFound, found_above, found_on, is_wanted}
use Rattle.sf_output_shown.specs.Copies.{number_of}
use Rattle.sf_output_shown.specs.Cuts.{is_under}
use Rattle.sf_output_shown.specs.declared.above.Wanted.{Wanted}
use Rattle.sf_output_shown.specs.declared.above.Wanted.TheVariants as wanted

-- the first layer of a list is wanted, or it is not
pub found-here : (w : Wanted) (layer : Layer) (rest : List Layer) (b : Bool) → b ≡ is_wanted w layer → b ≡ true → Some layer.number ≡ found_on w (layer ∷ rest)
found-here w layer rest b is here = rw (sym is ∙ here) refl

pub found-later : (w : Wanted) (layer : Layer) (rest : List Layer) (b : Bool) → b ≡ is_wanted w layer → b ≡ false → found_on w rest ≡ found_on w (layer ∷ rest)
found-later w layer rest b is other = rw (sym is ∙ other) refl

-- nothing was found yet
pub AreFound-none : (w : Wanted) (tree : List Layer) (n : ℕ) → n ≡ length tree → AreFound w tree (replicate n None)
AreFound-none w tree n e = record {
  size = length-replicate n None ∙ e;
  right = λ index layer above at f.
      let inside : index < length tree = inside_from_slice_get tree index layer at in
      let none : None ≡ Some above = sym (get_or-replicate n index None None (omega arith)) ∙ f in cc;
}

-- one more was found
pub AreFound-set : (w : Wanted) (tree : List Layer) (found : List (Option (Option LayerId))) (index : ℕ) (layer : Layer) (above : Option LayerId) → AreFound w tree found → slice_get tree index ≡ Some layer → above ≡ found_above w tree layer
    → AreFound w tree (slice_set found index (Some above))
AreFound-set w tree found index layer above a at is = record {
  size = length-set found index (Some above) ∙ a.size;
  right = λ k other p there f. by_index k other p there f (eqb k index) refl;
}
  where
    inside : index < length found
    inside = rw a.size (inside_from_slice_get tree index layer at)

    by_index : (k : ℕ) (other : Layer) (p : Option LayerId) → slice_get tree k ≡ Some other → get_or (slice_set found index (Some above)) k None ≡ Some p → (b : Bool) → eqb k index ≡ b → p ≡ found_above w tree other
    by_index k other p there f true e =
        let same : k ≡ index = eqb-true k index e in
        let layers : Some other ≡ Some layer = sym there ∙ (ap (slice_get tree) same ∙ at) in
        let one : other ≡ layer = cc in
        let set : Some p ≡ Some above = sym f ∙ (ap (λ (n : ℕ). get_or (slice_set found index (Some above)) n None) same ∙ get_or-set_same found index (Some above) None inside) in
        let two : p ≡ above = cc in
        rw (one, two) is
    by_index k other p there f false e =
        let apart : k ≢ index = λ q. let clash : true ≡ false = sym (eq-eqb k index q) ∙ e in cc in
        a.right k other p there (sym (get_or-set_other found index k (Some above) None apart) ∙ f)

-- a layer is the one of a number, or reaches it, where that is found on the way up
any-found : (id : LayerId) (layers : List Layer) → is_some (found_on (wanted.Numbered id) layers) ≡ list_any (is_numbered id) layers
any-found id [] = refl
any-found id (layer ∷ layers) = by_test (is_numbered id layer) (any-found id layers)
  where
    by_test : (b : Bool) → is_some (found_on (wanted.Numbered id) layers) ≡ list_any (is_numbered id) layers → is_some (option_map number_of (cond b (Some layer) (find (is_wanted (wanted.Numbered id)) layers))) ≡ (b || list_any (is_numbered id) layers)
    by_test true h = refl
    by_test false h = h

pub under-found : (tree : List Layer) (id : LayerId) (layer : Layer) → is_some (found_above (wanted.Numbered id) tree layer) ≡ is_under tree id layer
under-found tree id layer = any-found id (ancestry tree layer)

pub under-at : (tree : List Layer) (id : LayerId) (found : List (Option LayerId)) (i : ℕ) (d : Layer) (e : Option LayerId) → found ≡ map (found_above (wanted.Numbered id) tree) tree → i < length tree → is_some (get_or found i e) ≡ is_under tree id (get_or tree i d)
under-at tree id found i d e is inside =
    ap (λ (l : List (Option LayerId)). is_some (get_or l i e)) is ∙ (ap is_some (get_or-map (found_above (wanted.Numbered id) tree) tree i d e inside) ∙ under-found tree id (get_or tree i d))

-- one more layer of a list passes a test, or it does not
pub kept-more : (p : Layer → Bool) (xs kept : List Layer) (i : ℕ) (d : Layer) → i < length xs → kept ≡ filter p (take i xs) → p (get_or xs i d) ≡ true → kept ++ get_or xs i d ∷ [] ≡ filter p (take (i + 1) xs)
kept-more p xs kept i d inside is passes =
    ap (λ (l : List Layer). l ++ get_or xs i d ∷ []) is ∙ (ap (λ (b : Bool). filter p (take i xs) ++ cond b (get_or xs i d ∷ []) []) (sym passes) ∙ sym (filter_more p xs i d inside))

pub kept-same : (p : Layer → Bool) (xs kept : List Layer) (i : ℕ) (d : Layer) → i < length xs → kept ≡ filter p (take i xs) → p (get_or xs i d) ≡ false → kept ≡ filter p (take (i + 1) xs)
kept-same p xs kept i d inside is fails =
    is ∙ (sym (append-nil (filter p (take i xs))) ∙ (ap (λ (b : Bool). filter p (take i xs) ++ cond b (get_or xs i d ∷ []) []) (sym fails) ∙ sym (filter_more p xs i d inside)))
