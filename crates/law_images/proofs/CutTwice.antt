-- What was cut out of a tree is cut out of that as it is.
use Rattle.std.proofs.Common.{rules, ◌≡◌, ℕ, zero, suc, ◌<◌, ◌==◌, Bool, true, false, ◌||◌, if◌then◌else◌, List, [], ◌∷◌, map, filter, Option, Some, None, is_some, refl, sym, ap, subst, ◌∙◌, arith, pos}
use Rattle.std.specs.Prelude.{find}
use Rattle.std.specs.List.{All, list_any}
use Rattle.std.proofs.lemmas.List.Elements.{All-cons, All-head, All-nil, All-tail}
use Rattle.std.proofs.lemmas.Option.{same_Some}
use Rattle.sf_base.specs.declared.ids.LayerId.{LayerId}
use Rattle.sf_layer.specs.declared.layer.Layer.{Layer}
use Rattle.sf_layer.specs.declared.parent.Parent.{Parent}
use Rattle.sf_layer.specs.declared.parent.Parent.TheVariants as parent
use Rattle.sf_tree.specs.Kept.{IsRanked, IsTree}
use Rattle.sf_tree.specs.inner.Known.{IsBounded}
use Rattle.sf_tree.specs.Layers.{has_layer, is_numbered, layer_of, parent_layer}
use Rattle.sf_tree.proofs.Ranks.{All-layer_of, bounded_rank, layer_of-number}
use Rattle.sf_tree.proofs.TreeKept.{found_itself}
use Rattle.sf_view.specs.Ancestry.{ancestry, and_above}
use Rattle.sf_view.proofs.AncestryLemmas.{ancestry-is}
use Rattle.sf_output_shown.specs.Cuts.{cut, cut_layer, is_under, relative_in, under}
use Rattle.sf_capture.proofs.CutLemmas.{IsTree-cut}

module _ (kept : List Layer) (id : LayerId) where
  number_kept : (layer : Layer) → (cut_layer kept id layer).number ≡ layer.number
  number_kept layer = by (is_numbered id layer)
    where
      by : (b : Bool) → (if b then record layer { parent = parent.Root; position = (pos 0, pos 0); relative = None } else record layer { relative = relative_in kept layer.relative }).number ≡ layer.number
      by true = refl
      by false = refl

  parent_kept : (layer : Layer) → is_numbered id layer ≡ false → (cut_layer kept id layer).parent ≡ layer.parent
  parent_kept layer other = rw other refl

  has_kept : (layers : List Layer) (n : LayerId) → has_layer (map (cut_layer kept id) layers) n ≡ has_layer layers n
  has_kept [] n = refl
  has_kept (layer ∷ layers) n =
      ap (λ (b : Bool). is_some (if b then Some (cut_layer kept id layer) else find (is_numbered n) (map (cut_layer kept id) layers))) (ap (λ (m : LayerId). m.0 == n.0) (number_kept layer))
      ∙ by (is_numbered n layer) (has_kept layers n)
    where
      by : (b : Bool) → has_layer (map (cut_layer kept id) layers) n ≡ has_layer layers n
          → is_some (if b then Some (cut_layer kept id layer) else find (is_numbered n) (map (cut_layer kept id) layers)) ≡ is_some (if b then Some layer else find (is_numbered n) layers)
      by true ih = refl
      by false ih = ih

  -- a layer that is picked is found as it is cut
  found_cut : (p : Layer → Bool) (layers : List Layer) (n : LayerId) (m : Layer) → layer_of layers n ≡ Some m → p m ≡ true → layer_of (map (cut_layer kept id) (filter p layers)) n ≡ Some (cut_layer kept id m)
  found_cut p [] n m found picked = absurd (search rules)
  found_cut p (layer ∷ layers) n m found picked = by (is_numbered n layer) (p layer) refl refl found (λ f. found_cut p layers n m f picked)
    where
      numbered : is_numbered n (cut_layer kept id layer) ≡ is_numbered n layer
      numbered = ap (λ (k : LayerId). k.0 == n.0) (number_kept layer)

      by : (a b : Bool) → is_numbered n layer ≡ a → p layer ≡ b → (if a then Some layer else layer_of layers n) ≡ Some m → (layer_of layers n ≡ Some m → layer_of (map (cut_layer kept id) (filter p layers)) n ≡ Some (cut_layer kept id m))
          → layer_of (map (cut_layer kept id) (if b then layer ∷ filter p layers else filter p layers)) n ≡ Some (cut_layer kept id m)
      by true true a b f ih = rw (numbered ∙ a) (ap (λ (l : Layer). Some (cut_layer kept id l)) (same_Some layer m f))
      by true false a b f ih =
          let clash : true ≡ false = sym picked ∙ ap p (sym (same_Some layer m f)) ∙ b in
          absurd (search rules)
      by false true a b f ih = rw (numbered ∙ a) (ih f)
      by false false a b f ih = ih f

  -- cut once more, where the same layers are there
  relative_again : (again : List Layer) → ((n : LayerId) → has_layer again n ≡ has_layer kept n) → (relative : Option LayerId) → relative_in again (relative_in kept relative) ≡ relative_in kept relative
  relative_again again same None = refl
  relative_again again same (Some n) = by (has_layer kept n) refl
    where
      by : (b : Bool) → has_layer kept n ≡ b → relative_in again (if b then Some n else None) ≡ (if b then Some n else None)
      by true e = rw (same n ∙ e) refl
      by false e = refl

  cut_again : (again : List Layer) → ((n : LayerId) → has_layer again n ≡ has_layer kept n) → (layer : Layer) → cut_layer again id (cut_layer kept id layer) ≡ cut_layer kept id layer
  cut_again again same layer = by (is_numbered id layer) refl
    where
      by : (b : Bool) → is_numbered id layer ≡ b
          → cut_layer again id (if b then record layer { parent = parent.Root; position = (pos 0, pos 0); relative = None } else record layer { relative = relative_in kept layer.relative })
          ≡ (if b then record layer { parent = parent.Root; position = (pos 0, pos 0); relative = None } else record layer { relative = relative_in kept layer.relative })
      by true e = rw e refl
      by false e = rw e (ap (λ r. record layer { relative = r }) (relative_again again same layer.relative))

all_again : (kept again : List Layer) (id : LayerId) → ((n : LayerId) → has_layer again n ≡ has_layer kept n) → (layers : List Layer) → map (cut_layer again id) (map (cut_layer kept id) layers) ≡ map (cut_layer kept id) layers
all_again kept again id same [] = refl
all_again kept again id same (layer ∷ layers) = λ i. cut_again kept id again same layer i ∷ all_again kept again id same layers i

all_pass : (p : Layer → Bool) (f : Layer → Layer) (layers : List Layer) → All (λ l. p (f l) ≡ true) layers → filter p (map f layers) ≡ map f layers
all_pass p f [] all = refl
all_pass p f (layer ∷ layers) all = rw (All-head (λ l. p (f l) ≡ true) layer layers all) (ap (λ ls. f layer ∷ ls) (all_pass p f layers (All-tail (λ l. p (f l) ≡ true) layer layers all)))

right : (a b : Bool) → b ≡ true → (a || b) ≡ true
right true b e = refl
right false b e = e

-- a layer that reaches the one that is cut reaches it among the layers that are cut with it
module _ (most : ℕ) (tree : List Layer) (id : LayerId) (t : IsTree most tree) where
  kept : List Layer
  kept = under tree id

  alone : List Layer
  alone = cut tree id

  taken : Layer → Layer
  taken = cut_layer (under tree id) id

  still : IsTree 9216 (cut tree id)
  still = IsTree-cut most tree id t

  found : (n : LayerId) (m : Layer) → layer_of tree n ≡ Some m → is_under tree id m ≡ true → layer_of (cut tree id) n ≡ Some (cut_layer (under tree id) id m)
  found n m f below = found_cut (under tree id) id (is_under tree id) tree n m f below

  ranked_kept : (rank : ℕ → ℕ) × IsBounded (cut tree id) rank
  ranked_kept = bounded_rank (cut tree id) still.tied still.no_cycle

  ranked : (rank : ℕ → ℕ) × IsBounded tree rank
  ranked = bounded_rank tree t.tied t.no_cycle

  -- a layer's ancestry, a step at a time
  above : (m : Layer) → layer_of tree m.number ≡ Some m → ancestry tree m ≡ m ∷ and_above (ancestry tree) (parent_layer tree m.parent)
  above m f = ancestry-is tree m (suc (ranked.0 m.number.0)) (record { rank = ranked.0; bounded = ranked.1; found = f; low = omega arith })

  above_kept : (m : Layer) → layer_of tree m.number ≡ Some m → is_under tree id m ≡ true
      → ancestry (cut tree id) (cut_layer (under tree id) id m) ≡ cut_layer (under tree id) id m ∷ and_above (ancestry (cut tree id)) (parent_layer (cut tree id) (cut_layer (under tree id) id m).parent)
  above_kept m f below =
      ancestry-is (cut tree id) (cut_layer (under tree id) id m) (suc (ranked_kept.0 (cut_layer (under tree id) id m).number.0)) (record {
        rank = ranked_kept.0;
        bounded = ranked_kept.1;
        found = found (cut_layer (under tree id) id m).number m (ap (layer_of tree) (number_kept (under tree id) id m) ∙ f) below;
        low = omega arith;
      })

  reaches : (steps : ℕ) (m : Layer) → layer_of tree m.number ≡ Some m → is_under tree id m ≡ true → ranked.0 m.number.0 < steps → is_under (cut tree id) id (cut_layer (under tree id) id m) ≡ true
  reaches zero m f below low = absurd (omega (arith, low))
  reaches (suc steps) m f below low =
      ap (list_any (is_numbered id)) (above_kept m f below)
      ∙ by (is_numbered id m) refl (λ q g under_it lower. reaches steps q g under_it (omega (arith, low, lower)))
    where
      numbered : is_numbered id (cut_layer (under tree id) id m) ≡ is_numbered id m
      numbered = ap (λ (n : LayerId). n.0 == id.0) (number_kept (under tree id) id m)

      rest : is_numbered id m ≡ false → list_any (is_numbered id) (and_above (ancestry tree) (parent_layer tree m.parent)) ≡ true
      rest other = ap (λ b. b || list_any (is_numbered id) (and_above (ancestry tree) (parent_layer tree m.parent))) (sym other) ∙ sym (ap (list_any (is_numbered id)) (above m f)) ∙ below

      next : ((q : Layer) → layer_of tree q.number ≡ Some q → is_under tree id q ≡ true → ranked.0 q.number.0 < ranked.0 m.number.0 → is_under (cut tree id) id (cut_layer (under tree id) id q) ≡ true)
          → (p : Parent) → m.parent ≡ p → list_any (is_numbered id) (and_above (ancestry tree) (parent_layer tree p)) ≡ true → list_any (is_numbered id) (and_above (ancestry (cut tree id)) (parent_layer (cut tree id) p)) ≡ true
      next ih parent.Root e h = h
      next ih (parent.Layer s) e h = at (layer_of tree s) refl h
        where
          at : (o : Option Layer) → layer_of tree s ≡ o → list_any (is_numbered id) (and_above (ancestry tree) o) ≡ true → list_any (is_numbered id) (and_above (ancestry (cut tree id)) (layer_of (cut tree id) s)) ≡ true
          at None g h = absurd (search rules)
          at (Some q) g h =
              let same : q.number.0 ≡ s.0 = layer_of-number tree s q g in
              let lower : ranked.0 s.0 < ranked.0 m.number.0 = (All-layer_of (IsRanked ranked.0) tree m.number m ranked.1.ranked f).parent s e in
              ap (λ o. list_any (is_numbered id) (and_above (ancestry (cut tree id)) o)) (found s q g h)
              ∙ ih q (ap (λ n. layer_of tree (record { 0 = n })) same ∙ g) h (subst (λ n. ranked.0 n < ranked.0 m.number.0) (sym same) lower)
      next ih parent.Nothing e h = h

      by : (b : Bool) → is_numbered id m ≡ b → ((q : Layer) → layer_of tree q.number ≡ Some q → is_under tree id q ≡ true → ranked.0 q.number.0 < ranked.0 m.number.0 → is_under (cut tree id) id (cut_layer (under tree id) id q) ≡ true)
          → (is_numbered id (cut_layer (under tree id) id m) || list_any (is_numbered id) (and_above (ancestry (cut tree id)) (parent_layer (cut tree id) (cut_layer (under tree id) id m).parent))) ≡ true
      by true e ih = rw (numbered ∙ e) refl
      by false e ih =
          right _ _ (ap (λ p. list_any (is_numbered id) (and_above (ancestry (cut tree id)) (parent_layer (cut tree id) p))) (parent_kept (under tree id) id m e) ∙ next ih m.parent refl (rest e))

  all_reach : (layers : List Layer) → All (λ (l : Layer). layer_of tree l.number ≡ Some l) layers → All (λ (l : Layer). is_under (cut tree id) id (cut_layer (under tree id) id l) ≡ true) (filter (is_under tree id) layers)
  all_reach [] all = All-nil (λ (l : Layer). is_under (cut tree id) id (cut_layer (under tree id) id l) ≡ true)
  all_reach (layer ∷ layers) all =
      by (is_under tree id layer) refl (All-head (λ (l : Layer). layer_of tree l.number ≡ Some l) layer layers all)
      (all_reach layers (All-tail (λ (l : Layer). layer_of tree l.number ≡ Some l) layer layers all))
    where
      by : (b : Bool) → is_under tree id layer ≡ b → layer_of tree layer.number ≡ Some layer → All (λ (l : Layer). is_under (cut tree id) id (cut_layer (under tree id) id l) ≡ true) (filter (is_under tree id) layers)
          → All (λ (l : Layer). is_under (cut tree id) id (cut_layer (under tree id) id l) ≡ true) (if b then layer ∷ filter (is_under tree id) layers else filter (is_under tree id) layers)
      by true e f rest = All-cons (λ (l : Layer). is_under (cut tree id) id (cut_layer (under tree id) id l) ≡ true) layer (filter (is_under tree id) layers) (reaches (suc (ranked.0 layer.number.0)) layer f e (omega arith)) rest
      by false e f rest = rest

  pub same_under : under (cut tree id) id ≡ cut tree id
  same_under = all_pass (is_under (cut tree id) id) (cut_layer (under tree id) id) (under tree id) (all_reach tree (found_itself tree t.distinct))

pub cut_twice : (most : ℕ) (tree : List Layer) (id : LayerId) → IsTree most tree → cut (cut tree id) id ≡ cut tree id
cut_twice most tree id t =
    ap (λ layers. map (cut_layer layers id) layers) (same_under most tree id t)
    ∙ all_again (under tree id) (cut tree id) id (has_kept (under tree id) id (under tree id)) (under tree id)
