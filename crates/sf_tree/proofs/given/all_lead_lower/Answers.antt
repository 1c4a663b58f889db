use Rattle.std.proofs.Common.{◌≡◌, ◌≢◌, ℕ, ◌+◌, ◌<◌, Bool, true, false, List, get_or, Some, ap, arith, refl, sym, subst, ◌∙◌}
use Rattle.std.specs.List.{slice_get}
use Rattle.std.specs.Prelude.{eqb}
use Rattle.std.proofs.lemmas.Bool.{eqb-true, eq-eqb}
use Rattle.std.proofs.lemmas.Option.{get_or_from_slice_get}
use Rattle.sf_layer.specs.declared.layer.Layer.{Layer}
use Rattle.sf_tree.specs.Kept.{IsDistinct, IsRanked, IsTied}
use Rattle.sf_tree.specs.Layers.{index_of}
use Rattle.sf_tree.specs.inner.Ranking.{rank_at, rank_by}
use Rattle.sf_tree.proofs.ShowLemmas.{inside_from_slice_get}
use Rattle.sf_tree.proofs.given.all_lead_lower.Goals as goal

-- what is so of the first layers and of the next one is so of one more
one_more : (P : Layer → Type 0) (xs : List Layer) (i : ℕ) (layer : Layer) → ((k : ℕ) (d : Layer) → k < i → P (get_or xs k d)) → slice_get xs i ≡ Some layer → P layer
    → (k : ℕ) (d : Layer) → k < i + 1 → P (get_or xs k d)
one_more P xs i layer before at here k d inside = by_number (eqb k i) refl
  where
    by_number : (b : Bool) → eqb k i ≡ b → P (get_or xs k d)
    by_number true e = rw (eqb-true k i e, get_or_from_slice_get xs i layer d at) here
    by_number false e =
        let apart : k ≢ i = λ same. let clash : true ≡ false = sym (eq-eqb k i same) ∙ e in cc in
        before k d (omega (arith, inside, apart))

-- the rank of a layer by its number is the one at its place
own_rank : (xs : List Layer) (ranks : List ℕ) (i : ℕ) (layer : Layer) → IsDistinct xs → slice_get xs i ≡ Some layer → get_or ranks i 0 ≡ rank_by xs ranks layer.number.0
own_rank xs ranks i layer distinct at =
    let place : index_of xs layer.number ≡ Some i = subst (λ (l : Layer). index_of xs l.number ≡ Some i) (get_or_from_slice_get xs i layer layer at) (distinct i layer (inside_from_slice_get xs i layer at)) in
    sym (ap (rank_at ranks) place)

pub loop-place-preserved : goal.loop-place-preserved
loop-place-preserved c =
    let xs = c.args.layers.now in
    record {
      tied = one_more (IsTied xs) xs c.loop-place.place c.at.result c.loop-place.invariant.tied c.at.ensures (c.leads_lower.ensures.tied c.if-not-leads_lower.false);
      ranked = one_more (IsRanked (rank_by xs c.args.ranks.now)) xs c.loop-place.place c.at.result c.loop-place.invariant.ranked c.at.ensures
          (c.leads_lower.ensures.ranked c.if-not-leads_lower.false (own_rank xs c.args.ranks.now c.loop-place.place c.at.result c.requires.distinct c.at.ensures));
    }
