use Rattle.std.proofs.Common.{◌≡◌, ℕ, ◌+◌, ◌<◌, ◌⊎◌, inl, inr, refl, true, false, is_some, Some, None, ap, sym, subst, ◌∙◌, arith}
use Rattle.sf_base.specs.declared.ids.LayerId.{LayerId}
use Rattle.sf_layer.specs.declared.layer.Layer.{Layer}
use Rattle.sf_layer.specs.declared.parent.Parent.{Parent}
use Rattle.sf_layer.specs.declared.parent.Parent.TheVariants as parent
use Rattle.sf_tree.specs.Kept.{IsRanked, IsTied}
use Rattle.sf_tree.specs.inner.Ranking.{IsFoundBelow, KeepsRanks}
use Rattle.sf_tree.proofs.Lookups.{has_layer-place}
use Rattle.sf_tree.proofs.RankingLemmas.{All-at, IsStepFound, both_steps, found_at, no_step, one_step}
use Rattle.sf_tree.proofs.Ranks.{layer_of-number}
use Rattle.sf_tree.proofs.ShowLemmas.{at_found}
use Rattle.sf_tree.proofs.given.+rank.Goals as goal
use Rattle.sf_tree.proofs.given.+rank.Goals.{rank-then-ranks-place-eq0+then-steps-gt0, rank-else-ranks-place-eq0, rank-else-ranks-place-eq0-via-then-ranks-place-eq0+else-steps-gt0, rank-else-ranks-place-eq0-via-else-ranks-place-eq0, rank_below-in-Layer, rank_below-in-Root, rank_below-in-Some, rank_below-in-None}

no_layer : (p : Parent) (id : LayerId) → (p ≡ parent.Root) ⊎ (p ≡ parent.Nothing) → p ≡ parent.Layer id → ⊥
no_layer p id (inl root) e = let clash : parent.Root ≡ parent.Layer id = sym root ∙ e in cc
no_layer p id (inr nothing) e = let clash : parent.Nothing ≡ parent.Layer id = sym nothing ∙ e in cc

pub rank-returns-clause-found : goal.rank-returns-clause-found
rank-returns-clause-found t c ranking layer sound at low =
    elim c.if-ranks-place-eq0.branch [
      | rank-then-ranks-place-eq0+then-steps-gt0 w ↦
          let both : Some layer ≡ Some w.at.result = sym at ∙ w.at.ensures in
          let same : layer ≡ w.at.result = cc in
          let less : ranking w.at.result.number.0 < c.args.steps = subst (λ (l : Layer). ranking l.number.0 < c.args.steps) same low in
          let below : IsFoundBelow c.args.layers.now ranking w.rank_below-below.new.ranks w.at.result w.rank_below-below.result =
          w.rank_below-below.ensures.found ranking sound (All-at (IsTied c.args.layers.now) c.args.layers.now c.args.place w.at.result sound.tied w.at.ensures)
          (All-at (IsRanked ranking) c.args.layers.now c.args.place w.at.result sound.bounded.ranked w.at.ensures) (omega arith) in
          let is : w.saturating_add.result ≡ w.rank_below-below.result + 1 = omega (arith, w.saturating_add.ensures, below.low, less, c.ranges.steps.fits) in
          rw w.ranks-is (found_at c.args.layers.now ranking w.rank_below-below.new.ranks w.note.new.ranks c.args.place w.at.result w.rank_below-below.result w.rank_below-below.ensures.size w.at.ensures below
          w.note.ensures.kept (rw is at w.note.ensures.noted))
      | rank-else-ranks-place-eq0 w ↦ rw w.ranks-is (elim w.else-ranks-place-eq0.branch [
        | rank-else-ranks-place-eq0-via-then-ranks-place-eq0+else-steps-gt0 w' ↦ absurd (omega (arith, low, w'.if-steps-gt0.false))
        | rank-else-ranks-place-eq0-via-else-ranks-place-eq0 w' ↦ record { sound = sound; noted = omega (arith, w'.if-ranks-place-eq0.false) }
      ])
    ]

pub rank_below-returns-clause-found : goal.rank_below-returns-clause-found
rank_below-returns-clause-found t c ranking sound tied ranked low =
    let layers = c.args.layers.now in
    let layer = c.args.layer.now in
    let first : IsStepFound layers ranking c.match-layer.ranks layer (λ id. layer.parent ≡ parent.Layer id) c.match-layer.parent = elim c.match-layer.branch [
      | rank_below-in-Layer w ↦ rw (w.ranks-is, w.parent-is) (one_step layers ranking w.rank_of-parent.new.ranks layer (λ id. layer.parent ≡ parent.Layer id) w.in-Layer.id w.rank_of-parent.result
          (w.rank_of-parent.ensures.found ranking sound (rw w.in-Layer.is at tied.parent) (omega (arith, ranked.parent w.in-Layer.id w.in-Layer.is))) w.rank_of-parent.ensures.at
          (ranked.parent w.in-Layer.id w.in-Layer.is) (λ other e. let both : parent.Layer w.in-Layer.id ≡ parent.Layer other = sym w.in-Layer.is ∙ e in cc))
      | rank_below-in-Root w ↦ rw (w.ranks-is, w.parent-is) (no_step layers ranking c.args.ranks.now layer (λ id. layer.parent ≡ parent.Layer id) sound (λ id e. no_layer layer.parent id w.in-Root.is e))
    ] in
    let kept : KeepsRanks c.match-layer.ranks c.match-layer-2.ranks = elim c.match-layer-2.branch [
      | rank_below-in-Some w ↦ rw w.ranks-is w.rank_of-relative.ensures.kept
      | rank_below-in-None w ↦ rw w.ranks-is (λ p h. refl)
    ] in
    let second : IsStepFound layers ranking c.match-layer-2.ranks layer (λ id. layer.relative ≡ Some id) c.match-layer-2.relative = elim c.match-layer-2.branch [
      | rank_below-in-Some w ↦ rw (w.ranks-is, w.relative-is) (one_step layers ranking w.rank_of-relative.new.ranks layer (λ id. layer.relative ≡ Some id) w.in-Some.id w.rank_of-relative.result
          (w.rank_of-relative.ensures.found ranking first.sound (rw w.in-Some.is at tied.relative) (omega (arith, ranked.relative w.in-Some.id w.in-Some.is))) w.rank_of-relative.ensures.at
          (ranked.relative w.in-Some.id w.in-Some.is) (λ other e. let both : Some w.in-Some.id ≡ Some other = sym w.in-Some.is ∙ e in cc))
      | rank_below-in-None w ↦ rw (w.ranks-is, w.relative-is) (no_step layers ranking c.match-layer.ranks layer (λ id. layer.relative ≡ Some id) first.sound (λ id e. let clash : None ≡ Some id = sym w.in-None.is ∙ e in cc))
    ] in
    both_steps layers ranking c.match-layer.ranks c.match-layer-2.ranks layer c.match-layer.parent c.match-layer-2.relative c.max.result first kept second
    (omega (arith, c.max.ensures)) (omega (arith, c.max.ensures)) (omega (arith, c.max.ensures, first.low, second.low))

pub rank_of-returns-in-Some-clause-found : goal.rank_of-returns-in-Some-clause-found
rank_of-returns-in-Some-clause-found t c ranking sound there low =
    let at = at_found c.args.layers.now c.args.id c.in-Some.place c.in-Some.ensures.place in
    c.rank.ensures.found ranking at.0 sound at.2 (subst (λ (n : ℕ). ranking n < c.args.steps) (sym (layer_of-number c.args.layers.now c.args.id at.0 at.1)) low)

pub rank_of-returns-in-None-clause-found : goal.rank_of-returns-in-None-clause-found
rank_of-returns-in-None-clause-found t c ranking sound there low =
    let clash : true ≡ false = sym there ∙ (has_layer-place c.args.layers.now c.args.id ∙ ap is_some (sym c.in-None.ensures.place)) in cc
