use Rattle.std.proofs.Common.{rules, ◌≡◌, ◌∙◌, ◌≤◌, sym, ap, ℕ, ◌+◌, ◌-◌, List, ◌∷◌, refl, subst, true≢false, length, drop, slice_index, None, arith}
use Rattle.std.proofs.lemmas.List.{drop_more, drop_all}
use Rattle.sf_base.specs.Fences.{first_open_of, open_from}
use Rattle.sf_base.proofs.FenceLemmas.{open_from-here, open_from-more, open_from-none}
use Rattle.sf_base.proofs.fences.first_above.Goals as goal

pub loop-index-init : goal.loop-index-init
loop-index-init c = search rules

pub returns-then-points-index-clause-signalled : goal.returns-then-points-index-clause-signalled
returns-then-points-index-clause-signalled c =
    let index = c.loop-index.index in
    let vs = c.args.points.now.values in
    let ss = c.args.seen.now.values in
    let back : index + 1 - 1 ≡ index = omega arith in
    let above = c.if-points-index.true in (
      λ e. absurd (true≢false e),
      λ signalled. absurd (
          let reached : slice_index vs index ≤ slice_index ss index =
          subst (λ (k : ℕ). slice_index vs k ≤ slice_index ss k) back (signalled (index + 1) (omega arith) (omega arith)) in
          omega arith
          ),
    )

pub returns-then-points-index-clause-lowest : goal.returns-then-points-index-clause-lowest
unfolding first_open_of
returns-then-points-index-clause-lowest c =
    let index = c.loop-index.index in
    let vs = c.args.points.now.values in
    let ss = c.args.seen.now.values in
    let n : length vs ≡ 64 = search rules in
    let m : length ss ≡ 64 = search rules in
    c.loop-index.invariant
    ∙ ap (λ (l : List ℕ). open_from (index + 1) l (drop index ss)) (drop_more vs index 0 (omega arith))
    ∙ ap (λ (l : List ℕ). open_from (index + 1) (slice_index vs index ∷ drop (index + 1) vs) l) (drop_more ss index 0 (omega arith))
    ∙ open_from-here (index + 1) (slice_index vs index) (slice_index ss index) _ _ c.if-points-index.true

pub loop-index-preserved : goal.loop-index-preserved
loop-index-preserved c =
    let index = c.loop-index.index in
    let vs = c.args.points.now.values in
    let ss = c.args.seen.now.values in
    let n : length vs ≡ 64 = search rules in
    let m : length ss ≡ 64 = search rules in
    c.loop-index.invariant
    ∙ ap (λ (l : List ℕ). open_from (index + 1) l (drop index ss)) (drop_more vs index 0 (omega arith))
    ∙ ap (λ (l : List ℕ). open_from (index + 1) (slice_index vs index ∷ drop (index + 1) vs) l) (drop_more ss index 0 (omega arith))
    ∙ open_from-more (index + 1) (slice_index vs index) (slice_index ss index) _ _ c.if-points-index.false

nothing_open : (c : goal.After-loop-index) → open_from 1 c.args.points.now.values c.args.seen.now.values ≡ None
unfolding open_from
nothing_open c =
    let index = c.loop-index.index in
    let vs = c.args.points.now.values in
    let ss = c.args.seen.now.values in
    let n : length vs ≡ 64 = search rules in
    c.loop-index.invariant ∙ ap (λ (l : List ℕ). open_from (index + 1) l (drop index ss)) (drop_all index vs (omega arith))

pub returns-clause-signalled : goal.returns-clause-signalled
returns-clause-signalled c =
    let n : length c.args.points.now.values ≡ 64 = search rules in
    let m : length c.args.seen.now.values ≡ 64 = search rules in
    (λ e t low high. open_from-none 1 _ _ (n ∙ sym m) (nothing_open c) (t - 1), λ signalled. refl)

pub returns-clause-lowest : goal.returns-clause-lowest
unfolding first_open_of
returns-clause-lowest c = nothing_open c
