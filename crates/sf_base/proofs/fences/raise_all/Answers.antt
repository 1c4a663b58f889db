use Rattle.std.proofs.Common.{rules, ◌≡◌, ◌∙◌, ◌<◌, sym, ap, ℕ, List, length, max, slice_set, slice_index, arith}
use Rattle.sf_base.specs.Fences.{greater_of_each}
use Rattle.sf_base.proofs.FenceLemmas.{merged_up_to, merged_up_to-at, merged_up_to-suc, merged_up_to-all, length-greater}
use Rattle.sf_base.proofs.fences.raise_all.Goals as goal

pub loop-index-init : goal.loop-index-init
unfolding merged_up_to greater_of_each
loop-index-init c = search rules

pub loop-index-preserved : goal.loop-index-preserved
loop-index-preserved c =
    let index = c.loop-index.index in
    let vs = c.args.points.now.values in
    let ws = c.args.other.now.values in
    let n : length vs ≡ 64 = search rules in
    let m : length ws ≡ 64 = search rules in
    let inside : index < length vs = omega arith in
    let inside_other : index < length ws = omega arith in
    ap (λ (r : ℕ). slice_set c.loop-index.points.values index r) c.max.ensures
    ∙ ap (λ (l : List ℕ). slice_set l index (max (slice_index l index) (slice_index ws index))) c.loop-index.invariant
    ∙ ap (λ (v : ℕ). slice_set (merged_up_to index vs ws) index (max v (slice_index ws index))) (merged_up_to-at index vs ws inside inside_other)
    ∙ merged_up_to-suc index vs ws inside inside_other
    ∙ ap (λ (k : ℕ). merged_up_to k vs ws) (omega arith)

values_are : (c : goal.After-loop-index) → c.loop-index.points.values ≡ greater_of_each c.args.points.now.values c.args.other.now.values
values_are c =
    let n : length c.args.points.now.values ≡ 64 = search rules in
    c.loop-index.invariant ∙ merged_up_to-all c.loop-index.index c.args.points.now.values c.args.other.now.values (omega arith)

pub returns-clause-raised : goal.returns-clause-raised
returns-clause-raised c = values_are c

pub returns-clause-sized : goal.returns-clause-sized
returns-clause-sized c =
    let n : length c.args.points.now.values ≡ 64 = search rules in
    let m : length c.args.other.now.values ≡ 64 = search rules in
    ap length (values_are c) ∙ (length-greater _ _ (n ∙ sym m) ∙ n)
