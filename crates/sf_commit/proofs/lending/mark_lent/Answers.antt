use Rattle.std.proofs.Common.{◌≡◌, ◌∙◌, ◌+◌, ◌<◌, ◌++◌, ℕ, List, Some, suc, ap, drop, get_or, length, set, take, arith}
use Rattle.sf_commit.proofs.LendLemmas.{lent_more, lent_next}
use Rattle.sf_commit.specs.OnLayers.{OnLayer, lent_from}
use Rattle.sf_commit.proofs.lending.mark_lent.Goals as goal

pub loop-place-preserved : goal.loop-place-preserved
loop-place-preserved g c =
    let on = c.args.on.now.items in
    let place = c.loop-place.place in
    let items = c.loop-place.reading-items in
    let d = c.reading-item.result in
    let test = c.loop-place-test.true in
    let same = ap (λ (xs : List (OnLayer g.row.L.Denot)). length xs) c.deref_mut-reading-items.ensures.value in
    let within : place < length on = omega (arith, test, same) in
    let from_zero : place ≡ 0 + place = omega arith in
    let more : suc place ≡ place + 1 = omega arith in
    let inv = c.loop-place.invariant in
    ap (λ (one : OnLayer g.row.L.Denot). set items place (record one { place = Some place })) (c.reading.view_is ∙ (ap (λ (xs : List (OnLayer g.row.L.Denot)). get_or xs place d) inv ∙ lent_next 0 place on d within))
    ∙ (ap (λ (xs : List (OnLayer g.row.L.Denot)). set xs place (record (get_or on place d) { place = Some place })) inv
    ∙ (lent_more 0 place place on d within from_zero ∙ ap (λ (n : ℕ). lent_from 0 (take n on) ++ drop n on) more))
