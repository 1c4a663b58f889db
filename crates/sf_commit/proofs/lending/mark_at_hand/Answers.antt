use Rattle.std.proofs.Common.{◌∙◌, ◌<◌, List, ap, length, set, sym, arith}
use Rattle.std.proofs.lemmas.List.Edits.{map_over_more}
use Rattle.sf_commit.specs.OnLayers.{OnLayer, at_hand}
use Rattle.sf_commit.proofs.lending.mark_at_hand.Goals as goal

pub loop-reading-preserved : goal.loop-reading-preserved
loop-reading-preserved g c =
    let test = c.loop-reading-test.true in
    let same = ap (λ (xs : List (OnLayer g.row.L.Denot)). length xs) c.deref_mut-reading-items.ensures.value in
    let within : c.loop-reading.reading-index < length c.args.on.now.items = omega (arith, test, same) in
    ap (λ (one : OnLayer g.row.L.Denot). set c.loop-reading.reading-items c.loop-reading.reading-index (at_hand one)) (c.reading.view_is ∙ sym c.reading-item.is)
    ∙ map_over_more at_hand c.args.on.now.items c.loop-reading.reading-items c.loop-reading.reading-index c.reading-item.result within c.loop-reading.invariant c.reading-item.is
