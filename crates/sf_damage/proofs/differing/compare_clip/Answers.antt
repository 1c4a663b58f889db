use Rattle.std.proofs.Common.{◌≡◌, ◌+◌, ◌∷◌, ◌⊎◌, [], add-one, drop, get_or, inl, inr, arith}
use Rattle.std.proofs.Math.Seq.{drop-cons}
use Rattle.std.proofs.lemmas.Bool.{both_ways}
use Rattle.std.proofs.lemmas.List.{drop_all}
use Rattle.std.proofs.lemmas.Result.{on_ok_weaker}
use Rattle.sf_view.specs.declared.drawn.Drawn.{Drawn}
use Rattle.sf_damage.proofs.ComparingLemmas.{goes_end, goes_other, goes_same, lies_inside}
use Rattle.sf_damage.proofs.DiffersLemmas.{IsSplit}
use Rattle.sf_damage.proofs.ListLemmas.{no_layer}
use Rattle.sf_damage.proofs.differing.compare_clip.Goals as goal
use Rattle.sf_damage.proofs.differing.compare_clip.Goals.{then-loop-at-test+else-not-is_empty, else-loop-at-test}

pub loop-at-preserved-in-Continue-branch-2 : goal.loop-at-preserved-in-Continue-branch-2
loop-at-preserved-in-Continue-branch-2 c =
    let news = c.args.news.now in
    let at = c.loop-at.at in
    let new : Drawn = get_or news at no_layer in
    let cut : drop at news ≡ new ∷ drop (at + 1) news = rw (add-one at) (drop-cons news at no_layer c.loop-at-test.true) in
    let parts : IsSplit new.clip c.loop-at.rest c.in_ok-inside.field-0.inside c.in_ok-inside.field-0.outside = record { inside = c.in_ok-inside.ensures.inside; outside = c.in_ok-inside.ensures.outside } in
    record {
      lies = lies_inside new.clip c.args.old.now c.loop-at.rest c.in_ok-inside.field-0.inside c.in_ok-inside.field-0.outside parts c.loop-at.invariant.lies;
      goes = goes_same c.args.old.now new news c.args.piece c.args.above.now.items c.loop-at.above.items c.push_piece.new.pieces.items c.args.found.now.items c.loop-at.found.items at (at + 1) c.loop-at.rest c.in_ok-inside.field-0.inside c.in_ok-inside.field-0.outside
          cut (c.has_same_sheet.ensures.0 c.if-has_same_sheet.true) parts c.loop-at.invariant.lies c.in_ok-push_piece.ensures c.loop-at.invariant.goes;
    }

pub loop-at-preserved : goal.loop-at-preserved
loop-at-preserved c =
    let news = c.args.news.now in
    let at = c.loop-at.at in
    let new : Drawn = get_or news at no_layer in
    let cut : drop at news ≡ new ∷ drop (at + 1) news = rw (add-one at) (drop-cons news at no_layer c.loop-at-test.true) in
    let parts : IsSplit new.clip c.loop-at.rest c.in_ok-inside.field-0.inside c.in_ok-inside.field-0.outside = record { inside = c.in_ok-inside.ensures.inside; outside = c.in_ok-inside.ensures.outside } in
    record {
      lies = lies_inside new.clip c.args.old.now c.loop-at.rest c.in_ok-inside.field-0.inside c.in_ok-inside.field-0.outside parts c.loop-at.invariant.lies;
      goes = goes_other c.args.old.now new news c.args.piece c.args.above.now.items c.loop-at.above.items c.args.found.now.items c.loop-at.found.items c.push_part.new.parts.items at (at + 1) c.loop-at.rest c.in_ok-inside.field-0.inside c.in_ok-inside.field-0.outside
          cut (λ same. both_ways c.has_same_sheet.result c.if-has_same_sheet.false (c.has_same_sheet.ensures.1 same)) parts c.loop-at.invariant.lies c.in_ok-push_part.ensures c.loop-at.invariant.goes;
    }

pub returns : goal.returns
returns c =
    let news = c.args.news.now in
    let at = c.loop-at.at in
    let none : (drop at news ≡ []) ⊎ (c.loop-at.rest ≡ []) = elim c.loop-at-test.branch [
      | then-loop-at-test+else-not-is_empty w ↦ inr (w.is_empty.ensures.0 w.if-not-is_empty.false)
      | else-loop-at-test w ↦ inl (drop_all at news (omega (arith, w.loop-at-test.false)))
    ] in
    on_ok_weaker c.push_part-2.result
    (λ pushed. goes_end c.args.old.now news c.args.piece c.args.above.now.items c.loop-at.above.items c.args.found.now.items c.loop-at.found.items c.push_part-2.new.parts.items at c.loop-at.rest none c.loop-at.invariant.lies pushed c.loop-at.invariant.goes)
    c.push_part-2.ensures
