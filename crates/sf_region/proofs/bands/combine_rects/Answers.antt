use Rattle.std.proofs.Common.{refl}
use Rattle.sf_region.proofs.RowLemmas.{spread_row}
use Rattle.sf_region.proofs.BandLemmas.{combined_none, combined_more, combined_all, built_all}
use Rattle.sf_region.proofs.bands.combine_rects.Goals as goal

pub loop-y-init : goal.loop-y-init
loop-y-init c = rw (c.new.ensures.items, c.new-2.ensures.items) (combined_none c.args.how c.args.first.now c.args.second.now c.requires.first c.requires.second)

pub combine_spans-requires-clause-first : goal.combine_spans-requires-clause-first
combine_spans-requires-clause-first c =
    rw (c.deref.ensures.value, c.in_ok-fill_row.ensures) (spread_row c.loop-y.first.now c.loop-y.y c.loop-y.invariant.ahead_first.banded)

pub combine_spans-requires-clause-second : goal.combine_spans-requires-clause-second
combine_spans-requires-clause-second c =
    rw (c.deref-in-loop-y.ensures.value, c.in_ok-fill_row-2.ensures) (spread_row c.loop-y.second.now c.loop-y.y c.loop-y.invariant.ahead_second.banded)

pub loop-y-preserved : goal.loop-y-preserved
loop-y-preserved c =
    combined_more c.args.how c.args.first.now c.args.second.now _ _ _ _ _ _ _ _ _ c.deref.result.now c.deref-in-loop-y.result.now _ _ _ _ _ _ c.loop-y.invariant
    (rw (c.deref.ensures.value, c.in_ok-fill_row.ensures) refl)
    (rw (c.deref-in-loop-y.ensures.value, c.in_ok-fill_row-2.ensures) refl)
    c.in_ok-combine_spans.ensures.spread c.in_ok-combine_spans.ensures.kept c.in_ok-turn.ensures
    c.next_row.ensures.later c.next_row.ensures.within c.next_row.ensures.same
    c.next_row-in-loop-y.ensures.later c.next_row-in-loop-y.ensures.same c.min-next.ensures
    c.past_rows-first.ensures.ahead c.past_rows-second.ensures.ahead c.past_rows-first.ensures.same c.past_rows-second.ensures.same

pub returns-clause-canonical : goal.returns-clause-canonical
returns-clause-canonical c =
    rw c.in_ok-close.ensures.rects (built_all _ _ _ _ c.loop-y.invariant.built c.loop-y.invariant.drawn c.loop-y.invariant.upper)

pub returns-clause-kept : goal.returns-clause-kept
returns-clause-kept c = λ x y.
    rw c.in_ok-close.ensures.rects
    (combined_all c.args.how c.args.first.now c.args.second.now _ _ _ _ _ _ c.loop-y.invariant c.loop-y-test.false c.requires.first c.requires.second x y)
