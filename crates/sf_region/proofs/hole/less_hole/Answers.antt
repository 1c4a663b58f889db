use Rattle.std.proofs.Common.{arith}
use Rattle.sf_region.proofs.HoleLemmas.{hole_canonical, hole_kept, is_left}
use Rattle.sf_region.proofs.RowLemmas.{full_bottom, full_right}
use Rattle.sf_region.proofs.hole.less_hole.Goals as goal

pub push_between-requires-clause-right : goal.push_between-requires-clause-right
push_between-requires-clause-right c = rw c.span_of-span.ensures (full_right c.args.rect.now c.requires.rect)

pub push_between-requires-clause-low : goal.push_between-requires-clause-low
push_between-requires-clause-low c =
    let one = full_bottom c.args.rect.now c.requires.rect in
    let other = full_bottom c.args.hole.now c.requires.hole in
    omega (arith, one, other, c.requires.rect.high, c.requires.hole.high, c.max-upper.ensures, c.top_of.ensures, c.top_of-top.ensures)

pub push_between-requires-2-clause-right : goal.push_between-requires-2-clause-right
push_between-requires-2-clause-right c =
    let one = full_right c.args.rect.now c.requires.rect in
    let other = full_right c.args.hole.now c.requires.hole in
    let start = rw (c.span_of-gap.ensures, c.span_of-span.ensures) at c.max-start.ensures in
    omega (arith, one, other, c.requires.rect.wide, c.requires.hole.wide, start)

pub push_between-requires-2-clause-low : goal.push_between-requires-2-clause-low
push_between-requires-2-clause-low c =
    let one = full_bottom c.args.rect.now c.requires.rect in
    omega (arith, one, c.min-lower.ensures, c.bottom_of-bottom.ensures)

pub push_between-requires-3-clause-right : goal.push_between-requires-3-clause-right
push_between-requires-3-clause-right c = rw c.span_of-span.ensures (full_right c.args.rect.now c.requires.rect)

pub push_between-requires-3-clause-low : goal.push_between-requires-3-clause-low
push_between-requires-3-clause-low c =
    let one = full_bottom c.args.rect.now c.requires.rect in
    omega (arith, one, c.min-lower.ensures, c.bottom_of-bottom.ensures)

pub push_between-requires-4-clause-right : goal.push_between-requires-4-clause-right
push_between-requires-4-clause-right c = rw c.span_of-span.ensures (full_right c.args.rect.now c.requires.rect)

pub push_between-requires-4-clause-low : goal.push_between-requires-4-clause-low
push_between-requires-4-clause-low c =
    let one = full_bottom c.args.rect.now c.requires.rect in
    omega (arith, one, c.bottom_of-bottom.ensures)

pub returns-clause-canonical : goal.returns-clause-canonical
returns-clause-canonical c =
    hole_canonical c.args.rect.now c.args.hole.now _ _ _ _ _ c.requires.rect c.requires.hole c.requires.met
    (is_left c.args.rect.now c.args.hole.now _ _ _ _ _ _ _ _ _ _ _ _ _ _ _ c.span_of-span.ensures c.span_of-gap.ensures c.top_of-top.ensures c.bottom_of-bottom.ensures c.top_of.ensures c.bottom_of.ensures
    c.max-start.ensures c.min-end.ensures c.max-upper.ensures c.min-lower.ensures
    c.in_ok-rects.ensures.items c.in_ok-push_between.ensures c.in_ok-push_between-2.ensures c.in_ok-push_between-3.ensures c.in_ok-push_between-4.ensures)

pub returns-clause-kept : goal.returns-clause-kept
returns-clause-kept c =
    hole_kept c.args.rect.now c.args.hole.now _ _ _ _ _ c.requires.rect c.requires.hole c.requires.met
    (is_left c.args.rect.now c.args.hole.now _ _ _ _ _ _ _ _ _ _ _ _ _ _ _ c.span_of-span.ensures c.span_of-gap.ensures c.top_of-top.ensures c.bottom_of-bottom.ensures c.top_of.ensures c.bottom_of.ensures
    c.max-start.ensures c.min-end.ensures c.max-upper.ensures c.min-lower.ensures
    c.in_ok-rects.ensures.items c.in_ok-push_between.ensures c.in_ok-push_between-2.ensures c.in_ok-push_between-3.ensures c.in_ok-push_between-4.ensures)
