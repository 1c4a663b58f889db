use Rattle.std.proofs.Common.{arith}
use Rattle.sf_region.proofs.PointLemmas.{proper_at, push_more}
use Rattle.sf_region.proofs.bands.push_rects.Goals as goal

pub rect_from-requires-clause-wide : goal.rect_from-requires-clause-wide
rect_from-requires-clause-wide c =
    let p = proper_at c.args.spans.now c.loop-span.span-index (record { start = 0; end = 0 }) c.requires.spread c.loop-span-test.true in
    omega (arith, p.some)

pub rect_from-requires-clause-right : goal.rect_from-requires-clause-right
rect_from-requires-clause-right c =
    let p = proper_at c.args.spans.now c.loop-span.span-index (record { start = 0; end = 0 }) c.requires.spread c.loop-span-test.true in p.to

pub loop-span-preserved : goal.loop-span-preserved
loop-span-preserved c =
    push_more c.push.new.self.items c.loop-span.rects.items c.args.rects.now.items c.args.spans.now c.loop-span.span-index (record { start = 0; end = 0 }) _ c.args.from c.args.to
    c.in_ok-push.ensures.items c.loop-span.invariant c.rect_from.ensures c.loop-span-test.true
