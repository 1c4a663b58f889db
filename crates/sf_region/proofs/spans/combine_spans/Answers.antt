use Rattle.std.proofs.Common.{false}
use Rattle.sf_region.proofs.SpanLemmas.{swept_none, swept_more, swept_all, done_spread}
use Rattle.sf_region.proofs.spans.combine_spans.Goals as goal

pub loop-x-init : goal.loop-x-init
loop-x-init c = rw c.clear.ensures.items (swept_none c.args.how c.args.first.now c.args.second.now c.requires.first c.requires.second)

pub loop-x-preserved : goal.loop-x-preserved
loop-x-preserved c =
    swept_more c.args.how c.args.first.now c.args.second.now _ _ _ _ _ _ _ _ c.keeps-inside.result _ _ _ _ _ _ c.loop-x.invariant
    c.is_inside.ensures c.is_inside-in-loop-x.ensures c.keeps-inside.ensures
    c.next_edge.ensures.later c.next_edge.ensures.within c.next_edge.ensures.same
    c.next_edge-in-loop-x.ensures.later c.next_edge-in-loop-x.ensures.same c.min-next.ensures
    c.in_ok-began.ensures.done c.in_ok-began.ensures.began
    c.past-first.ensures.ahead c.past-second.ensures.ahead c.past-first.ensures.same c.past-second.ensures.same

pub returns-clause-spread : goal.returns-clause-spread
returns-clause-spread c =
    let so = c.loop-x.invariant in
    rw c.in_ok-turn.ensures.done (done_spread _ _ false _ so.spread so.between so.to)

pub returns-clause-kept : goal.returns-clause-kept
returns-clause-kept c = λ x.
    rw c.in_ok-turn.ensures.done (swept_all c.args.how c.args.first.now c.args.second.now _ _ _ _ _ c.loop-x.invariant c.loop-x-test.false c.requires.first c.requires.second x)
