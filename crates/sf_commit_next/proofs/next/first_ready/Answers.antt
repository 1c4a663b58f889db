use Rattle.std.proofs.Common.{◌∙◌, ◌++◌, List, ℕ, ap, subst, sym}
use Rattle.std.specs.List.Sorted.{IsStrictlySortedBy}
use Rattle.std.specs.Ordering.{nat_cmp}
use Rattle.sf_commit_next.proofs.AskingLemmas.{asked_none, asked_out, asked_stopped, finds, finds_none, moved, pushed_also, rises_without, shorter}
use Rattle.sf_commit_next.proofs.next.first_ready.Goals as goal

pub loop-token-init : goal.loop-token-init
loop-token-init g c = (
  asked_none g.L.Lease.shown c.args.instant.seen.now c.args.instant.expected c.args.facts.now c.args.queues.now.pending c.args.asking.now c.args.stopped.now.items c.requires.asks,
  c.requires.sorted,
)

pub loop-token-smaller-in-Continue-branch-2 : goal.loop-token-smaller-in-Continue-branch-2
loop-token-smaller-in-Continue-branch-2 g c = shorter _ _ c.in-Some.token c.in-Some.ensures

pub loop-token-smaller : goal.loop-token-smaller
loop-token-smaller g c = shorter _ _ c.in-Some.token c.in-Some.ensures

pub loop-token-preserved-in-Continue-branch-2 : goal.loop-token-preserved-in-Continue-branch-2
loop-token-preserved-in-Continue-branch-2 g c =
    let pushed = c.in_ok-push-in-Stopped.ensures.items in (
      asked_stopped g.L.Lease.shown c.args.instant.seen.now c.args.instant.expected c.args.facts.now c.args.queues.now.pending c.loop-token.asking c.take_lowest.new.self c.loop-token.stopped.items
          c.in-Some.token c.loop-token.invariant.0 c.in-Some.ensures _ (pushed_also c.loop-token.stopped.items _ c.in-Some.token pushed) c.in-Stopped.ensures,
      subst (IsStrictlySortedBy nat_cmp) (sym (moved c.loop-token.stopped.items _ c.loop-token.asking c.take_lowest.new.self c.in-Some.token.0 pushed c.in-Some.ensures.0)) c.loop-token.invariant.1,
    )

pub loop-token-preserved : goal.loop-token-preserved
loop-token-preserved g c = (
  asked_out g.L.Lease.shown c.args.instant.seen.now c.args.instant.expected c.args.facts.now c.args.queues.now.pending c.loop-token.asking c.take_lowest.new.self c.loop-token.stopped.items
      c.in-Some.token c.loop-token.invariant.0 c.in-Some.ensures c.in-Out.ensures,
  rises_without c.loop-token.stopped.items c.in-Some.token.0 c.take_lowest.new.self
      (subst (IsStrictlySortedBy nat_cmp) (ap (λ (ks : List ℕ). c.loop-token.stopped.items ++ ks) c.in-Some.ensures.0) c.loop-token.invariant.1),
)

pub returns-in-Ready-clause-next : goal.returns-in-Ready-clause-next
returns-in-Ready-clause-next g c =
    finds g.L.Lease.shown c.args.instant.seen.now c.args.instant.expected c.args.facts.now c.args.queues.now.pending c.loop-token.asking c.take_lowest.new.self c.loop-token.stopped.items
    c.in-Some.token c.loop-token.invariant.0 c.in-Some.ensures _ (pushed_also c.loop-token.stopped.items _ c.in-Some.token c.in_ok-push-in-Ready.ensures.items) c.in-Ready.ensures

pub returns-in-Ready-clause-sorted : goal.returns-in-Ready-clause-sorted
returns-in-Ready-clause-sorted g c =
    subst (IsStrictlySortedBy nat_cmp)
    (sym (moved c.loop-token.stopped.items _ c.loop-token.asking c.take_lowest.new.self c.in-Some.token.0 c.in_ok-push-in-Ready.ensures.items c.in-Some.ensures.0)) c.loop-token.invariant.1

pub returns-clause-next : goal.returns-clause-next
returns-clause-next g c =
    finds_none g.L.Lease.shown c.args.instant.seen.now c.args.instant.expected c.args.facts.now c.args.queues.now.pending c.loop-token.asking c.take_lowest.new.self c.loop-token.stopped.items
    c.loop-token.invariant.0 c.in_default.ensures.0

pub returns-clause-sorted : goal.returns-clause-sorted
returns-clause-sorted g c =
    subst (IsStrictlySortedBy nat_cmp) (ap (λ (ks : List ℕ). c.loop-token.stopped.items ++ ks) (c.in_default.ensures.0 ∙ sym c.in_default.ensures.1)) c.loop-token.invariant.1
