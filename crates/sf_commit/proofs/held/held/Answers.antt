use Rattle.std.proofs.Common.{◌∙◌, Some, None, ap, sym, subst, arith}
use Rattle.std.specs.List.{filter_map}
use Rattle.std.proofs.lemmas.List.{take_all}
use Rattle.std.proofs.lemmas.List.Elements.{All-get_or}
use Rattle.sf_commit.proofs.HeldLemmas.{all_drawn, told_all, told_more}
use Rattle.sf_commit.specs.inner.Holding.{IsFoundDrawn, told_by}
use Rattle.sf_commit.proofs.held.held.Goals as goal
use Rattle.sf_commit.proofs.held.held.Goals.{in-Some+in_ok-push, in_default}

pub told_at-requires : goal.told_at-requires
told_at-requires g c =
    let all = all_drawn g.L.Lease c.args.looks.now c.args.queues.now.pending c.requires in
    subst (IsFoundDrawn g.L.Lease c.args.queues.now.pending) (sym c.look-item.is)
    (All-get_or (IsFoundDrawn g.L.Lease c.args.queues.now.pending) c.args.looks.now c.loop-look.look-index c.look-item.result c.loop-look-test.true all)

pub loop-look-preserved : goal.loop-look-preserved
loop-look-preserved g c =
    elim c.match-told_at.branch [
      | in-Some+in_ok-push w ↦ ap (λ v. v.items) w.held-is ∙ (w.in_ok-push.ensures.items
          ∙ told_more g.L.Lease.shown c.args.instant.seen.now c.args.instant.expected c.args.facts.now c.args.queues.now.pending
          c.args.looks.now c.loop-look.look-index c.look-item.result c.loop-look.held.items (Some w.in-Some.told)
          c.loop-look-test.true c.look-item.is (sym w.in-Some.is ∙ c.told_at.ensures) c.loop-look.invariant)
      | in_default w ↦ ap (λ v. v.items) w.held-is
          ∙ told_more g.L.Lease.shown c.args.instant.seen.now c.args.instant.expected c.args.facts.now c.args.queues.now.pending
          c.args.looks.now c.loop-look.look-index c.look-item.result c.loop-look.held.items None
          c.loop-look-test.true c.look-item.is (sym w.in_default.is ∙ c.told_at.ensures) c.loop-look.invariant
    ]

pub returns : goal.returns
returns g c =
    c.loop-look.invariant
    ∙ (ap (filter_map (told_by g.L.Lease.shown c.args.instant.seen.now c.args.instant.expected c.args.facts.now c.args.queues.now.pending))
    (take_all c.loop-look.look-index c.args.looks.now (omega (arith, c.loop-look-test.false)))
    ∙ told_all g.L.Lease c.args.instant.seen.now c.args.instant.expected c.args.facts.now c.args.looks.now c.args.queues.now.pending c.requires)
