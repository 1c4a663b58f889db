use Rattle.std.proofs.Common.{◌≡◌, ◌∙◌, ap, subst, sym, refl, true}
use Rattle.std.specs.Option.{IfSome}
use Rattle.sf_commit_next.specs.sf_ready.Facts.{HasSame}
use Rattle.sf_commit_next.specs.sf_token.Pending.{QueuesOf}
use Rattle.sf_commit_next.proofs.AskingLemmas.{enough_after, out_none}
use Rattle.sf_commit.proofs.DecideLemmas.{begins, ends, goes_on, shrinks}
use Rattle.sf_commit_next.specs.Asking.{has_token}
use Rattle.sf_commit.specs.inner.Deciding.{round_of}
use Rattle.sf_commit_next.specs.Next.{IsNextToken}
use Rattle.sf_commit_next.specs.Heads.{ready_of}
use Rattle.sf_commit.specs.Rounds.{StageOf, pressed_in}
use Rattle.sf_commit.proofs.decide.decide.Goals as goal

pub loop-asking-init : goal.loop-asking-init
loop-asking-init g c = (
  begins g.L.Lease.shown c.args.instant.seen.now c.args.instant.expected c.args.looks.now c.args.stage.now c.args.queues.now.pending c.args.facts.now c.requires.looked c.requires.pressed,
  refl,
  λ token e. out_none g.L.Lease.shown c.args.instant.seen.now c.args.instant.expected c.args.queues.now.pending token (c.in_ok-asking.ensures token e),
)

pub loop-asking-smaller : goal.loop-asking-smaller
loop-asking-smaller g c =
    let next = subst (IsNextToken (ready_of g.L.Lease.shown c.args.instant.seen.now c.args.instant.expected c.loop-asking.facts c.loop-asking.queues.pending)) c.in-Some.is c.in_ok-token.ensures.next in
    rw (ap (λ (q : QueuesOf g.row.L.Denot). q.pending) c.commit_first.ensures.left)
    (shrinks g.L.Lease.shown c.args.instant.seen.now c.args.instant.expected c.loop-asking.facts c.loop-asking.queues.pending c.in-Some.token next)

pub loop-asking-preserved : goal.loop-asking-preserved
loop-asking-preserved g c =
    let next = subst (IsNextToken (ready_of g.L.Lease.shown c.args.instant.seen.now c.args.instant.expected c.loop-asking.facts c.loop-asking.queues.pending)) c.in-Some.is c.in_ok-token.ensures.next in
    let among = subst (λ o. IfSome o (λ token. has_token c.next_token.new.asking token ≡ true)) c.in-Some.is c.in_ok-token.ensures.among in (
      rw (ap (λ (q : QueuesOf g.row.L.Denot). q.pending) c.commit_first.ensures.left)
          (goes_on g.L.Lease.shown c.args.instant.seen.now c.args.instant.expected (round_of c.args.stage.now c.args.queues.now.pending c.args.facts.now) c.args.looks.now
          c.loop-asking.stage c.commit_first.new.stage c.loop-asking.queues.pending c.loop-asking.facts c.commit_first.new.facts c.in-Some.token c.loop-asking.invariant.0 next c.in_ok-commit_first.ensures.commits),
      ap (λ (q : QueuesOf g.row.L.Denot). q.last) c.commit_first.ensures.left ∙ c.loop-asking.invariant.1,
      rw (ap (λ (q : QueuesOf g.row.L.Denot). q.pending) c.commit_first.ensures.left)
          (enough_after g.L.Lease.shown c.args.instant.seen.now c.args.instant.expected c.loop-asking.queues.pending c.next_token.new.asking c.in-Some.token c.in_ok-token.ensures.asks among),
    )

pub returns-clause-comes : goal.returns-clause-comes
returns-clause-comes g c =
    let none = subst (IsNextToken (ready_of g.L.Lease.shown c.args.instant.seen.now c.args.instant.expected c.loop-asking.facts c.loop-asking.queues.pending)) c.in_default.is c.in_ok-token.ensures.next in
    ends g.L.Lease.shown c.args.instant.seen.now c.args.instant.expected (round_of c.args.stage.now c.args.queues.now.pending c.args.facts.now) c.args.looks.now c.loop-asking.stage c.loop-asking.queues.pending c.loop-asking.facts c.loop-asking.invariant.0 none

pub commit_first-requires : goal.commit_first-requires
commit_first-requires g c =
    let state = c.loop-asking.invariant.0.state in
    record { pressed = subst (λ (s : StageOf g.row.L.Denot). HasSame c.loop-asking.facts.pressed (pressed_in s.tree.layers)) (sym state.made) state.same.pressed }
