use Rattle.std.proofs.Common.{sym, subst}
use Rattle.std.specs.Option.{IfSome}
use Rattle.sf_token.specs.Pending.{is_of}
use Rattle.sf_commit_next.proofs.AskingLemmas.{answers, out_none}
use Rattle.sf_commit_next.proofs.NextLemmas.{found_holds}
use Rattle.sf_commit_next.specs.Asking.{IsAnswer}
use Rattle.sf_commit_next.specs.Next.{IsLookedAt}
use Rattle.sf_commit_next.proofs.next.ask.Goals as goal

pub first_hold-requires-clause-looked : goal.first_hold-requires-clause-looked
first_hold-requires-clause-looked g c =
    subst (λ o. IfSome o (IsLookedAt g.L.Lease.shown c.args.looks.now)) (sym c.in-Some.ensures)
    (found_holds (IsLookedAt g.L.Lease.shown c.args.looks.now) (is_of c.args.token) c.args.queues.now.pending c.requires.looked)

pub returns-in-Some : goal.returns-in-Some
returns-in-Some g c =
    subst (IsAnswer g.L.Lease.shown c.args.instant.seen.now c.args.instant.expected c.args.facts.now c.args.queues.now.pending c.args.token) (sym c.answer_of.ensures)
    (answers g.L.Lease.shown c.args.instant.seen.now c.args.instant.expected c.args.facts.now c.args.queues.now.pending c.args.token _ c.first_hold.result (sym c.in-Some.ensures) c.first_hold.ensures)

pub returns-in-None : goal.returns-in-None
returns-in-None g c = out_none g.L.Lease.shown c.args.instant.seen.now c.args.instant.expected c.args.queues.now.pending c.args.token (sym c.in-None.ensures)
