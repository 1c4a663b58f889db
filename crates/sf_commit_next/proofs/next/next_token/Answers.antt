use Rattle.std.proofs.Common.{◌++◌, List, ℕ, ap, subst, sym}
use Rattle.std.specs.List.Sorted.{IsStrictlySortedBy}
use Rattle.std.specs.Ordering.{nat_cmp}
use Rattle.sf_commit_next.proofs.AskingLemmas.{among_again, enough_again}
use Rattle.sf_commit_next.proofs.next.next_token.Goals as goal

pub first_ready-requires-clause-sorted : goal.first_ready-requires-clause-sorted
first_ready-requires-clause-sorted g c =
    subst (IsStrictlySortedBy nat_cmp) (sym (ap (λ (ks : List ℕ). ks ++ c.args.asking.now) c.new-stopped.ensures.items)) c.rises.ensures

pub ask_again-requires : goal.ask_again-requires
ask_again-requires g c = c.in_ok-next.ensures.sorted

pub returns-clause-next : goal.returns-clause-next
returns-clause-next g c = c.in_ok-next.ensures.next.is_next

pub returns-clause-asks : goal.returns-clause-asks
returns-clause-asks g c =
    enough_again g.L.Lease.shown c.args.instant.seen.now c.args.instant.expected c.args.queues.now.pending c.first_ready.new.asking c.first_ready.new.stopped.items c.ask_again.new.asking
    c.in_ok-next.ensures.next.rest c.in_ok-ask_again.ensures

pub returns-clause-among : goal.returns-clause-among
returns-clause-among g c =
    among_again g.L.Lease.shown c.args.instant.seen.now c.args.instant.expected c.first_ready.new.asking c.first_ready.new.stopped.items c.ask_again.new.asking
    c.in_ok-next.next c.in_ok-next.ensures.next.among c.in_ok-ask_again.ensures
