use Rattle.std.proofs.Common.{◌∙◌, ap, ◌∷◌, map, reverse, arith}
use Rattle.sf_calls.specs.Histories.{entry}
use Rattle.sf_token.specs.declared.arrivals.ArriveReply.TheVariants as reply
use Rattle.sf_token.specs.Arrivals.{made, waiting}
use Rattle.sf_token.proofs.ArrivalLemmas.{IsArrivals-send, reverse-push}
use Rattle.sf_token.proofs.arrivals.ArrivalsObject.apply.Goals as goal

pub invariant_of-self-then-len-lt-MOST_SENDS : goal.invariant_of-self-then-len-lt-MOST_SENDS
invariant_of-self-then-len-lt-MOST_SENDS g c =
    let calls = rw c.reserve.ensures.items at c.push_reserved-in-Send-2.ensures.items in
    let list = rw c.reserve-else-is_err-2.ensures.items at c.push_reserved-in-Send.ensures.items in
    let entries = rw c.reserve-else-is_err.ensures.items at c.push_reserved.ensures.items in
    let fits = rw c.in-Send.is at c.requires in
    rw (calls, list, entries, reverse-push, c.of-asked.ensures, c.of-told.ensures, c.in-Send.is, c.token-token.ensures)
    (IsArrivals-send g.N.LeaseHome.holds _ _ _ c.args.by c.in-Send.step _ c.in-Send.txn c.self.invariant fits (omega arith) (omega arith))

pub returns-in-Take-clause-done : goal.returns-in-Take-clause-done
returns-in-Take-clause-done g c =
    let calls = rw c.reserve.ensures.items at c.push_reserved-in-Take.ensures.items in
    let list = ap (λ v. v.items) c.replace-list.ensures.value ∙ c.reserve-else-is_err-2.ensures.items in (
      ap (λ xs. reverse (map made xs)) calls ∙ reverse-push made c.self.inside.calls.items _ ∙ rw (c.of-asked.ensures, c.of-told-in-Take.ensures) (ap (λ before. entry c.args.by c.args.call (reply.Batch c.replace-list.result.items) ∷ before) c.self.view_is),
      rw c.in-Take.is (list ∙ c.self.invariant.waits ∙ ap waiting c.self.view_is),
      rw list c.self.invariant.held,
    )
