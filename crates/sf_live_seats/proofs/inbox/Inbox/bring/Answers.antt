use Rattle.std.proofs.Common.{◌<◌, ◌+◌, ◌++◌, length, arith, ap, ◌∙◌, sym, refl, subst}
use Rattle.std.specs.Prelude.{option_to_list}
use Rattle.std.specs.Vec.Iter.{into_iter_items}
use Rattle.std.proofs.lemmas.Bool.Decides.{nat_tests}
use Rattle.sf_live_seats.specs.declared.inbox.Inbox.{Inbox}
use Rattle.sf_intake.specs.Views.{TakerView}
use Rattle.sf_actor.specs.sf_surface.Tokens.{ReadLeaseOf}
use Rattle.sf_live_seats.specs.Inboxes.{GaveMore, HasAll}
use Rattle.sf_live_seats.proofs.IntakeArrivals.{gave_more, has_all, later_on, left_new, popped_inbox, same_inbox, same_passes, same_on, same_popped, same_taken, taken_inbox}
use Rattle.sf_live_seats.proofs.inbox.Inbox.bring.Goals as goal

pub returns-in_err-forward_left-clause-same : goal.returns-in_err-forward_left-clause-same
returns-in_err-forward_left-clause-same g c = same_inbox c.args.self.now c.forward_left.new.self c.forward_left.ensures.taker

pub take-requires : goal.take-requires
take-requires g c = record { own = ap (λ t. t.intake) c.forward_left.ensures.taker ∙ c.requires.intake }

pub returns-in_err-list-clause-own : goal.returns-in_err-list-clause-own
returns-in_err-list-clause-own g c =
    let old = c.args.self.now in
    let mid = c.forward_left.new.self in
    let new : Inbox g.row.B.Denot = record { taker = c.take.new.self; senders = mid.senders; couriers = mid.couriers; held = mid.held; rest = mid.rest } in
    popped_inbox c.args.lock.now mid new c.forward_left.ensures.own c.in_err-list.ensures.err refl refl refl

pub returns-in_err-list-clause-same : goal.returns-in_err-list-clause-same
returns-in_err-list-clause-same g c =
    let old = c.args.self.now in
    let mid = c.forward_left.new.self in
    let new : Inbox g.row.B.Denot = record { taker = c.take.new.self; senders = mid.senders; couriers = mid.couriers; held = mid.held; rest = mid.rest } in
    same_on old mid new (same_inbox old mid c.forward_left.ensures.taker) (same_popped mid new c.in_err-list.ensures.err)

pub returns-in_err-list-clause-couriers : goal.returns-in_err-list-clause-couriers
returns-in_err-list-clause-couriers g c =
    let mid = c.forward_left.new.self in
    same_passes (c.forward_left.new.last.stamp + 1) mid.taker.made c.take.new.self.made mid.couriers.items mid.couriers.items c.forward_left.ensures.couriers c.in_err-list.ensures.err.same.made refl

pub forward_left-requires-2 : goal.forward_left-requires-2
forward_left-requires-2 g c =
    let old = c.args.self.now in
    let mid = c.forward_left.new.self in
    let new : Inbox g.row.B.Denot = record { taker = c.take.new.self; senders = mid.senders; couriers = mid.couriers; held = mid.held; rest = c.into_iter.result } in
    record {
      own = taken_inbox c.args.lock.now _ mid new c.in_ok-list.list.items c.forward_left.ensures.own c.in_ok-forward_left.ensures.none c.in_ok-list.ensures.ok
          (ap (λ xs. option_to_list mid.held ++ xs) c.into_iter.ensures.rest ∙ left_new mid.held (into_iter_items mid.rest) c.in_ok-list.list.items c.in_ok-forward_left.ensures.none) refl refl;
      couriers =
          same_passes (c.forward_left.new.last.stamp + 1) mid.taker.made c.take.new.self.made mid.couriers.items mid.couriers.items c.forward_left.ensures.couriers c.in_ok-list.ensures.ok.made refl;
    }

pub returns-in_err-forward_left-2-clause-same : goal.returns-in_err-forward_left-2-clause-same
returns-in_err-forward_left-2-clause-same g c =
    let old = c.args.self.now in
    let mid = c.forward_left.new.self in
    let new : Inbox g.row.B.Denot = record { taker = c.take.new.self; senders = mid.senders; couriers = mid.couriers; held = mid.held; rest = c.into_iter.result } in
    same_on old new c.forward_left-2.new.self
    (same_on old mid new (same_inbox old mid c.forward_left.ensures.taker) (same_taken _ mid new c.in_ok-list.list.items c.in_ok-list.ensures.ok))
    (same_inbox new c.forward_left-2.new.self c.forward_left-2.ensures.taker)

pub returns-in_err-forward_left-2-clause-last : goal.returns-in_err-forward_left-2-clause-last
returns-in_err-forward_left-2-clause-last g c = later_on c.args.last.now c.forward_left.new.last c.forward_left-2.new.last c.forward_left.ensures.last c.forward_left-2.ensures.last

pub returns-clause-same : goal.returns-clause-same
returns-clause-same g c =
    let old = c.args.self.now in
    let mid = c.forward_left.new.self in
    let new : Inbox g.row.B.Denot = record { taker = c.take.new.self; senders = mid.senders; couriers = mid.couriers; held = mid.held; rest = c.into_iter.result } in
    same_on old new c.forward_left-2.new.self
    (same_on old mid new (same_inbox old mid c.forward_left.ensures.taker) (same_taken _ mid new c.in_ok-list.list.items c.in_ok-list.ensures.ok))
    (same_inbox new c.forward_left-2.new.self c.forward_left-2.ensures.taker)

pub returns-clause-last : goal.returns-clause-last
returns-clause-last g c = later_on c.args.last.now c.forward_left.new.last c.forward_left-2.new.last c.forward_left.ensures.last c.forward_left-2.ensures.last

pub returns-clause-more : goal.returns-clause-more
returns-clause-more g c =
    let old = c.args.self.now in
    subst (GaveMore old.taker) (sym c.forward_left-2.ensures.taker)
    (subst (λ (t : TakerView ReadLeaseOf). GaveMore t c.take.new.self) c.forward_left.ensures.taker
    (gave_more _ c.forward_left.new.self.taker c.take.new.self c.in_ok-list.list.items c.in_ok-list.ensures.ok c.in_ok-list.ensures.short))

pub returns-clause-dry : goal.returns-clause-dry
returns-clause-dry g c = λ not_full.
    let few = c.in_ok-list.ensures.ok.few in
    let short : length c.in_ok-list.list.items < 4096 = grind (arith, nat_tests, few, not_full) in
    subst HasAll (sym c.forward_left-2.ensures.taker) (has_all _ c.forward_left.new.self.taker c.take.new.self c.in_ok-list.list.items c.in_ok-list.ensures.ok short (c.in_ok-list.ensures.short short))
