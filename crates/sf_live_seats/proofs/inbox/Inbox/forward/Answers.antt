use Rattle.std.proofs.Common.{◌≡◌, ◌+◌, ◌≤◌, ◌∷◌, ◌++◌, List, Some, length, set, arith, ap, ◌∙◌, sym, refl, subst}
use Rattle.std.specs.Prelude.{option_to_list}
use Rattle.std.specs.List.{position}
use Rattle.std.specs.Vec.{with_item}
use Rattle.std.specs.Vec.Iter.{into_iter_items}
use Rattle.std.proofs.Math.Nat.{le-max_left, le-max_right}
use Rattle.std.proofs.lemmas.List.{set-get_or}
use Rattle.sf_intake.specs.Posts.{newest_of}
use Rattle.sf_actor.specs.sf_surface.Tokens.{ReadLeaseOf}
use Rattle.sf_intake.specs.sf_token.Pending.{Arrival}
use Rattle.sf_live_seats.specs.declared.inbox.Courier.{Courier}
use Rattle.sf_live_seats.specs.declared.inbox.Inbox.{Inbox}
use Rattle.sf_live_seats.specs.Inboxes.{IsAbleTo, IsBelow, is_courier, left_of}
use Rattle.sf_live_seats.proofs.IntakeArrivals.{carries_below, courier_able, courier_low, forwards, left_courier, left_gone, left_one, put_courier, stays_inbox}
use Rattle.sf_live_seats.proofs.inbox.Inbox.forward.Goals as goal

pub returns-in_default-clause-own : goal.returns-in_default-clause-own
returns-in_default-clause-own g c =
    let old = c.args.self.now in
    let new : Inbox g.row.B.Denot = record { taker = old.taker; senders = old.senders; couriers = old.couriers; held = c.next_left.new.held; rest = c.next_left.new.rest } in
    stays_inbox c.args.lock.now old new c.requires.own
    (left_gone old.held c.next_left.new.held c.next_left.result (into_iter_items old.rest) (into_iter_items c.next_left.new.rest) c.next_left.ensures.left c.next_left.ensures.held c.in_default.is) refl refl refl

pub returns-in_default-clause-none : goal.returns-in_default-clause-none
returns-in_default-clause-none g c = λ none.
    ap (λ held. option_to_list held ++ into_iter_items c.next_left.new.rest) c.next_left.ensures.held ∙ c.next_left.ensures.none c.in_default.is

pub unreachable-requires : goal.unreachable-requires
unreachable-requires g c =
    let old = c.args.self.now in
    let by = c.oldest.inside.actor.0 in
    let oldest : Arrival ReadLeaseOf = record { number = c.oldest.inside.number; actor = c.oldest.inside.actor; step = c.oldest.inside.step; txn = c.oldest.inside.txn } in
    let rest = into_iter_items c.next_left.new.rest in
    let left : left_of old ≡ oldest ∷ rest =
    c.next_left.ensures.left ∙ sym (ap (λ (a : Arrival ReadLeaseOf). a ∷ rest) c.oldest.view_is ∙ ap (λ result. option_to_list result ++ rest) (sym c.in-Some.is)) in
    left_courier c.args.lock.now old oldest rest c.requires.own c.requires.couriers.there left
    (ap (position (is_courier by)) (sym c.deref.ensures.value) ∙ sym c.place_of.ensures ∙ c.in_default-place_of.is)

pub index_mut-requires : goal.index_mut-requires
index_mut-requires g c =
    let old = c.args.self.now in
    let by = c.oldest.inside.actor.0 in
    let first : position (is_courier by) old.couriers.items ≡ Some c.in-Some-place_of.place =
    ap (position (is_courier by)) (sym c.deref.ensures.value) ∙ sym c.place_of.ensures ∙ c.in-Some-place_of.is in
    let low = courier_low old.couriers.items by c.in-Some-place_of.place first in
    let long = old.couriers.ok.0 in
    omega (arith, low, long)

pub carry-requires : goal.carry-requires
carry-requires g c =
    let old = c.args.self.now in
    let by = c.oldest.inside.actor.0 in
    let first : position (is_courier by) old.couriers.items ≡ Some c.in-Some-place_of.place =
    ap (position (is_courier by)) (sym c.deref.ensures.value) ∙ sym c.place_of.ensures ∙ c.in-Some-place_of.is in
    let low = courier_low old.couriers.items by c.in-Some-place_of.place first in
    record {
      able = subst (λ (one : Courier g.row.B.Denot). IsAbleTo c.args.lock.now one) (sym c.index_mut.ensures.value)
          (courier_able c.args.lock.now old c.in-Some-place_of.place c.index_mut.result.now c.requires.own low);
    }

pub returns-in-Ok-clause-own : goal.returns-in-Ok-clause-own
returns-in-Ok-clause-own g c =
    let old = c.args.self.now in
    let by = c.oldest.inside.actor.0 in
    let oldest : Arrival ReadLeaseOf = record { number = c.oldest.inside.number; actor = c.oldest.inside.actor; step = c.oldest.inside.step; txn = c.oldest.inside.txn } in
    let new : Inbox g.row.B.Denot = record {
      taker = old.taker;
      senders = old.senders;
      couriers = with_item old.couriers c.in-Some-place_of.place c.carry.new.self;
      held = c.next_left.new.held;
      rest = c.next_left.new.rest;
    } in
    let first : position (is_courier by) old.couriers.items ≡ Some c.in-Some-place_of.place =
    ap (position (is_courier by)) (sym c.deref.ensures.value) ∙ sym c.place_of.ensures ∙ c.in-Some-place_of.is in
    let left : left_of old ≡ oldest ∷ left_of new =
    left_one old.held c.next_left.new.held c.next_left.result (into_iter_items old.rest) (into_iter_items c.next_left.new.rest) c.in-Some.oldest c.next_left.ensures.left c.next_left.ensures.held c.in-Some.is
    ∙ ap (λ (a : Arrival ReadLeaseOf). a ∷ left_of new) (sym c.oldest.view_is) in
    let newest : newest_of old.taker.taken ≤ c.max-stamp.result =
    (let a = c.max-stamp.ensures in let b = c.newest.ensures in let d = le-max_right c.args.last.now.stamp c.newest.result in omega (arith, a, b, d)) in
    forwards c.args.lock.now old new oldest c.in-Some-place_of.place c.index_mut.result.now c.carry.new.self c.max-stamp.result c.in-Ok.given c.requires.own first c.index_mut.ensures.value left refl refl refl
    c.in-Ok.ensures.carried newest

pub returns-in-Ok-clause-couriers : goal.returns-in-Ok-clause-couriers
returns-in-Ok-clause-couriers g c =
    let old = c.args.self.now in
    let before = c.args.last.now.stamp in
    let low : before ≤ c.max-stamp.result = (let b = c.max-stamp.ensures in let d = le-max_left before c.newest.result in omega (arith, b, d)) in
    let above = c.in-Ok.ensures.carried.above in
    put_courier (before + 1) (c.in-Ok.given + 1) old.taker.made old.couriers.items c.in-Some-place_of.place c.index_mut.result.now c.carry.new.self c.requires.couriers c.index_mut.ensures.value c.in-Ok.ensures.carried.by
    (omega (arith, low, above)) (carries_below (before + 1) c.index_mut.result.now c.carry.new.self c.max-stamp.result c.in-Ok.given _ _ c.in-Ok.ensures.carried (omega (arith, low)))

pub returns-in-Ok-clause-last : goal.returns-in-Ok-clause-last
returns-in-Ok-clause-last g c = record {
  step = refl;
  stamp = (let a = c.in-Ok.ensures.carried.above in let b = c.max-stamp.ensures in let d = le-max_left c.args.last.now.stamp c.newest.result in omega (arith, a, b, d));
}

pub returns-in-Ok-clause-fewer : goal.returns-in-Ok-clause-fewer
returns-in-Ok-clause-fewer g c = λ more.
    let old = c.args.self.now in
    let left =
    left_one old.held c.next_left.new.held c.next_left.result (into_iter_items old.rest) (into_iter_items c.next_left.new.rest) c.in-Some.oldest c.next_left.ensures.left c.next_left.ensures.held c.in-Some.is in
    let long = ap (λ (list : List (Arrival ReadLeaseOf)). length list) left in
    omega (arith, long)

pub returns-in-Err-clause-own : goal.returns-in-Err-clause-own
returns-in-Err-clause-own g c =
    let old = c.args.self.now in
    let place = c.in-Some-place_of.place in
    let oldest : Arrival ReadLeaseOf = record { number = c.oldest.inside.number; actor = c.oldest.inside.actor; step = c.oldest.inside.step; txn = c.in-Err.txn } in
    let new : Inbox g.row.B.Denot = record { taker = old.taker; senders = old.senders; couriers = with_item old.couriers place c.carry.new.self; held = Some oldest; rest = c.next_left.new.rest } in
    let rest = into_iter_items c.next_left.new.rest in
    let back = c.in-Err.ensures.back in
    let same = ap (λ txn. record { number = c.oldest.inside.number; actor = c.oldest.inside.actor; step = c.oldest.inside.step; txn = txn }) back.0 ∙ c.oldest.view_is in
    stays_inbox c.args.lock.now old new c.requires.own
    (ap (λ (a : Arrival ReadLeaseOf). a ∷ rest) same ∙ sym (c.next_left.ensures.left ∙ ap (λ result. option_to_list result ++ rest) c.in-Some.is)) refl refl
    (ap (λ (one : Courier g.row.B.Denot). set old.couriers.items place one) (back.1 ∙ c.index_mut.ensures.value) ∙ set-get_or old.couriers.items place c.index_mut.result.now)

pub returns-in-Err-clause-couriers : goal.returns-in-Err-clause-couriers
returns-in-Err-clause-couriers g c =
    let old = c.args.self.now in
    let bound = c.args.last.now.stamp + 1 in
    let same = c.in-Err.ensures.back.1 in
    put_courier bound bound old.taker.made old.couriers.items c.in-Some-place_of.place c.index_mut.result.now c.carry.new.self c.requires.couriers c.index_mut.ensures.value
    (ap (λ (one : Courier g.row.B.Denot). one.by) same) (omega arith) (λ below. subst (IsBelow bound) (sym same) below)
