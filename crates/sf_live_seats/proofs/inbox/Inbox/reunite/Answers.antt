use Rattle.std.proofs.Common.{◌≡◌, Some, arith, ap, ◌∙◌, sym, refl, subst}
use Rattle.std.specs.List.{position}
use Rattle.sf_live_seats.specs.declared.inbox.Courier.{Courier}
use Rattle.sf_live_seats.specs.declared.inbox.Inbox.{Inbox}
use Rattle.sf_live_seats.specs.declared.at_intake.AtIntake.TheVariants as at
use Rattle.sf_live_seats.specs.Arriving.{ArrivalsPass}
use Rattle.sf_live_seats.specs.Inboxes.{is_courier}
use Rattle.sf_live_seats.specs.Reuniting.{Reunites}
use Rattle.sf_live_seats.specs.Seats.{AreWhole, IsAtIntake, IsHeard}
use Rattle.sf_live_seats.proofs.IntakeArrivals.{courier_low, stays_inbox}
use Rattle.sf_live_seats.proofs.ReunitedPass.{removed_inbox, reunites_sent, some_same, still_reunites, whole_reunited}
use Rattle.sf_live_seats.proofs.inbox.Inbox.reunite.Goals as goal

pub compare-requires-clause-theirs : goal.compare-requires-clause-theirs
compare-requires-clause-theirs g c =
    let seats = c.args.seats.now in
    let sender = subst (λ at_intake. IsAtIntake c.args.locks.now seats.by seats.arrivals.gave seats.last at_intake) c.in-Sends.is c.requires.theirs.own.way in
    some_same (sym sender.intake ∙ c.requires.may.shared)

pub compare-requires-clause-own : goal.compare-requires-clause-own
compare-requires-clause-own g c = c.requires.may.same

pub returns-in_default-place_of-clause-may : goal.returns-in_default-place_of-clause-may
returns-in_default-place_of-clause-may g c =
    let old = c.args.self.now in
    let new : Inbox g.row.B.Denot = record { taker = c.compare.new.self; senders = old.senders; couriers = old.couriers; held = old.held; rest = old.rest } in
    still_reunites c.args.locks.now c.args.intake.now old new c.requires.may c.compare.ensures.taker refl
    (stays_inbox c.args.locks.now.arrivals old new c.requires.may.own refl c.compare.ensures.taker refl refl)

pub remove-pass-requires : goal.remove-pass-requires
remove-pass-requires g c =
    let old = c.args.self.now in
    let by = c.args.seats.now.by in
    let first : position (is_courier by) old.couriers.items ≡ Some c.in-Some.place = ap (position (is_courier by)) (sym c.deref.ensures.value) ∙ sym c.place_of.ensures ∙ c.in-Some.is in
    let low = courier_low old.couriers.items by c.in-Some.place first in
    let long = old.couriers.ok.0 in
    omega (arith, low, long)

pub returns-clause-may : goal.returns-clause-may
returns-clause-may g c =
    let old = c.args.self.now in
    let new : Inbox g.row.B.Denot = record { taker = c.compare.new.self; senders = old.senders; couriers = c.remove-pass.new.self; held = old.held; rest = old.rest } in
    still_reunites c.args.locks.now c.args.intake.now old new c.requires.may c.compare.ensures.taker refl
    (removed_inbox c.args.locks.now.arrivals old new c.in-Some.place c.requires.may.own c.compare.ensures.taker refl refl c.remove-pass.ensures.items)

pub returns-clause-whole : goal.returns-clause-whole
returns-clause-whole g c =
    let old = c.args.self.now in
    let seats = c.args.seats.now in
    let first : position (is_courier seats.by) old.couriers.items ≡ Some c.in-Some.place = ap (position (is_courier seats.by)) (sym c.deref.ensures.value) ∙ sym c.place_of.ensures ∙ c.in-Some.is in
    let heard = subst (λ at_intake. IsHeard old.taker at_intake) c.in-Sends.is c.requires.heard in
    let courier : Courier g.row.B.Denot = c.remove-pass.result in
    subst (λ (p : ArrivalsPass). AreWhole g.B.TableName.table c.args.locks.now (record seats { arrivals = p; pass = Some courier.pass; intake = at.Nothing })) (sym c.of.ensures)
    (whole_reunited g.B.TableName.table c.args.locks.now old seats c.in-Sends.outbox c.in-Some.place courier c.requires.may.own c.in-Sends.is c.requires.theirs.own c.requires.may.none c.requires.may.all heard c.compare.ensures.begins first
    c.remove-pass.ensures.value)

pub returns-clause-reunites : goal.returns-clause-reunites
returns-clause-reunites g c =
    let old = c.args.self.now in
    let seats = c.args.seats.now in
    let first : position (is_courier seats.by) old.couriers.items ≡ Some c.in-Some.place = ap (position (is_courier seats.by)) (sym c.deref.ensures.value) ∙ sym c.place_of.ensures ∙ c.in-Some.is in
    let heard = subst (λ at_intake. IsHeard old.taker at_intake) c.in-Sends.is c.requires.heard in
    let courier : Courier g.row.B.Denot = c.remove-pass.result in
    subst (λ (p : ArrivalsPass). Reunites c.args.locks.now seats (record seats { arrivals = p; pass = Some courier.pass; intake = at.Nothing })) (sym c.of.ensures)
    (reunites_sent g.B.TableName.table c.args.locks.now old seats c.in-Sends.outbox c.in-Some.place courier c.requires.may.own c.in-Sends.is c.requires.theirs.own c.requires.may.none c.requires.may.all heard c.compare.ensures.begins first
    c.remove-pass.ensures.value)
