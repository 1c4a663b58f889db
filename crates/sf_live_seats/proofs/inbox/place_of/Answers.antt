use Rattle.std.proofs.Common.{◌∙◌, ap, sym}
use Rattle.std.proofs.lemmas.Bool.{eq-eqb, ne_eqb}
use Rattle.sf_live_seats.specs.declared.inbox.Courier.{Courier}
use Rattle.sf_live_seats.specs.Inboxes.{is_courier}
use Rattle.sf_live_seats.proofs.PlaceSearch.{none_first, none_found, none_next, place_found}
use Rattle.sf_live_seats.proofs.inbox.place_of.Goals as goal

pub loop-place-init : goal.loop-place-init
loop-place-init g c = none_first (is_courier c.args.by) c.args.couriers.now

pub loop-place-preserved : goal.loop-place-preserved
loop-place-preserved g c =
    let one : Courier g.row.B.Denot = c.index-couriers-place.result in
    none_next (is_courier c.args.by) c.args.couriers.now c.loop-place.place one c.loop-place.invariant c.loop-place-test.true
    (ap (λ (x : Courier g.row.B.Denot). is_courier c.args.by x) (sym c.index-couriers-place.is) ∙ ne_eqb one.by c.args.by c.if-courier-by.false)

pub returns-then-courier-by : goal.returns-then-courier-by
returns-then-courier-by g c =
    let one : Courier g.row.B.Denot = c.index-couriers-place.result in
    sym (place_found (is_courier c.args.by) c.args.couriers.now c.loop-place.place one c.loop-place.invariant c.loop-place-test.true
    (ap (λ (x : Courier g.row.B.Denot). is_courier c.args.by x) (sym c.index-couriers-place.is) ∙ eq-eqb one.by c.args.by c.if-courier-by.true))

pub returns : goal.returns
returns g c = sym (none_found (is_courier c.args.by) c.args.couriers.now c.loop-place.place c.loop-place.invariant c.loop-place-test.false)
