use Rattle.std.proofs.Common.{◌∙◌, ap, sym}
use Rattle.std.proofs.lemmas.Bool.{eq-eqb, ne_eqb}
use Rattle.sf_live_seats.specs.declared.locks.QueueLock.{QueueLock}
use Rattle.sf_live_seats.specs.Seats.{is_lock}
use Rattle.sf_live_seats.proofs.PlaceSearch.{none_first, none_found, none_next, place_found}
use Rattle.sf_live_seats.proofs.locks.place_in.Goals as goal

pub loop-place-init : goal.loop-place-init
loop-place-init g c = none_first (is_lock c.args.queue.0) c.args.locks.now

pub loop-place-preserved : goal.loop-place-preserved
loop-place-preserved g c =
    let one : QueueLock g.row.B.Denot = c.index-locks-place.result in
    none_next (is_lock c.args.queue.0) c.args.locks.now c.loop-place.place one c.loop-place.invariant c.loop-place-test.true
    (ap (λ (x : QueueLock g.row.B.Denot). is_lock c.args.queue.0 x) (sym c.index-locks-place.is) ∙ ne_eqb one.number.0 c.args.queue.0 c.if-lock-queue.false)

pub returns-then-lock-queue : goal.returns-then-lock-queue
returns-then-lock-queue g c =
    let one : QueueLock g.row.B.Denot = c.index-locks-place.result in
    sym (place_found (is_lock c.args.queue.0) c.args.locks.now c.loop-place.place one c.loop-place.invariant c.loop-place-test.true
    (ap (λ (x : QueueLock g.row.B.Denot). is_lock c.args.queue.0 x) (sym c.index-locks-place.is) ∙ eq-eqb one.number.0 c.args.queue.0 c.if-lock-queue.true))

pub returns : goal.returns
returns g c = sym (none_found (is_lock c.args.queue.0) c.args.locks.now c.loop-place.place c.loop-place.invariant c.loop-place-test.false)
