use Rattle.std.proofs.Common.{◌∙◌, ap, is_some, sym}
use Rattle.std.specs.List.{position}
use Rattle.sf_live_seats.specs.Seats.{is_lock}
use Rattle.sf_live_seats.proofs.PlaceSearch.{is_some-position}
use Rattle.sf_live_seats.proofs.QueuePass.{has_as}
use Rattle.sf_live_seats.proofs.locks.Locks.has_queue.Goals as goal

pub returns : goal.returns
returns g c = λ seats own.
    let locks = c.args.self.now.queues.items in
    has_as seats.by c.args.queue.0 locks seats.queues.items own.queues
    ∙ sym (is_some-position (is_lock {B = g.row.B.Denot} c.args.queue.0) locks)
    ∙ ap (λ ls. is_some (position (is_lock {B = g.row.B.Denot} c.args.queue.0) ls)) (sym c.deref.ensures.value)
    ∙ ap is_some (sym c.place_in.ensures) ∙ sym c.is_some.ensures
