use Rattle.std.proofs.Common.{◌≡◌, ◌∙◌, List, Some, ap, subst, sym}
use Rattle.sf_calls.specs.Histories.{calls_by}
use Rattle.sf_actor.specs.sf_surface.Tokens.{ReadLeaseOf}
use Rattle.sf_intake.specs.sf_token.Pending.{Arrival}
use Rattle.sf_intake.specs.sf_token.declared.arrivals.ArriveReply.TheVariants as reply
use Rattle.sf_live_seats.specs.Arriving.{ArrivalsPass}
use Rattle.sf_live_seats.specs.Calls.{TookOne}
use Rattle.sf_live_seats.specs.Seats.{sent_in}
use Rattle.sf_live_seats.proofs.PassTake.{newest_took, none_sent, rose_took, took_one}
use Rattle.sf_live_seats.proofs.compositing.take_one.Goals as goal

pub returns-in-Ok-default-Batch-clause-took : goal.returns-in-Ok-default-Batch-clause-took
returns-in-Ok-default-Batch-clause-took g c =
    let marked : c.seat.inside.pass.mark ≡ Some tt = ap (λ (p : ArrivalsPass). p.mark) c.seat.view_is ∙ c.requires.marked in
    subst (λ (p : ArrivalsPass). TookOne p c.call.new.self c.batch.inside.list.items) c.seat.view_is
    (took_one c.seat.inside.pass c.call.new.self c.args.last.now.stamp c.in-Ok-default-Batch.stamp c.in-Ok-default-Batch.field-0-1 c.batch.inside.list.items marked
    (c.in-Ok-default-Batch.field-0-1-is ∙ ap (λ (list : List (Arrival ReadLeaseOf)). reply.Batch list) (sym c.batch.view_is)) c.in-Ok-default-Batch.ensures.done)

pub returns-in-Ok-default-Batch-clause-newest : goal.returns-in-Ok-default-Batch-clause-newest
returns-in-Ok-default-Batch-clause-newest g c =
    let marked : c.seat.inside.pass.mark ≡ Some tt = ap (λ (p : ArrivalsPass). p.mark) c.seat.view_is ∙ c.requires.marked in (
      newest_took c.seat.inside.pass c.call.new.self c.args.last.now.stamp c.in-Ok-default-Batch.stamp c.in-Ok-default-Batch.field-0-1 marked c.in-Ok-default-Batch.ensures.done,
      rose_took c.seat.inside.pass c.call.new.self c.args.last.now.stamp c.in-Ok-default-Batch.stamp c.in-Ok-default-Batch.field-0-1 marked c.in-Ok-default-Batch.ensures.done,
    )

pub returns-in-Ok-default-Batch-clause-sends : goal.returns-in-Ok-default-Batch-clause-sends
returns-in-Ok-default-Batch-clause-sends g c =
    let marked : c.seat.inside.pass.mark ≡ Some tt = ap (λ (p : ArrivalsPass). p.mark) c.seat.view_is ∙ c.requires.marked in
    subst (λ (p : ArrivalsPass). sent_in (calls_by p.by c.call.new.self.seen) ≡ sent_in (calls_by p.by p.seen)) c.seat.view_is
    (none_sent c.seat.inside.pass c.call.new.self c.args.last.now.stamp c.in-Ok-default-Batch.stamp c.in-Ok-default-Batch.field-0-1 marked c.in-Ok-default-Batch.ensures.done)
