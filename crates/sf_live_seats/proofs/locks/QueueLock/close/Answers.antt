use Rattle.std.proofs.Common.{List, ◌∙◌, ap, subst, sym}
use Rattle.sf_calls.specs.Histories.{GoesOnWithout, IsLegal, calls_by}
use Rattle.sf_calls.specs.Passes.{TookAll}
use Rattle.sf_calls_stamped.specs.Stamps.{AnswersStamped, unstamped}
use Rattle.sf_calls_stamped.proofs.StampLemmas.{legal_without, rises}
use Rattle.sf_actor.specs.sf_surface.Histories.{Answers}
use Rattle.sf_actor.specs.sf_surface.Objects.{mark_of}
use Rattle.sf_live_seats.specs.Closing.{IsClosed, IsLast}
use Rattle.sf_live_seats.specs.Seats.{QueueEntry, QueuePass, mark_in}
use Rattle.sf_live_seats.proofs.locks.QueueLock.close.Goals as goal

pub close-requires-clause-took_all : goal.close-requires-clause-took_all
close-requires-clause-took_all g c = subst (λ (p : QueuePass g.row.B.Denot). TookAll p.gave p.took) (sym c.into_pass.ensures) c.requires.own.took_all

pub returns : goal.returns
returns g c =
    let closed = c.in-Ok.ensures in
    let pass = c.into_pass.result in
    let own = subst (IsLast c.args.self) (sym c.into_pass.ensures) c.requires.own in
    let mark = mark_of c.in-Ok.stamped.object in
    let legal = subst (λ (log : List (QueueEntry g.row.B.Denot)). IsLegal (AnswersStamped (Answers mark)) log) closed.history closed.legal in
    let is : IsClosed c.args.self pass c.into_object.result = record {
      mark = ap mark_of c.into_object.ensures.object ∙ ap mark_in (sym closed.mark ∙ own.marked);
      calls = c.into_object.ensures.history ∙ ap unstamped closed.history;
      rise = rises pass.seen (legal_without (Answers mark) pass.seen legal).1;
      taken = λ p there. subst (λ (log : List (QueueEntry g.row.B.Denot)). GoesOnWithout p.0 p.1 log) closed.history (closed.taken p there);
      callers = λ b not. sym (ap (λ (log : List (QueueEntry g.row.B.Denot)). calls_by b log) closed.history) ∙ closed.callers b not;
    } in
    subst (λ (p : QueuePass g.row.B.Denot). IsClosed c.args.self p c.into_object.result) c.into_pass.ensures is
