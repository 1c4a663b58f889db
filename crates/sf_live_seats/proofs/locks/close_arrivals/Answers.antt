use Rattle.std.proofs.Common.{List, ◌∙◌, ap, subst, sym}
use Rattle.sf_calls.specs.Histories.{GoesOnWithout, IsLegal, calls_by}
use Rattle.sf_calls.specs.Passes.{TookAll}
use Rattle.sf_calls_stamped.specs.Stamps.{AnswersStamped, unstamped}
use Rattle.sf_calls_stamped.proofs.StampLemmas.{legal_without, rises}
use Rattle.sf_intake.specs.sf_token.Arrivals.{AnswersCall}
use Rattle.sf_live_seats.specs.Arriving.{ArrivalEntry, ArrivalsPass}
use Rattle.sf_live_seats.specs.Closing.{AreArrivalsClosed}
use Rattle.sf_live_seats.proofs.locks.close_arrivals.Goals as goal

pub close-requires-clause-own : goal.close-requires-clause-own
close-requires-clause-own g c = ap (λ (p : ArrivalsPass). p.table) c.into_pass.ensures ∙ c.requires.own

pub close-requires-clause-first : goal.close-requires-clause-first
close-requires-clause-first g c = ap (λ (p : ArrivalsPass). p.is_first) c.into_pass.ensures ∙ c.requires.is_first

pub close-requires-clause-took_all : goal.close-requires-clause-took_all
close-requires-clause-took_all g c = subst (λ (p : ArrivalsPass). TookAll p.gave p.took) (sym c.into_pass.ensures) c.requires.took_all

pub returns : goal.returns
returns g c =
    let closed = c.in-Ok.ensures in
    let pass = c.into_pass.result in
    let legal = subst (λ (log : List ArrivalEntry). IsLegal (AnswersStamped AnswersCall) log) closed.history closed.legal in
    let is : AreArrivalsClosed pass c.into_arrivals.result = record {
      calls = c.into_arrivals.ensures ∙ ap unstamped closed.history;
      rise = rises pass.seen (legal_without AnswersCall pass.seen legal).1;
      taken = λ p there. subst (λ (log : List ArrivalEntry). GoesOnWithout p.0 p.1 log) closed.history (closed.taken p there);
      callers = λ b not. sym (ap (λ (log : List ArrivalEntry). calls_by b log) closed.history) ∙ closed.callers b not;
    } in
    subst (λ (p : ArrivalsPass). AreArrivalsClosed p c.into_arrivals.result) c.into_pass.ensures is
