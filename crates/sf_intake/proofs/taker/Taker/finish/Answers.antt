use Rattle.std.proofs.Common.{List, ◌∙◌, refl, subst}
use Rattle.sf_intake.specs.Views.{HasFinished, SenderView}
use Rattle.sf_intake.proofs.TakerLemmas.{written_back}
use Rattle.sf_intake.proofs.taker.Taker.finish.Goals as goal

pub returns-in-Err-clause-err : goal.returns-in-Err-clause-err
returns-in-Err-clause-err g c = (
  c.in-Err.ensures.err.0,
  c.in-Err.ensures.err.2,
  refl,
  written_back c.args.senders.items c.take_rest.new.senders c.args.senders.len (c.in-Err.ensures.senders ∙ c.deref_mut.ensures.value) c.args.senders.ok.0,
)

pub returns-in-Ok-clause-ok : goal.returns-in-Ok-clause-ok
returns-in-Ok-clause-ok g c =
    subst (λ (senders : List (SenderView g.row.L.Denot)). HasFinished g.N.LeaseHome.holds c.args.self senders c.in-Ok.rest.items) c.deref_mut.ensures.value c.in-Ok.ensures.ok.finished
