use Rattle.std.proofs.Common.{◌∙◌, ap, sym, refl, Bool}
use Rattle.std.specs.Prelude.{if◌then◌else◌}
use Rattle.sf_actor_steps.specs.Leaving.{without_lent}
use Rattle.sf_actor_steps.proofs.bindings.Bindings.disconnect.Goals as goal
use Rattle.sf_actor_steps.proofs.bindings.Bindings.disconnect.Goals.{then-was_ok, else-was_ok}

pub returns-clause-makes : goal.returns-clause-makes
returns-clause-makes g c = λ pictures.
    let called = c.ask.new.self in
    let dropped = λ (done : Bool). if done then without_lent c.args.queue called else called in
    record {
      called = called;
      makes = record { taken = c.args.self.now; asking = c.named.result; forms = (refl, c.named.ensures); tries = c.in_ok-tried.ensures.tries };
      drops = elim c.if-was_ok.branch [
        | then-was_ok w ↦ w.self-is ∙ (w.drop_lent.ensures ∙ ap dropped (sym w.if-was_ok.true ∙ c.was_ok.ensures))
        | else-was_ok w ↦ w.self-is ∙ ap dropped (sym w.if-was_ok.false ∙ c.was_ok.ensures)
      ];
    }
