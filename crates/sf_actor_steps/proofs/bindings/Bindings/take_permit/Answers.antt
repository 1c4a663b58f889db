use Rattle.std.proofs.Common.{◌≡◌, ◌∷◌, ◌++◌, Option, Some, refl, sym, subst, ap, ◌∙◌}
use Rattle.std.specs.Prelude.{option_to_list}
use Rattle.std.specs.Option.{option_map}
use Rattle.sf_actor.specs.sf_turns.Views.{PermitView}
use Rattle.sf_actor_steps.specs.Forming.{IsOfTable}
use Rattle.sf_actor_steps.proofs.bindings.Bindings.take_permit.Goals as goal

pub returns-in-Some : goal.returns-in-Some
returns-in-Some g c =
    let bindings = c.args.self.now in
    let there : bindings.spare ≡ Some c.in-Some.permit = sym c.take.ensures.value ∙ c.in-Some.is in
    record {
      one =
          ap (λ (spare : Option PermitView). option_to_list (option_map (λ (p : PermitView). p.buffer) spare) ++ bindings.stock.buffers) there
          ∙ sym (ap (λ (spare : Option PermitView). c.in-Some.permit.buffer ∷ (option_to_list (option_map (λ (p : PermitView). p.buffer) spare) ++ bindings.stock.buffers)) c.take.ensures.after);
      none_spare = c.take.ensures.after;
      same = refl;
      table = λ of of_it. (subst (IsOfTable of) there of_it.1, (of_it.0, subst (IsOfTable of) (sym c.take.ensures.after) tt));
    }
