use Rattle.std.proofs.Common.{◌∙◌, List, Option, Some, ap, sym, subst}
use Rattle.sf_actor.specs.declared.holding.Holding.{Holding}
use Rattle.sf_actor.specs.declared.holding.Holding.TheVariants as holding
use Rattle.sf_actor_steps.specs.Drawing.{TriesDraw}
use Rattle.sf_actor_steps.specs.declared.tried.Tried.{Tried}
use Rattle.sf_actor_steps.proofs.LeavingLemmas.{ok-map}
use Rattle.sf_actor_steps.proofs.bindings.Bindings.draw.Goals as goal

pub returns-in-Some-Owes-clause-draws : goal.returns-in-Some-Owes-clause-draws
returns-in-Some-Owes-clause-draws g c =
    let looked = g.D.Desk.view c.look-seen.new.desk in
    let new = g.D.Desk.view c.pay.new.desk in
    let held = holding.Owes c.in-Some-Owes.owing c.in-Some-Owes.held in
    ok-map _ _ c.pay.result
    (λ (came_to : Tried) tries. record {
      seen = c.look-seen.result;
      looked = looked;
      sees = c.look-seen.ensures.sees;
      times = c.look-seen.ensures.times;
      held = held;
      there = sym c.take.ensures.value ∙ c.in-Some-Owes.is ∙ ap Some c.in-Some-Owes.field-0-is;
      tries = subst (λ (names : List (Option (Holding _))). TriesDraw c.args.name c.args.picture.now c.look-seen.result held (record c.args.self.now { names = names }) c.pay.new.self looked new came_to) c.take.ensures.after tries;
      turns = c.pay.ensures.turns;
    })
    c.pay.ensures.tries
