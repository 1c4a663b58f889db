use Rattle.std.proofs.Common.{◌++◌, List, sym, ◌∙◌, subst}
use Rattle.std.specs.List.{All, Contains}
use Rattle.sf_token.specs.Pending.{Arrival}
use Rattle.sf_intake.specs.Passes.{known}
use Rattle.sf_intake.proofs.TakerLemmas.{all_cut, handed_over, handed_keeps, rest_theirs}
use Rattle.sf_intake.proofs.taker.Taker.give_rest.Goals as goal

pub invariant_of-self : goal.invariant_of-self
invariant_of-self g c =
    let w = c.self.inside.waiting.items in
    let cut = all_cut w c.replace.result.items c.replace.new.dest.items (λ i. (c.replace.ensures.value i).items) ((λ i. (c.replace.ensures.after i).items) ∙ c.new.ensures.items) in (
      handed_keeps g.N.LeaseHome.holds (known c.self.inside.pass) w c.replace.result.items c.replace.new.dest.items c.self.inside.last cut c.self.invariant.0,
      c.self.invariant.1,
      c.self.invariant.2,
      c.self.invariant.3,
    )

pub returns-clause-handed : goal.returns-clause-handed
returns-clause-handed g c =
    let w = c.self.inside.waiting.items in
    let cut = all_cut w c.replace.result.items c.replace.new.dest.items (λ i. (c.replace.ensures.value i).items) ((λ i. (c.replace.ensures.after i).items) ∙ c.new.ensures.items) in
    handed_over g.N.LeaseHome.holds c.args.self.now (known c.self.inside.pass) c.self.inside.pass.web w c.replace.result.items c.replace.new.dest.items c.self.inside.last c.self.inside.empties c.self.view_is
    cut c.self.invariant.0

pub returns-clause-none : goal.returns-clause-none
returns-clause-none g c = (λ i. (c.replace.ensures.after i).items) ∙ c.new.ensures.items

pub returns-clause-theirs : goal.returns-clause-theirs
returns-clause-theirs g c =
    subst (λ (l : List (Arrival g.row.L.Denot)). All (λ (x : Arrival g.row.L.Denot). Contains c.args.self.now.made x.actor.0) (c.args.self.now.given ++ l)) (λ i. (sym c.replace.ensures.value i).items)
    (rest_theirs g.N.LeaseHome.holds c.args.self.now (known c.self.inside.pass) c.self.inside.pass.web c.self.inside.waiting.items c.self.inside.last c.self.inside.empties c.self.view_is c.self.invariant.0)
