use Rattle.std.proofs.Common.{◌≡◌, ◌++◌, List, rules, sym, ◌∙◌, subst}
use Rattle.std.specs.List.{All, Contains}
use Rattle.sf_token.specs.Pending.{Arrival}
use Rattle.sf_intake.specs.Views.{HasHanded, TakerView, SenderView, IsBeginningOf}
use Rattle.sf_intake.proofs.TakerLemmas.{heard_popped, heard_taken, heard_first, rest_taken}
use Rattle.sf_intake.proofs.taker.Taker.take_rest.Goals as goal

pub hear_each-requires-clause-theirs : goal.hear_each-requires-clause-theirs
hear_each-requires-clause-theirs g c = λ k d lt. c.requires.senders.own k d lt ∙ c.requires.own

pub drain-requires : goal.drain-requires
drain-requires g c = record { own = c.hear_each.ensures.same.same.intake ∙ c.requires.own }

pub returns-in_err-drain-clause-err : goal.returns-in_err-drain-clause-err
returns-in_err-drain-clause-err g c =
    let same = heard_popped c.args.self.now c.hear_each.new.self c.drain.new.self c.hear_each.ensures.same c.drain.ensures.popped in
    let taken = heard_taken c.args.self.now c.hear_each.new.self c.drain.new.self c.hear_each.ensures.same c.drain.ensures.popped in
    let waits = heard_first c.args.self.now c.hear_each.new.self c.drain.new.self c.hear_each.ensures.same c.drain.ensures.popped in
    search rules

pub compare_each-requires-clause-own : goal.compare_each-requires-clause-own
compare_each-requires-clause-own g c = c.drain.ensures.popped.same.intake ∙ (c.hear_each.ensures.same.same.intake ∙ c.requires.own)

pub compare_each-requires-clause-theirs : goal.compare_each-requires-clause-theirs
compare_each-requires-clause-theirs g c = subst (All (λ (s : SenderView g.row.L.Denot). s.intake ≡ c.args.intake.now)) (sym c.hear_each.ensures.senders) (λ k d lt. c.requires.senders.own k d lt ∙ c.requires.own)

pub returns-clause-ok : goal.returns-clause-ok
returns-clause-ok g c =
    let t : TakerView g.row.L.Denot = c.drain.new.self in
    let list : List (Arrival g.row.L.Denot) = c.give_rest.result.items in
    let same : c.compare_each.new.self ≡ t = c.compare_each.ensures.same in
    rest_taken g.N.LeaseHome.holds c.args.self.now c.hear_each.new.self t c.give_rest.new.self c.args.senders.now list c.hear_each.ensures.same c.drain.ensures.popped c.in_ok-drain.ensures.dry c.requires.senders c.hear_each.ensures.heard
    (subst (All (λ (s : SenderView g.row.L.Denot). IsBeginningOf s t.taken)) c.hear_each.ensures.senders c.compare_each.ensures.begins)
    (subst (λ (u : TakerView g.row.L.Denot). HasHanded g.N.LeaseHome.holds u c.give_rest.new.self list) same c.give_rest.ensures.handed)
    c.give_rest.ensures.none
    (subst (λ (u : TakerView g.row.L.Denot). All (λ (x : Arrival g.row.L.Denot). Contains u.made x.actor.0) (u.given ++ list)) same c.give_rest.ensures.theirs)
