use Rattle.std.proofs.Common.{map, reverse, subst, sym}
use Rattle.sf_calls.specs.Histories.{IsLegal}
use Rattle.sf_calls_stamped.specs.Objects.{StampedOf, history_of, pair_of}
use Rattle.sf_calls_stamped.specs.Stamps.{AnswersStamped}
use Rattle.sf_calls_stamped.proofs.StampLemmas.{legal_with, without_stamps}
use Rattle.sf_calls_stamped.proofs.stamped.StampedObject.legal.Goals as goal

pub returns : goal.returns
returns g c =
    let o = c.self.inside.object in
    let stamps = reverse (map pair_of c.self.inside.stamps.items) in
    let s : StampedOf g.row.O.Denot = record { object = o; stamps = stamps } in
    let same = without_stamps stamps (g.O.Object.history o) c.self.invariant.many in
    let answers = g.O.Object.answers (g.O.Object.mark o) in
    let legal = subst (λ calls. IsLegal answers calls) (sym same) c.legal.ensures in
    subst (λ (s : StampedOf g.row.O.Denot). IsLegal (AnswersStamped (g.O.Object.answers (g.O.Object.mark s.object))) (history_of g.O.Object.history s)) c.self.view_is (legal_with answers (history_of g.O.Object.history s) legal c.self.invariant.kept)
