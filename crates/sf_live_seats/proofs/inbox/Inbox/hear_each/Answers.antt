use Rattle.std.proofs.Common.{List, get_or, set, arith, ap, ◌∙◌, sym, refl, subst}
use Rattle.std.proofs.lemmas.List.{set-get_or}
use Rattle.sf_live_seats.specs.declared.seats.Seats.{Seats}
use Rattle.sf_live_seats.specs.declared.at_intake.AtIntake.{AtIntake}
use Rattle.sf_live_seats.specs.Seats.{IsHeard, SendsTo}
use Rattle.sf_live_seats.proofs.IntakeArrivals.{hears_none, hears_on}
use Rattle.sf_live_seats.proofs.ReunitedPass.{all_places, heard_next}
use Rattle.sf_live_seats.proofs.GivenPasses.{by_place}
use Rattle.sf_live_seats.proofs.inbox.Inbox.hear_each.Goals as goal

pub loop-place-init : goal.loop-place-init
loop-place-init g c = record { hears = hears_none c.args.self.now; same = refl; heard = λ k d low. absurd (omega (arith, low)) }

pub hear-requires-clause-own : goal.hear-requires-clause-own
hear-requires-clause-own g c = ap (λ t. t.intake) c.loop-place.invariant.hears.taker ∙ c.requires.own

pub hear-requires-clause-theirs : goal.hear-requires-clause-theirs
hear-requires-clause-theirs g c =
    let at = c.loop-place in
    subst (λ (xs : List (Seats g.row.B.Denot)). SendsTo c.args.intake.now (get_or xs at.place c.index-ends-place.result).intake) (sym at.invariant.same)
    (by_place (λ (s : Seats g.row.B.Denot). SendsTo c.args.intake.now s.intake) c.args.ends.now at.place c.index-ends-place.result c.requires.theirs c.loop-place-test.true)

pub loop-place-preserved : goal.loop-place-preserved
loop-place-preserved g c =
    let at = c.loop-place in
    let one = get_or at.ends at.place c.index-ends-place.result in
    record {
      hears = hears_on c.args.self.now at.self c.hear.new.self at.invariant.hears c.hear.ensures.hears;
      same =
          ap (λ (at_intake : AtIntake g.row.B.Denot). set at.ends at.place (record one { intake = at_intake })) c.hear.ensures.same ∙ set-get_or at.ends at.place c.index-ends-place.result ∙ at.invariant.same;
      heard =
          heard_next at.self.taker c.hear.new.self.taker c.args.ends.now at.ends at.place c.index-ends-place.result at.invariant.same c.loop-place-test.true c.hear.ensures.hears.heard
          c.hear.ensures.heard at.invariant.heard;
    }

pub returns-clause-heard : goal.returns-clause-heard
returns-clause-heard g c =
    let at = c.loop-place in
    let test = c.loop-place-test.false in
    all_places (λ (s : Seats g.row.B.Denot). IsHeard at.self.taker s.intake) c.args.ends.now (λ k d low. at.invariant.heard k d (omega (arith, low, test)))
