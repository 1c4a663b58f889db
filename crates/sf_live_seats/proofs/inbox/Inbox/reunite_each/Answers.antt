use Rattle.std.proofs.Common.{get_or, arith, ◌∙◌, sym, refl, subst}
use Rattle.sf_live_seats.specs.declared.seats.Seats.{Seats}
use Rattle.sf_live_seats.specs.Reuniting.{Reunites}
use Rattle.sf_live_seats.specs.Seats.{AreWhole, IsHeard, MaySend}
use Rattle.sf_live_seats.proofs.ReunitedPass.{all_places, none_reunited, one_reunited, zip_places}
use Rattle.sf_live_seats.proofs.GivenPasses.{by_place}
use Rattle.sf_live_seats.proofs.inbox.Inbox.reunite_each.Goals as goal

pub loop-place-init : goal.loop-place-init
loop-place-init g c = record { may = c.requires.may; taker = refl; so = none_reunited g.B.TableName.table c.args.locks.now c.args.ends.now }

pub reunite-requires : goal.reunite-requires
reunite-requires g c =
    let at = c.loop-place in
    let r = c.index-ends-place.result in
    let same = at.invariant.so.rest at.place r (omega arith) in
    record {
      may = at.invariant.may;
      theirs = subst (λ (s : Seats g.row.B.Denot). MaySend g.B.TableName.table c.args.locks.now s) (sym same)
          (by_place (MaySend g.B.TableName.table c.args.locks.now) c.args.ends.now at.place r c.requires.theirs c.loop-place-test.true);
      heard = subst (λ t. IsHeard t (get_or at.ends at.place r).intake) (sym at.invariant.taker)
          (subst (λ (s : Seats g.row.B.Denot). IsHeard c.args.self.now.taker s.intake) (sym same)
          (by_place (λ (s : Seats g.row.B.Denot). IsHeard c.args.self.now.taker s.intake) c.args.ends.now at.place r c.requires.heard c.loop-place-test.true));
    }

pub loop-place-preserved : goal.loop-place-preserved
loop-place-preserved g c =
    let at = c.loop-place in
    record {
      may = c.reunite.ensures.may;
      taker = c.reunite.ensures.taker ∙ at.invariant.taker;
      so =
          one_reunited g.B.TableName.table c.args.locks.now c.args.ends.now at.ends at.place c.index-ends-place.result c.reunite.new.seats c.loop-place-test.true at.invariant.so
          c.in_ok-reunite.ensures.whole c.in_ok-reunite.ensures.reunites;
    }

pub returns-in_err-reunite-clause-taker : goal.returns-in_err-reunite-clause-taker
returns-in_err-reunite-clause-taker g c = c.reunite.ensures.taker ∙ c.loop-place.invariant.taker

pub returns-clause-whole : goal.returns-clause-whole
returns-clause-whole g c =
    let at = c.loop-place in
    let test = c.loop-place-test.false in
    let long = at.invariant.so.long in
    all_places (AreWhole g.B.TableName.table c.args.locks.now) at.ends (λ k d low. at.invariant.so.whole k d (omega (arith, low, test, long)))

pub returns-clause-reunites : goal.returns-clause-reunites
returns-clause-reunites g c =
    let at = c.loop-place in
    let test = c.loop-place-test.false in
    zip_places (Reunites c.args.locks.now) c.args.ends.now at.ends at.invariant.so.long (λ k a b low. at.invariant.so.reunites k a b (omega (arith, low, test)))
