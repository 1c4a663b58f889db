use Rattle.std.proofs.Common.{◌∙◌, subst}
use Rattle.std.proofs.lemmas.Iterator.Adapters.{YieldsList-from_vec}
use Rattle.std.proofs.lemmas.Iterator.Consumers.{YieldsList-end, YieldsList-turn}
use Rattle.std.specs.Prelude.{List}
use Rattle.sf_live_seats.specs.declared.seats.Seats.{Seats}
use Rattle.sf_live_seats.specs.Seats.{AreWhole}
use Rattle.sf_live_threads.specs.Meeting.{MeetsEach}
use Rattle.sf_live_threads.proofs.MeetLemmas.{gathering_more, gathering_none, still_out}
use Rattle.sf_live_threads.proofs.Zips.{all_next, whole}
use Rattle.sf_live_threads.proofs.all_returned.meet_each.Goals as goal

pub loop-seats-init : goal.loop-seats-init
loop-seats-init g c = record {
  can_next = tt;
  is_finite = tt;
  gathering = gathering_none _ _ c.args.first c.requires.first;
}

pub meet-requires-clause-theirs : goal.meet-requires-clause-theirs
meet-requires-clause-theirs g c =
    let gives = c.into_iter-seats-iterator.ensures.into_iter_gives in
    let t = YieldsList-turn (YieldsList-from_vec c.args.reunited.items gives.0 (gives.1 ∙ c.args.reunited.ok.0)) c.loop-seats.yielded _ c.loop-seats.yielded_by c.next.result c.next.new.self c.in-Some.seats c.in-Some.is c.next.ensures.steps in
    all_next (AreWhole g.B.TableName.table c.args.locks.now) c.args.reunited.items _ c.in-Some.seats c.requires.theirs t

pub meet-requires-clause-out : goal.meet-requires-clause-out
meet-requires-clause-out g c =
    let gives = c.into_iter-seats-iterator.ensures.into_iter_gives in
    let t = YieldsList-turn (YieldsList-from_vec c.args.reunited.items gives.0 (gives.1 ∙ c.args.reunited.ok.0)) c.loop-seats.yielded _ c.loop-seats.yielded_by c.next.result c.next.new.self c.in-Some.seats c.in-Some.is c.next.ensures.steps in
    still_out _ _ c.args.first c.loop-seats.first c.args.reunited.items c.loop-seats.yielded c.requires.out t.0 c.loop-seats.invariant.gathering

pub loop-seats-preserved : goal.loop-seats-preserved
loop-seats-preserved g c = record {
  can_next = tt;
  is_finite = tt;
  gathering = gathering_more _ _ c.args.first c.loop-seats.first c.meet.new.self c.loop-seats.yielded c.in-Some.seats c.loop-seats.invariant.gathering c.in_ok-meet.ensures.first c.in_ok-meet.ensures.meets;
}

pub returns : goal.returns
returns g c =
    let gives = c.into_iter-seats-iterator.ensures.into_iter_gives in
    let all = YieldsList-end (YieldsList-from_vec c.args.reunited.items gives.0 (gives.1 ∙ c.args.reunited.ok.0)) c.loop-seats.yielded _ c.loop-seats.yielded_by c.next.result c.next.new.self c.in-None.is c.next.ensures.steps in record {
      first = c.loop-seats.invariant.gathering.is;
      met = subst (λ (seats : List (Seats g.row.B.Denot)). MeetsEach c.args.first seats c.loop-seats.first) (whole c.loop-seats.yielded c.args.reunited.items all.0) c.loop-seats.invariant.gathering.met;
    }
