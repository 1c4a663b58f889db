use Rattle.std.proofs.Common.{◌≡◌, ◌++◌, ◌∷◌, [], map, ap, ◌∙◌}
use Rattle.std.proofs.lemmas.Iterator.Adapters.{YieldsList-from_vec}
use Rattle.std.proofs.lemmas.Iterator.Consumers.{YieldsList-end}
use Rattle.sf_live_threads.specs.Meeting.{as_returned, seats_of}
use Rattle.sf_live_threads.proofs.MeetLemmas.{map_more}
use Rattle.sf_live_threads.proofs.Zips.{whole}
use Rattle.sf_live_threads.proofs.all_returned.parts.Goals as goal

pub loop-seated_actor-init : goal.loop-seated_actor-init
loop-seated_actor-init g c = record {
  can_next = tt;
  is_finite = tt;
  returned = c.new-returned.ensures.items;
  ends = c.new-ends.ensures.items;
}

pub loop-seated_actor-preserved : goal.loop-seated_actor-preserved
loop-seated_actor-preserved g c =
    let one = c.in-Some.seated_actor in
    let returned : c.push.new.self.items ≡ c.loop-seated_actor.returned.items ++ as_returned one ∷ [] = c.in_ok-push.ensures.items in
    let ends : c.push-in-loop-seated_actor.new.self.items ≡ c.loop-seated_actor.ends.items ++ seats_of one ∷ [] = c.in_ok-push-2.ensures.items in
    record {
      can_next = tt;
      is_finite = tt;
      returned = map_more as_returned c.loop-seated_actor.yielded one c.loop-seated_actor.returned.items c.push.new.self.items c.loop-seated_actor.invariant.returned returned;
      ends = map_more seats_of c.loop-seated_actor.yielded one c.loop-seated_actor.ends.items c.push-in-loop-seated_actor.new.self.items c.loop-seated_actor.invariant.ends ends;
    }

pub returns-clause-returned : goal.returns-clause-returned
returns-clause-returned g c =
    let gives = c.into_iter-seated_actor-iterator.ensures.into_iter_gives in
    let all = YieldsList-end (YieldsList-from_vec c.args.seated_actors.items gives.0 (gives.1 ∙ c.args.seated_actors.ok.0)) c.loop-seated_actor.yielded _ c.loop-seated_actor.yielded_by c.next.result c.next.new.self c.in-None.is c.next.ensures.steps in
    c.loop-seated_actor.invariant.returned ∙ ap (map as_returned) (whole c.loop-seated_actor.yielded c.args.seated_actors.items all.0)

pub returns-clause-ends : goal.returns-clause-ends
returns-clause-ends g c =
    let gives = c.into_iter-seated_actor-iterator.ensures.into_iter_gives in
    let all = YieldsList-end (YieldsList-from_vec c.args.seated_actors.items gives.0 (gives.1 ∙ c.args.seated_actors.ok.0)) c.loop-seated_actor.yielded _ c.loop-seated_actor.yielded_by c.next.result c.next.new.self c.in-None.is c.next.ensures.steps in
    c.loop-seated_actor.invariant.ends ∙ ap (map seats_of) (whole c.loop-seated_actor.yielded c.args.seated_actors.items all.0)
