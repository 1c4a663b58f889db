use Rattle.std.proofs.Common.{◌∙◌, ◌++◌, ◌∷◌, [], ℕ, List, Contains, refl, subst, sym}
use Rattle.std.proofs.lemmas.Iterator.Adapters.{YieldsList-from_vec}
use Rattle.std.proofs.lemmas.Iterator.Consumers.{YieldsList-end, YieldsList-turn}
use Rattle.sf_live_seats.specs.First.{Gives, IsGiven, gave_of}
use Rattle.sf_live_threads.specs.declared.seated_actor.SeatedActor.{SeatedActor}
use Rattle.sf_live_threads.proofs.SeatingLemmas.{Seating, after_seating, seating_more, seating_none, fresh}
use Rattle.sf_live_threads.proofs.Zips.{pushed_on, whole}
use Rattle.sf_live_threads.proofs.seating.seat_actors.Goals as goal

pub loop-actor-init : goal.loop-actor-init
loop-actor-init g c = record {
  can_next = tt;
  is_finite = tt;
  seating = seating_none _ _ c.args.first c.args.actors.items c.new-seated_actors.result.items c.new-seated_actors.ensures.items c.requires.first c.requires.none c.requires.unused;
}

pub split-requires-clause-fresh : goal.split-requires-clause-fresh
split-requires-clause-fresh g c = λ has.
    let gives = c.into_iter-actor-iterator.ensures.into_iter_gives in
    let t = YieldsList-turn (YieldsList-from_vec c.args.actors.items gives.0 (gives.1 ∙ c.args.actors.ok.0)) c.loop-actor.yielded _ c.loop-actor.yielded_by c.next.result c.next.new.self c.in-Some.actor c.in-Some.is c.next.ensures.steps in
    fresh _ _ c.args.first c.args.actors.items c.loop-actor.yielded c.loop-actor.first _ c.in-Some.actor c.requires.rising t c.loop-actor.invariant.seating
    (subst (λ (n : ℕ). Contains (c.loop-actor.first.seats.by ∷ gave_of c.loop-actor.first) n) c.number.ensures has)

pub loop-actor-preserved : goal.loop-actor-preserved
loop-actor-preserved g c =
    let gives = c.into_iter-actor-iterator.ensures.into_iter_gives in
    let t = YieldsList-turn (YieldsList-from_vec c.args.actors.items gives.0 (gives.1 ∙ c.args.actors.ok.0)) c.loop-actor.yielded _ c.loop-actor.yielded_by c.next.result c.next.new.self c.in-Some.actor c.in-Some.is c.next.ensures.steps in
    let seated_actor : SeatedActor g.row.B.Denot = record { actor = c.in-Some.actor; seats = c.in_ok-seats.seats; gates = c.new.result } in
    let pushed = pushed_on c.push.result c.loop-actor.seated_actors.items (c.loop-actor.seated_actors.items ++ seated_actor ∷ []) c.push.new.self.items (sym c.is_err.ensures.value ∙ c.if-is_err.false) c.push.ensures.items in
    let e = c.in_ok-seats.ensures in record {
      can_next = tt;
      is_finite = tt;
      seating = subst (λ (l : List (SeatedActor g.row.B.Denot)). Seating g.B.TableName.table c.args.locks.now c.args.first c.args.actors.items (c.loop-actor.yielded ++ c.in-Some.actor ∷ []) c.split.new.self l) (sym pushed)
          (seating_more _ _ c.args.first c.loop-actor.first c.split.new.self c.args.actors.items c.loop-actor.yielded c.loop-actor.seated_actors.items c.in-Some.actor seated_actor c.requires.rising t c.loop-actor.invariant.seating
          e.first (subst (λ (n : ℕ). Gives n c.loop-actor.first c.split.new.self) c.number.ensures e.gives) e.seats
          (subst (λ (n : ℕ). IsGiven n c.loop-actor.first.seats c.in_ok-seats.seats) c.number.ensures e.given) refl c.new.ensures);
    }

pub returns : goal.returns
returns g c =
    let gives = c.into_iter-actor-iterator.ensures.into_iter_gives in
    let all = YieldsList-end (YieldsList-from_vec c.args.actors.items gives.0 (gives.1 ∙ c.args.actors.ok.0)) c.loop-actor.yielded _ c.loop-actor.yielded_by c.next.result c.next.new.self c.in-None.is c.next.ensures.steps in
    let k = after_seating _ _ c.args.first c.loop-actor.first c.args.actors.items c.loop-actor.yielded c.loop-actor.seated_actors.items (whole c.loop-actor.yielded c.args.actors.items all.0) c.loop-actor.invariant.seating in record {
      first = k.0;
      gives = k.1;
      seated_actors = k.2;
    }
