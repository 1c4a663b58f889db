use Rattle.std.proofs.Common.{◌≡◌, ◌++◌, ◌∷◌, [], map, ap, ◌∙◌, rules}
use Rattle.std.proofs.lemmas.Iterator.Adapters.{YieldsList-from_vec}
use Rattle.std.proofs.lemmas.Iterator.Consumers.{YieldsList-end}
use Rattle.sf_live_compositor.proofs.sf_live_threads_lemmas.Zips.{whole}
use Rattle.sf_live.specs.inner.Threads.{returned_actor, returned_gates}
use Rattle.sf_live.proofs.ActorSetLemmas.{actors_more, gates_more}
use Rattle.sf_live.proofs.threads.returned_parts.Goals as goal

pub loop-one-init : goal.loop-one-init
loop-one-init g c = record {
  can_next = search rules;
  is_finite = search rules;
  actors = c.new-actors.ensures.items;
  gates = c.new-gates.ensures.items;
}

pub loop-one-preserved : goal.loop-one-preserved
loop-one-preserved g c =
    let actors : c.push.new.self.items ≡ c.loop-one.actors.items ++ c.in-Some.one.actor ∷ [] = search rules in
    let gates : c.push-in-loop-one.new.self.items ≡ c.loop-one.gates.items ++ c.in-Some.one.gates ∷ [] = search rules in
    record {
      can_next = search rules;
      is_finite = search rules;
      actors = actors_more c.loop-one.yielded c.in-Some.one c.loop-one.actors.items c.push.new.self.items c.loop-one.invariant.actors actors;
      gates = gates_more c.loop-one.yielded c.in-Some.one c.loop-one.gates.items c.push-in-loop-one.new.self.items c.loop-one.invariant.gates gates;
    }

pub returns-clause-actors : goal.returns-clause-actors
returns-clause-actors g c =
    let all = YieldsList-end (YieldsList-from_vec c.args.returned.items (search rules) (search rules)) c.loop-one.yielded _ c.loop-one.yielded_by c.next.result c.next.new.self c.in-None.is c.next.ensures.steps in
    c.loop-one.invariant.actors ∙ ap (map returned_actor) (whole c.loop-one.yielded c.args.returned.items all.0)

pub returns-clause-gates : goal.returns-clause-gates
returns-clause-gates g c =
    let all = YieldsList-end (YieldsList-from_vec c.args.returned.items (search rules) (search rules)) c.loop-one.yielded _ c.loop-one.yielded_by c.next.result c.next.new.self c.in-None.is c.next.ensures.steps in
    c.loop-one.invariant.gates ∙ ap (map returned_gates) (whole c.loop-one.yielded c.args.returned.items all.0)
