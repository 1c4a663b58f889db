use Rattle.std.proofs.Common.{◌∙◌, ap, rules}
use Rattle.std.proofs.lemmas.Iterator.Adapters.{YieldsList-from_vec}
use Rattle.std.proofs.lemmas.Iterator.Consumers.{YieldsList-end, YieldsList-turn}
use Rattle.std.proofs.lemmas.List.{length_push}
use Rattle.sf_actor_steps.specs.sf_turns.Views.{StockView}
use Rattle.sf_actor_set.proofs.OpeningLemmas.{next_enough, opening_last, opening_more}
use Rattle.sf_actor_set.proofs.open.open_each_actor.Goals as goal

pub open_actor-requires-clause-own : goal.open_actor-requires-clause-own
open_actor-requires-clause-own g c = c.loop-script.invariant.own

pub open_actor-requires-clause-enough : goal.open_actor-requires-clause-enough
open_actor-requires-clause-enough g c =
    let t = YieldsList-turn (YieldsList-from_vec c.args.scripts.items (search rules) (search rules)) c.loop-script.yielded _ c.loop-script.yielded_by c.next.result c.next.new.self c.in-Some.script c.in-Some.is c.next.ensures.steps in
    next_enough _ _ _ _ _ _ c.in-Some.script t c.loop-script.invariant.opening

pub loop-script-preserved : goal.loop-script-preserved
loop-script-preserved g c =
    let t = YieldsList-turn (YieldsList-from_vec c.args.scripts.items (search rules) (search rules)) c.loop-script.yielded _ c.loop-script.yielded_by c.next.result c.next.new.self c.in-Some.script c.in-Some.is c.next.ensures.steps in
    let n = length_push c.loop-script.yielded c.in-Some.script in
    let h = c.loop-script.invariant in
    let opened = c.in_ok-open_actor.ensures in
    record {
      can_next = search rules;
      is_finite = search rules;
      own = ap (λ (stock : StockView). stock.table) opened.rest ∙ h.own;
      opening = rw n (opening_more _ _ _ _ _ _ _ _ _ c.in-Some.script t opened.actor c.in_ok-push.ensures.items (ap (λ (stock : StockView). stock.buffers) opened.rest) h.opening);
    }

pub returns : goal.returns
returns g c =
    let all = YieldsList-end (YieldsList-from_vec c.args.scripts.items (search rules) (search rules)) c.loop-script.yielded _ c.loop-script.yielded_by c.next.result c.next.new.self c.in-None.is c.next.ensures.steps in
    opening_last _ _ _ _ _ _ all.1 c.loop-script.invariant.opening
