use Rattle.std.specs.VecDeque.{deque_items}
use Rattle.sf_token.proofs.IndexLemmas.{both_ok, tokens_of}
use Rattle.sf_token.proofs.queues.TokenQueues.tokens.Goals as goal

pub returns : goal.returns
returns g c = rw (← c.self.view_is) (both_ok c.tokens.result _ _ _ c.tokens.ensures.tokens c.tokens.ensures.rising
    (λ tokens are rising. tokens_of deque_items c.self.inside.index.queues c.self.inside.store tokens.items c.self.invariant.1 are rising))
