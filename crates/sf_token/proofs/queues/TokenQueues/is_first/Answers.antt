use Rattle.std.proofs.Common.{ℕ, ◌==◌, ◌∙◌, ap, false, Option}
use Rattle.std.specs.Option.{option_map_or}
use Rattle.sf_token.specs.Index.{queue_of}
use Rattle.sf_token.specs.Pending.{Arrival, QueuesOf, head_of}
use Rattle.sf_token.proofs.IndexLemmas.{is_first_by}
use Rattle.sf_token.proofs.queues.TokenQueues.is_first.Goals as goal

pub returns-in-Some : goal.returns-in-Some
returns-in-Some g c =
    let token = c.args.token in
    let number = c.args.number in
    ap (λ (first : Option ℕ). option_map_or (λ n. n == number) first false) c.in-Some.ensures
    ∙ is_first_by (queue_of c.self.inside.index.queues) c.self.inside.store token.0 number c.self.invariant.1
    ∙ ap (λ (q : QueuesOf g.row.L.Denot). option_map_or (λ (first : Arrival g.row.L.Denot). first.number == number) (head_of token q.pending) false) c.self.view_is

pub returns-in-None : goal.returns-in-None
returns-in-None g c =
    let token = c.args.token in
    let number = c.args.number in
    ap (λ (first : Option ℕ). option_map_or (λ n. n == number) first false) c.in-None.ensures
    ∙ is_first_by (queue_of c.self.inside.index.queues) c.self.inside.store token.0 number c.self.invariant.1
    ∙ ap (λ (q : QueuesOf g.row.L.Denot). option_map_or (λ (first : Arrival g.row.L.Denot). first.number == number) (head_of token q.pending) false) c.self.view_is
