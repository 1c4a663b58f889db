use Rattle.std.proofs.Common.{List}
use Rattle.sf_token.specs.Index.{IsIndex, queue_of}
use Rattle.sf_token.specs.Pending.{Arrival, IsRising}
use Rattle.sf_token.proofs.IndexLemmas.{IsIndex-looked, either_way}
use Rattle.sf_token.proofs.LookLemmas.{rising-looked}
use Rattle.sf_token.proofs.queues.TokenQueues.look.Goals as goal

pub invariant_of-self : goal.invariant_of-self
invariant_of-self g c =
    let old = c.self.inside.store in
    let new = c.look.new.self in
    let queue = queue_of c.self.inside.index.queues in
    either_way c.look.result _ old new (λ (list : List (Arrival g.row.L.Denot)). IsRising list c.self.inside.last × IsIndex queue list) c.look.ensures.looked c.look.ensures.err
    (λ looked. (rising-looked g.L.Lease 0 c.self.inside.last old new looked c.self.invariant.0, IsIndex-looked g.L.Lease queue old new looked c.self.invariant.1)) c.self.invariant
