use Rattle.std.proofs.Common.{refl}
use Rattle.sf_turns.proofs.turn.Turn.drop.Goals as goal

pub let_go-requires-clause-token : goal.let_go-requires-clause-token
let_go-requires-clause-token g c = (_, c.self.invariant.2, refl, (let e = c.deref-3.ensures in cc), (let e = c.deref-4.ensures in cc))
