use Rattle.std.proofs.Common.{◌≡◌, arith, refl}
use Rattle.sf_turns.proofs.inside.Inside.issue.Goals as goal

pub issue-heir-requires-clause-token : goal.issue-heir-requires-clause-token
issue-heir-requires-clause-token g c = (_, c.self.invariant.2, refl, (λ z. absurd (cc)), (let h = c.if-deref.false in let r = c.self.ranges in let e = c.deref.ensures in let n : c.self.inside.parts.value.number ≡ c.deref.result.now.number = cc in omega arith))
