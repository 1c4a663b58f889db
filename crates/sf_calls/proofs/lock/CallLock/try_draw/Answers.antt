use Rattle.std.proofs.Common.{sym, ◌∙◌, arith}
use Rattle.sf_calls.proofs.Keeps.{draws}
use Rattle.sf_calls.proofs.lock.CallLock.try_draw.Goals as goal

pub compare_exchange-requires : goal.compare_exchange-requires
compare_exchange-requires g c = let i = c.self.invariant in (
  c.requires.own ∙ sym c.self.view_is,
  omega arith,
  draws g.O.Object.history g.O.Object.mark g.O.Object.answers _ _ _ _ _ (let t = c.if-next-lt18446744073709551615.true in omega arith) c.requires.idle.0 c.requires.idle.1,
)
