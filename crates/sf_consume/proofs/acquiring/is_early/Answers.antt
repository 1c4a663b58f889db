use Rattle.std.proofs.Common.{ap, not}
use Rattle.sf_consume.proofs.AcquireLemmas.{due_is}
use Rattle.sf_consume.proofs.acquiring.is_early.Goals as goal

pub returns : goal.returns
returns g c = rw (c.either.ensures, c.drops_front.ensures, c.front_is_due.ensures) (ap not (due_is c.args.expected c.args.q.now.items))
