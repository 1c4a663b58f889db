use Rattle.std.proofs.Common.{arith}
use Rattle.sf_slots.specs.Queue.{told_of}
use Rattle.sf_queue.proofs.LeaseLemmas.{not_lent_beyond}
use Rattle.sf_queue.proofs.leases.find_lent.Goals as goal

pub returns-then-slot-ge64 : goal.returns-then-slot-ge64
returns-then-slot-ge64 g c = not_lent_beyond (told_of c.args.q.now) c.args.slot _ (omega (arith, c.requires.sized))
