-- A lease to write in two parts: what it says of its buffer, and its work.
use Rattle.sf_surface.specs.declared.lent.LentBuffer.{LentBuffer}
use Rattle.sf_surface.specs.declared.work.Work.{Work}
use Rattle.sf_surface.specs.Tokens.{WriteLeaseOf}

-- what a lease says of its buffer
abbrev pub lent_of : WriteLeaseOf → LentBuffer
lent_of lease = record { queue = lease.queue; slot = lease.slot; held = lease.held; requested = lease.requested; fence = lease.fence }

-- the lease of a buffer, with its work
abbrev pub lease_with : LentBuffer → Work → WriteLeaseOf
lease_with lent work = record { queue = lent.queue; slot = lent.slot; held = lent.held; requested = lent.requested; fence = lent.fence; work = work }
