-- The numbers of a queue's statuses in records.
use Rattle.std.specs.Prelude.{ℕ}
use Rattle.sf_base.specs.declared.status.QStatus.{QStatus}
use Rattle.sf_base.specs.declared.status.QStatus.TheVariants as status

-- the number of a status in records
abbrev pub number_of : QStatus → ℕ
number_of status.Ok = 0
number_of status.Stale = 1
number_of status.NoBuffer = 2
number_of status.PresentLater = 3
number_of status.NoInit = 10
number_of status.BadValue = 11
number_of status.InvalidOperation = 12
number_of status.WouldBlock = 13
number_of status.NoSlot = 14
