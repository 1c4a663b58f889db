-- The tokens of turns may cross to a thread.
use denote.Param.Send.{IsSend, IsSync, sendable}
use Rattle.std.proofs.Crossing.{crosses}
use Rattle.atomic_table.proofs.shared.Seat.TheSendSync.{the_send}
use Rattle.atomic_table.proofs.shared.Shared.TheSendSync as shared
use Rattle.atomic_table.proofs.send_lease.SendLease.TheSendSync as lease
use Rattle.sf_picture.specs.contracts.painted.Painted as painted
use Rattle.sf_picture.specs.contracts.picture.Picture as picture
use Rattle.sf_picture.proofs.painted.Painted.TheSendSync as painted_shown
use Rattle.sf_picture.proofs.picture.Picture.TheSendSync as picture_shown
use Rattle.sf_turns.specs.contracts.protocol.Home as home
use Rattle.sf_turns.specs.contracts.turn_table.TurnTable as turn_table
use Rattle.sf_turns.specs.contracts.turn.Turn as turn
use Rattle.sf_turns.specs.contracts.seat.TurnSeat as seat
use Rattle.sf_turns.specs.contracts.stock.Stock as stock
use Rattle.sf_turns.specs.contracts.stock.Permit as permit
use Rattle.sf_turns.specs.contracts.owed.Owed as owed
use Rattle.sf_turns.specs.contracts.painted.PaintedStamped.TheImpl.{ghosts}

pub home_send : IsSend (home.the_row painted.the_row picture.the_row)
home_send = search (sendable, crosses, painted_shown.the_send, picture_shown.the_send) depth 20

pub table_send : IsSend (turn_table.the_row painted.the_row picture.the_row ghosts)
table_send = search (sendable, crosses, home_send, shared.the_send, lease.the_send) depth 20

pub table_sync : IsSync (turn_table.the_row painted.the_row picture.the_row ghosts)
table_sync = search (sendable, crosses, home_send, shared.the_sync, lease.the_sync) depth 20

pub turn_send : IsSend (turn.the_row painted.the_row picture.the_row ghosts)
turn_send = search (sendable, crosses, the_send, home_send, table_send, table_sync, picture_shown.the_send) depth 20

pub seat_send : IsSend (seat.the_row painted.the_row picture.the_row ghosts)
seat_send = search (sendable, crosses, the_send, home_send, table_send, table_sync) depth 20

pub stock_send : IsSend (stock.the_row painted.the_row picture.the_row ghosts)
stock_send = search (sendable, crosses, the_send, home_send, table_send, table_sync) depth 20

pub permit_send : IsSend (permit.the_row painted.the_row picture.the_row ghosts)
permit_send = search (sendable, crosses, the_send, home_send, table_send, table_sync) depth 20

pub owed_send : IsSend (owed.the_row painted.the_row picture.the_row ghosts)
owed_send = search (sendable, crosses, the_send, home_send, table_send, table_sync, picture_shown.the_send) depth 20
