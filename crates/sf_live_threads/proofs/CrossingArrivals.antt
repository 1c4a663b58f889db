-- The arrivals may cross to a thread, and what callers have at the intake, which threads may share.
use denote.RattleType.{RattleType}
use denote.Builtin.{unit}
use denote.Param.Send.{IsSend, IsSync}
use denote.Param.SendFields.{declared_send}
use Rattle.std.specs.contracts.marker.Brand as brand
use Rattle.sf_live_seats.specs.sf_intake.contracts.intake.Intake as intake
use Rattle.sf_live_seats.specs.sf_intake.contracts.sender.Sender as sender
use Rattle.sf_live_seats.specs.sf_intake.contracts.taker.Taker as taker
use Rattle.sf_picture.specs.contracts.painted.Painted as painted
use Rattle.sf_picture.specs.contracts.picture.Picture as picture
use Rattle.sf_live_seats.specs.contracts.arrivals.StampedArrivals as arrived
use Rattle.sf_actor_steps.specs.sf_surface.contracts.reading.Closing as closing
use Rattle.sf_actor_steps.specs.sf_surface.contracts.reading.Reading as reading
use Rattle.sf_actor_steps.specs.sf_surface.contracts.reading.ReadLeaseLease.TheImpl as leased
use Rattle.sf_actor_steps.specs.sf_surface.contracts.token.ReadLease as read
use Rattle.sf_actor_steps.specs.sf_token.contracts.arrivals.Arrivals as arrivals
use Rattle.sf_actor_steps.specs.sf_token.contracts.arrivals.ArrivalsObject.TheImpl as arriving
use Rattle.sf_actor_steps.specs.sf_token.contracts.arrivals.ArriveCall as call
use Rattle.sf_actor_steps.specs.sf_token.contracts.arrivals.ArriveReply as reply
use Rattle.sf_actor_steps.specs.sf_token.contracts.arrived.Arrived as one
use Rattle.sf_actor_steps.specs.sf_token.contracts.home.BrandLeaseHome.TheImpl as homed
use Rattle.sf_turns.specs.contracts.painted.PaintedStamped.TheImpl.{ghosts}
use Rattle.sf_turns.specs.contracts.seat.TurnSeat as seat
use Rattle.sf_turns.specs.declared.naming.TableName as naming
use Rattle.sf_actor_steps.specs.sf_txn.contracts.transaction.Transaction as transaction
use Rattle.sf_live_threads.proofs.CrossingIntake.{intake_sync, sender_send, taker_send}
use Rattle.sf_live_threads.proofs.CrossingObjects.{arrivals_send, stamped_send}
use Rattle.sf_live_threads.proofs.CrossingTokens.{arrived_send as one_send, read_send, transaction_send}

module _ (B : RattleType) (T : naming.Ghosts B.Denot) where
  abbrev Eye : RattleType
  Eye = seat.the_row painted.the_row picture.the_row ghosts

  abbrev Arrivals : RattleType
  Arrivals = arrivals.the_row (read.the_row B T) brand.the_row Eye (reading.the_row B T) (closing.the_row B T) (leased.ghosts B T leased.no_dict) (homed.ghosts (read.the_row B T))

  -- a call on the arrivals, and the reply to it
  abbrev pub Call : RattleType
  Call = call.the_row (read.the_row B T) Eye (reading.the_row B T) (closing.the_row B T) (leased.ghosts B T leased.no_dict)

  abbrev pub Reply : RattleType
  Reply = reply.the_row (read.the_row B T) Eye (reading.the_row B T) (closing.the_row B T) (leased.ghosts B T leased.no_dict)

  plain_send : IsSend Arrivals
  plain_send = arrivals_send (read.the_row B T) brand.the_row Eye (reading.the_row B T) (closing.the_row B T) (leased.ghosts B T leased.no_dict) (homed.ghosts (read.the_row B T)) (read_send B T)

  pub arrived_send : IsSend (arrived.the_row B T)
  arrived_send = declared_send (arrived.the_type B T) (
    stamped_send Arrivals Call Reply Call Reply unit
        (arriving.ghosts (read.the_row B T) brand.the_row Eye (reading.the_row B T) (closing.the_row B T) (leased.ghosts B T leased.no_dict) arriving.no_dict
        (homed.ghosts (read.the_row B T)) arriving.no_dict arriving.no_dict) plain_send,
    tt,
  )

  pub intake_shared : IsSync (intake.the_row (read.the_row B T) brand.the_row Eye (reading.the_row B T) (closing.the_row B T) (leased.ghosts B T leased.no_dict) (homed.ghosts (read.the_row B T)))
  intake_shared =
      intake_sync (read.the_row B T) brand.the_row Eye (reading.the_row B T) (closing.the_row B T) (leased.ghosts B T leased.no_dict) (homed.ghosts (read.the_row B T))
      (transaction_send (read.the_row B T) Eye (reading.the_row B T) (closing.the_row B T) (leased.ghosts B T leased.no_dict) (read_send B T))

  txn_send : IsSend (transaction.the_row (read.the_row B T) Eye (reading.the_row B T) (closing.the_row B T) (leased.ghosts B T leased.no_dict))
  txn_send = transaction_send (read.the_row B T) Eye (reading.the_row B T) (closing.the_row B T) (leased.ghosts B T leased.no_dict) (read_send B T)

  -- a transaction that was taken
  abbrev pub One : RattleType
  One = one.the_row (read.the_row B T) Eye (reading.the_row B T) (closing.the_row B T) (leased.ghosts B T leased.no_dict)

  pub taken_send : IsSend One
  taken_send = one_send (read.the_row B T) Eye (reading.the_row B T) (closing.the_row B T) (leased.ghosts B T leased.no_dict) (read_send B T)

  pub sends_send : IsSend (sender.the_row (read.the_row B T) Eye (reading.the_row B T) (closing.the_row B T) (leased.ghosts B T leased.no_dict))
  sends_send = sender_send (read.the_row B T) brand.the_row Eye (reading.the_row B T) (closing.the_row B T) (leased.ghosts B T leased.no_dict) (homed.ghosts (read.the_row B T)) txn_send

  pub takes_send : IsSend (taker.the_row (read.the_row B T) brand.the_row Eye (reading.the_row B T) (closing.the_row B T) (leased.ghosts B T leased.no_dict) (homed.ghosts (read.the_row B T)))
  takes_send = taker_send (read.the_row B T) brand.the_row Eye (reading.the_row B T) (closing.the_row B T) (leased.ghosts B T leased.no_dict) (homed.ghosts (read.the_row B T)) txn_send taken_send
