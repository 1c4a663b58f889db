-- A caller's passes and seats may cross to a thread, and threads may share the locks.
use mathlib.Core.List.{[], ◌∷◌}
use denote.RattleType.{RattleType}
use denote.Builtin.{u32, u64, unit}
use denote.Struct.Tuple.{Tuple}
use denote.Param.Send.{IsSend, IsSync, sendable, view_send}
use denote.Param.SendFields.{declared_send, declared_sync, variants_send, variants_sync}
use Rattle.std.proofs.Crossing.{Vec-send, Vec-sync, crosses}
use Rattle.sf_actor_steps.specs.sf_calls.contracts.pass.Pass as pass
use Rattle.sf_live_seats.proofs.clock.Clock.TheSendSync as clock_shown
use Rattle.sf_live_seats.specs.contracts.arrivals.StampedArrivals as arrived
use Rattle.sf_live_seats.specs.contracts.arrivals.StampedArrivalsObject.TheImpl as arriving
use Rattle.sf_live_seats.specs.contracts.arrivals_seat.ArrivalsSeat as arrivals_seat
use Rattle.sf_live_seats.specs.contracts.arrivals_seat.ArrivalsSeat.TheInside as arrivals_seat_inside
use Rattle.sf_live_seats.specs.contracts.at_intake.AtIntake as at_intake
use Rattle.sf_live_seats.specs.contracts.inbox.Courier as courier
use Rattle.sf_live_seats.specs.contracts.inbox.Inbox as inbox
use Rattle.sf_live_seats.specs.contracts.locks.Locks as locks
use Rattle.sf_live_seats.specs.contracts.locks.QueueLock as queue_lock
use Rattle.sf_live_seats.specs.contracts.outbox.Outbox as outbox
use Rattle.sf_live_seats.specs.contracts.queue_seat.QueueSeat as queue_seat
use Rattle.sf_live_seats.specs.contracts.queue_seat.QueueSeat.TheInside as queue_seat_inside
use Rattle.sf_live_seats.specs.contracts.seats.Seats as seats
use Rattle.sf_live_seats.specs.contracts.shown.Shown as shown
use Rattle.sf_live_seats.specs.contracts.shown.Shown.TheInside as shown_inside
use Rattle.sf_live_seats.specs.sf_calls_stamped.contracts.stamped.Stamped as stamped
use Rattle.sf_live_seats.specs.sf_calls_stamped.contracts.stamped.StampedObject.TheImpl as stamping
use Rattle.sf_actor_steps.specs.sf_surface.contracts.call.QCall as call
use Rattle.sf_actor_steps.specs.sf_surface.contracts.call.QReply as reply
use Rattle.sf_actor_steps.specs.sf_surface.contracts.mark.QueueMark as mark
use Rattle.sf_actor_steps.specs.sf_surface.contracts.object.QueueObject as queue
use Rattle.sf_actor_steps.specs.sf_surface.contracts.object.QueueObjectObject.TheImpl as queued
use Rattle.sf_actor_steps.proofs.sf_times_lemmas.seat.TimeSeat.TheSendSync as time_seat_shown
use Rattle.sf_actor_steps.proofs.sf_times_lemmas.timelines.Timelines.TheSendSync as timelines_shown
use Rattle.sf_turns.specs.declared.naming.TableName as naming
use Rattle.sf_live_threads.proofs.CrossingArrivals.{Call, Reply, arrived_send, intake_shared, sends_send, taken_send, takes_send}
use Rattle.sf_live_threads.proofs.CrossingObjects.{lock_sync, pass_send, stamped_send}
use Rattle.sf_live_threads.proofs.CrossingTokens.{queue_send}
use Rattle.sf_live_threads.proofs.CrossingTurns.{seat_send}

module _ (B : RattleType) (T : naming.Ghosts B.Denot) where
  -- a call on a queue; a queue that stamps its calls
  abbrev Asked : RattleType
  Asked = Tuple (u32 ∷ call.the_row B T ∷ [])

  abbrev Queue : RattleType
  Queue = stamped.the_row (queue.the_row B T) Asked (reply.the_row B T) Asked (reply.the_row B T) mark.the_row (queued.ghosts B T queued.no_dict)

  stamped_queue_send : IsSend Queue
  stamped_queue_send = stamped_send (queue.the_row B T) Asked (reply.the_row B T) Asked (reply.the_row B T) mark.the_row (queued.ghosts B T queued.no_dict) (queue_send B T)

  -- calls and replies with their stamps
  abbrev QueueCall : RattleType
  QueueCall = Tuple (u64 ∷ Asked ∷ [])

  abbrev QueueReply : RattleType
  QueueReply = Tuple (u64 ∷ reply.the_row B T ∷ [])

  abbrev QueuePass : RattleType
  QueuePass = pass.the_row Queue QueueCall QueueReply QueueCall QueueReply mark.the_row
      (stamping.ghosts (queue.the_row B T) Asked (reply.the_row B T) Asked (reply.the_row B T) mark.the_row (queued.ghosts B T queued.no_dict) stamping.no_dict)

  queue_pass_send : IsSend QueuePass
  queue_pass_send = pass_send Queue QueueCall QueueReply QueueCall QueueReply mark.the_row
      (stamping.ghosts (queue.the_row B T) Asked (reply.the_row B T) Asked (reply.the_row B T) mark.the_row (queued.ghosts B T queued.no_dict) stamping.no_dict) stamped_queue_send

  queue_seat_send : IsSend (queue_seat.the_row B T)
  queue_seat_send = view_send _ _ _ _ _ (declared_send (queue_seat_inside.the_type B T) (queue_pass_send, tt))

  abbrev ArriveCall : RattleType
  ArriveCall = Tuple (u64 ∷ Call B T ∷ [])

  abbrev ArriveReply : RattleType
  ArriveReply = Tuple (u64 ∷ Reply B T ∷ [])

  abbrev ArrivalsPass : RattleType
  ArrivalsPass = pass.the_row (arrived.the_row B T) ArriveCall ArriveReply ArriveCall ArriveReply unit (arriving.ghosts B T arriving.no_dict)

  arrivals_pass_send : IsSend ArrivalsPass
  arrivals_pass_send = pass_send (arrived.the_row B T) ArriveCall ArriveReply ArriveCall ArriveReply unit (arriving.ghosts B T arriving.no_dict) (arrived_send B T)

  arrivals_seat_send : IsSend (arrivals_seat.the_row B T)
  arrivals_seat_send = view_send _ _ _ _ _ (declared_send (arrivals_seat_inside.the_type B T) (arrivals_pass_send, tt))

  -- what a caller has at the intake
  outbox_send : IsSend (outbox.the_row B T)
  outbox_send = declared_send (outbox.the_type B T) (sends_send B T, (search crosses, tt))

  courier_send : IsSend (courier.the_row B T)
  courier_send = declared_send (courier.the_type B T) (search crosses, (arrivals_seat_send, tt))

  inbox_send : IsSend (inbox.the_row B T)
  inbox_send = declared_send (inbox.the_type B T) (
    takes_send B T,
    (
      search crosses,
      (
        Vec-send (courier.the_row B T) courier_send,
        (search (sendable, crosses, variants_send, taken_send) depth 20, (search (sendable, crosses, taken_send) depth 20, tt)),
      ),
    ),
  )

  at_intake_send : IsSend (at_intake.the_row B T)
  at_intake_send = search (sendable, crosses, variants_send, outbox_send, inbox_send) depth 20

  shown_send : IsSend (shown.the_row B T)
  shown_send = view_send _ _ _ _ _ (declared_send (shown_inside.the_type B T) (search (sendable, crosses) depth 20, tt))

  pub seats_send : IsSend (seats.the_row B T)
  seats_send = declared_send (seats.the_type B T) (
    search (sendable, crosses) depth 20,
    (
      clock_shown.the_send,
      (
        Vec-send (queue_seat.the_row B T) queue_seat_send,
        (
          shown_send,
          (
            search (sendable, crosses, variants_send, arrivals_seat_send) depth 20,
            (at_intake_send, (time_seat_shown.the_send, (seat_send, tt))),
          ),
        ),
      ),
    ),
  )

  queue_lock_sync : IsSync (queue_lock.the_row B T)
  queue_lock_sync = declared_sync (queue_lock.the_type B T) (
    search (sendable, crosses) depth 20,
    (
      lock_sync Queue QueueCall QueueReply QueueCall QueueReply mark.the_row
          (stamping.ghosts (queue.the_row B T) Asked (reply.the_row B T) Asked (reply.the_row B T) mark.the_row (queued.ghosts B T queued.no_dict) stamping.no_dict) stamped_queue_send,
      (search crosses, tt),
    ),
  )

  pub locks_sync : IsSync (locks.the_row B T)
  locks_sync = declared_sync (locks.the_type B T) (
    Vec-sync (queue_lock.the_row B T) queue_lock_sync,
    (
      lock_sync (arrived.the_row B T) ArriveCall ArriveReply ArriveCall ArriveReply unit (arriving.ghosts B T arriving.no_dict) (arrived_send B T),
      (timelines_shown.the_sync, (search (sendable, crosses, variants_sync, intake_shared) depth 20, tt)),
    ),
  )
