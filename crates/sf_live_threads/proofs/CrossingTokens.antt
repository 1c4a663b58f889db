-- Leases, transactions and queues may cross to a thread.
use denote.RattleType.{RattleType}
use denote.Param.Send.{IsSend, sendable, view_send}
use denote.Param.SendFields.{declared_send}
use Rattle.std.proofs.Crossing.{Vec-send, crosses}
use Rattle.std.proofs.MapsCrossing as maps
use Rattle.sf_base.proofs.fences.Fence.TheSendSync as fence_shown
use Rattle.sf_turns.specs.declared.naming.TableName as naming
use Rattle.sf_actor_steps.specs.sf_txn.declared.lease.Lease as lease
use Rattle.sf_actor_steps.specs.sf_txn.contracts.transaction.Transaction as transaction
use Rattle.sf_actor_steps.specs.sf_txn.contracts.buffer.BufferOp as buffer
use Rattle.sf_actor_steps.specs.sf_txn.contracts.index.Index as index
use Rattle.sf_actor_steps.specs.sf_txn.contracts.ops.Ops as ops
use Rattle.sf_actor_steps.specs.sf_txn.contracts.ops.Ops.TheInside as ops_inside
use Rattle.sf_actor_steps.specs.sf_token.contracts.arrived.Arrived as arrived
use Rattle.sf_actor_steps.specs.sf_surface.contracts.entry.HistEntry as entry
use Rattle.sf_actor_steps.specs.sf_surface.contracts.history.History as history
use Rattle.sf_actor_steps.specs.sf_surface.contracts.history.MadeCall as made
use Rattle.sf_actor_steps.specs.sf_surface.contracts.object.QueueObject as queue
use Rattle.sf_actor_steps.proofs.sf_surface_lemmas.entry.HistEntry.TheSendSync as entry_shown
use Rattle.sf_actor_steps.specs.sf_surface.contracts.token.ReadLease as read
use Rattle.sf_actor_steps.specs.sf_surface.contracts.token.WriteLease as write
use Rattle.sf_actor_steps.specs.sf_surface.contracts.token.Owing as owing
use Rattle.sf_actor_steps.specs.sf_surface.contracts.token.Loose as loose
use Rattle.sf_actor_steps.proofs.sf_surface_lemmas.work.Work.TheSendSync as work_shown
use Rattle.sf_actor_steps.proofs.sf_layer_lemmas.op.Op.TheSendSync as op_shown
use Rattle.sf_actor_steps.specs.sf_txn.contracts.transaction.Transaction.TheInside as inside
use Rattle.sf_actor_steps.specs.sf_surface.contracts.token.WriteLease.TheInside as write_inside
use Rattle.sf_actor_steps.proofs.sf_slots_lemmas.slot.Held.TheSendSync as held_shown
use Rattle.sf_actor_steps.specs.sf_actor.contracts.holding.Holding as holding
use Rattle.sf_live_threads.proofs.CrossingTurns.{turn_send, owed_send}
use Rattle.sf_live_threads.proofs.CrossingSlots.{slots_send}

module _ (B : RattleType) (T : naming.Ghosts B.Denot) where
  pub made_send : IsSend (made.the_row B T)
  made_send = declared_send (made.the_type B T) (search crosses, (search crosses, (search crosses, (search crosses, tt))))

  pub history_send : IsSend (history.the_row B T)
  history_send = declared_send (history.the_type B T) (Vec-send entry.the_row entry_shown.the_send, (Vec-send (made.the_row B T) made_send, tt))

  pub queue_send : IsSend (queue.the_row B T)
  queue_send = search (sendable, crosses, slots_send, turn_send) depth 20

  pub read_send : IsSend (read.the_row B T)
  read_send = search (sendable, crosses, fence_shown.the_send, turn_send) depth 20

  pub write_send : IsSend (write.the_row B T)
  write_send = view_send _ _ _ _ _ (declared_send (write_inside.the_type B T) (
    search (sendable, crosses) depth 20,
    (
      search (sendable, crosses) depth 20,
      (
        held_shown.the_send,
        (
          search (sendable, crosses) depth 20,
          (
            search (sendable, crosses) depth 20,
            (work_shown.the_send, (search (sendable, crosses) depth 20, tt)),
          ),
        ),
      ),
    ),
  ))

  pub owing_send : IsSend (owing.the_row B T)
  owing_send = search (sendable, crosses, fence_shown.the_send, owed_send) depth 20

  pub loose_send : IsSend (loose.the_row B T)
  loose_send = search (sendable, crosses, turn_send) depth 20

  pub holding_send : IsSend (holding.the_row B T)
  holding_send = search (sendable, crosses, read_send, write_send, owing_send, loose_send) depth 20

-- where the operations of a transaction are
index_send : IsSend index.the_row
index_send = declared_send index.the_type (
  search (sendable, crosses, maps.crosses) depth 20,
  (search (sendable, crosses) depth 20, (search (sendable, crosses) depth 20, tt)),
)

-- the operations of a transaction, with their index
ops_send : IsSend ops.the_row
ops_send = view_send _ _ _ _ _ (declared_send ops_inside.the_type (
  search (sendable, crosses) depth 20,
  (search (sendable, crosses, op_shown.the_send) depth 20, (search (sendable, crosses, index_send) depth 20, tt)),
))

module _ (L Eye Reading Closing : RattleType) (g : lease.Ghosts L.Denot Eye.Denot Reading.Denot Closing.Denot) where
  pub buffer_send : IsSend L → IsSend (buffer.the_row L Eye Reading Closing g)
  buffer_send s = search (sendable, crosses) depth 20

  pub transaction_send : IsSend L → IsSend (transaction.the_row L Eye Reading Closing g)
  transaction_send s = view_send _ _ _ _ _ (declared_send (inside.the_type L Eye Reading Closing g) (
    search (sendable, crosses) depth 20,
    (
      search (sendable, crosses) depth 20,
      (
        search (sendable, crosses) depth 20,
        (ops_send, (Vec-send _ (buffer_send s), (search (sendable, crosses) depth 20, tt))),
      ),
    ),
  ))

  pub arrived_send : IsSend L → IsSend (arrived.the_row L Eye Reading Closing g)
  arrived_send s = search (sendable, crosses, transaction_send) depth 20
