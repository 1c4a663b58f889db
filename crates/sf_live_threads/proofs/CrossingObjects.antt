-- Objects may cross to a thread with their stamps, and passes and locks as their objects.
use denote.RattleType.{RattleType}
use denote.Param.Send.{IsSend, IsSync, sendable, view_send}
use denote.Param.SendFields.{as_row_send, declared_send}
use denote.Struct.Field.{row_field}
use Rattle.std.proofs.Crossing.{Vec-send, crosses}
use Rattle.atomic_table.proofs.shared.Seat.TheSendSync as seat_shown
use Rattle.atomic_table.proofs.shared.Shared.TheSendSync as shared_shown
use Rattle.atomic_table.proofs.send_lease.SendLease.TheSendSync as lease_shown
use Rattle.sf_actor_steps.specs.sf_calls.contracts.lock.CallLock as lock
use Rattle.sf_actor_steps.specs.sf_calls.contracts.pass.Pass as pass
use Rattle.sf_actor_steps.specs.sf_calls.declared.object.Object as object
use Rattle.sf_live_seats.specs.sf_calls_stamped.contracts.stamped.Stamped as stamped
use Rattle.sf_live_seats.specs.sf_calls_stamped.contracts.stamped.Stamped.TheInside as inside
use Rattle.sf_live_seats.specs.sf_calls_stamped.contracts.stamped.Pair as pair
use Rattle.sf_actor_steps.specs.sf_txn.declared.lease.Lease as leases
use Rattle.sf_actor_steps.specs.sf_token.declared.home.LeaseHome as home
use Rattle.sf_actor_steps.specs.sf_token.contracts.arrivals.Arrivals as arrivals
use Rattle.sf_actor_steps.specs.sf_token.contracts.arrivals.Arrivals.TheInside as arrivals_inside
use Rattle.sf_actor_steps.proofs.sf_token_lemmas.arrivals.ArrvEntry.TheSendSync as entry_shown
use Rattle.sf_live_threads.proofs.CrossingTokens.{arrived_send}

pair_send : IsSend pair.the_row
pair_send = declared_send pair.the_type (search crosses, (search crosses, tt))

module _ (O Call Reply PlainCall PlainReply Mark : RattleType) (g : object.Ghosts O.Denot Call.Denot Reply.Denot PlainCall.Denot PlainReply.Denot Mark.Denot) where
  pub stamped_send : IsSend O → IsSend (stamped.the_row O Call Reply PlainCall PlainReply Mark g)
  stamped_send s = view_send _ _ _ _ _ (declared_send (inside.the_type O Call Reply PlainCall PlainReply Mark g)
      (as_row_send (row_field O) s, (search (sendable, crosses) depth 20, (Vec-send pair.the_row pair_send, tt))))

  pub pass_send : IsSend O → IsSend (pass.the_row O Call Reply PlainCall PlainReply Mark g)
  pass_send s = search (sendable, crosses, seat_shown.the_send) depth 20

  pub lock_sync : IsSend O → IsSync (lock.the_row O Call Reply PlainCall PlainReply Mark g)
  lock_sync s = search (sendable, crosses, shared_shown.the_sync, lease_shown.the_sync) depth 20

module _ (L N Eye Reading Closing : RattleType) (g : leases.Ghosts L.Denot Eye.Denot Reading.Denot Closing.Denot) (h : home.Ghosts N.Denot L.Denot) where
  pub arrivals_send : IsSend L → IsSend (arrivals.the_row L N Eye Reading Closing g h)
  arrivals_send s = view_send _ _ _ _ _ (declared_send (arrivals_inside.the_type L N Eye Reading Closing g h)
      (search (sendable, crosses) depth 20, (Vec-send _ (arrived_send L Eye Reading Closing g s), (Vec-send _ entry_shown.the_send, (search (sendable, crosses) depth 20, (search (sendable, crosses) depth 20, tt))))))
