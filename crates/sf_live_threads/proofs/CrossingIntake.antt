-- Threads may share an intake, and a sender and the taker may cross to one.
use denote.RattleType.{RattleType}
use denote.Param.Send.{IsSend, IsSync, sendable, view_send, view_sync}
use denote.Param.SendFields.{as_row_sync, declared_send, declared_sync, variants_send}
use denote.Struct.Field.{row_field}
use Rattle.std.proofs.Crossing as crossing
use Rattle.std.proofs.Crossing.{Vec-send, crosses}
use Rattle.std.specs.contracts.alloc.Global as heap
use Rattle.std.specs.contracts.option.Option as option
use Rattle.std.specs.contracts.impls.GlobalAllocator.TheImpl.{ghosts}
use Rattle.atomic_blocks.proofs.block.Link.TheSendSync as link_shown
use Rattle.atomic_blocks.proofs.web.Seat.TheSendSync as seat_shown
use Rattle.atomic_blocks.proofs.web.Web.TheSendSync as web_shown
use Rattle.atomic_blocks.specs.contracts.web.Seat as seat
use Rattle.atomic_blocks.specs.declared.web.BlockRule as rule
use Rattle.crossbeam_queue.specs.contracts.seg_queue.Chained as chained
use Rattle.crossbeam_queue.specs.contracts.seg_queue.Chained.TheInside as chained_inside
use Rattle.crossbeam_queue.specs.contracts.seg_queue.Ends as ends
use Rattle.crossbeam_queue.specs.contracts.seg_queue.Going as going
use Rattle.crossbeam_queue.specs.contracts.seg_queue.Laps as laps
use Rattle.crossbeam_queue.specs.Segments.{Segmented, idle}
use Rattle.sf_live_seats.specs.sf_intake.Rule.{Kept, opened}
use Rattle.sf_live_seats.specs.sf_intake.contracts.intake.Intake as intake
use Rattle.sf_live_seats.specs.sf_intake.contracts.protocol.InOneOrder as order
use Rattle.sf_live_seats.specs.sf_intake.contracts.protocol.Knows as knows
use Rattle.sf_live_seats.specs.sf_intake.contracts.intake.Intake.TheInside as inside
use Rattle.sf_live_seats.specs.sf_intake.contracts.posted.Posted as posted
use Rattle.sf_live_seats.specs.sf_intake.contracts.posted.Posted.TheInside as posted_inside
use Rattle.sf_live_seats.specs.sf_intake.contracts.sender.Sender as sender
use Rattle.sf_live_seats.specs.sf_intake.contracts.sender.Sender.TheInside as sender_inside
use Rattle.sf_live_seats.specs.sf_intake.contracts.taker.Taker as taker
use Rattle.sf_live_seats.specs.sf_intake.contracts.taker.Taker.TheInside as taker_inside
use Rattle.sf_actor_steps.specs.sf_token.contracts.arrived.Arrived as arrived
use Rattle.sf_actor_steps.specs.sf_token.declared.home.LeaseHome as home
use Rattle.sf_actor_steps.specs.sf_txn.contracts.transaction.Transaction as transaction
use Rattle.sf_actor_steps.specs.sf_txn.declared.lease.Lease as lease

ends_sync : (S : RattleType) → IsSync (ends.the_row S)
ends_sync S = declared_sync (ends.the_type S) (link_shown.the_sync S, (link_shown.the_sync S, tt))

module _ (S D K Q : RattleType) (gq : rule.Ghosts Q.Denot S.Denot D.Denot K.Denot) where
  chained_sync : IsSend S → IsSync K → IsSync (chained.the_row S D K Q heap.the_row gq ghosts)
  chained_sync s k = view_sync _ _ _ _ _ (declared_sync (chained_inside.the_type S D K Q heap.the_row gq ghosts) (
    web_shown.the_sync S D K Q heap.the_row gq ghosts s crossing.send crossing.frees,
    (as_row_sync (row_field K) k, (crossing.sync, tt)),
  ))

module _ (L N Eye Reading Closing : RattleType) (g : lease.Ghosts L.Denot Eye.Denot Reading.Denot Closing.Denot) (h : home.Ghosts N.Denot L.Denot) where
  posted_send : IsSend (transaction.the_row L Eye Reading Closing g) → IsSend (posted.the_row L Eye Reading Closing g)
  posted_send s = view_send _ _ _ _ _ (declared_send (posted_inside.the_type L Eye Reading Closing g) (search (sendable, crosses) depth 20, (search (sendable, crosses) depth 20, (search (sendable, crosses) depth 20, (s, tt)))))

  pub intake_sync : IsSend (transaction.the_row L Eye Reading Closing g) → IsSync (intake.the_row L N Eye Reading Closing g h)
  intake_sync s =
      let one = posted.the_row L Eye Reading Closing g in
      let post = option.the_row one in
      let own = posted_send s in
      let sent : IsSend post = search (sendable, crosses, variants_send, own) depth 20 in
      view_sync _ _ _ _ _ (declared_sync (inside.the_type L N Eye Reading Closing g h) (
        chained_sync post (going.the_row one (knows.the_row one)) (ends.the_row post) (laps.the_row (order.the_row L N))
            (record { holds = Segmented (Kept h.holds); first = λ key. idle opened }) sent (ends_sync post),
        tt,
      ))

  pass_send : IsSend (transaction.the_row L Eye Reading Closing g)
      → (let one = posted.the_row L Eye Reading Closing g in IsSend (seat.the_row (option.the_row one) (going.the_row one (knows.the_row one)) heap.the_row ghosts))
  pass_send s =
      let one = posted.the_row L Eye Reading Closing g in
      let own = posted_send s in
      let sent : IsSend (option.the_row one) = search (sendable, crosses, variants_send, own) depth 20 in
      seat_shown.the_send (option.the_row one) (going.the_row one (knows.the_row one)) heap.the_row ghosts sent crossing.send crossing.frees

  pub sender_send : IsSend (transaction.the_row L Eye Reading Closing g) → IsSend (sender.the_row L Eye Reading Closing g)
  sender_send s = view_send _ _ _ _ _ (declared_send (sender_inside.the_type L Eye Reading Closing g) (pass_send s, (search (sendable, crosses) depth 20, (search crosses, tt))))

  pub taker_send : IsSend (transaction.the_row L Eye Reading Closing g) → IsSend (arrived.the_row L Eye Reading Closing g) → IsSend (taker.the_row L N Eye Reading Closing g h)
  taker_send s a = view_send _ _ _ _ _ (declared_send (taker_inside.the_type L N Eye Reading Closing g h) (
    pass_send s,
    (
      crossing.send,
      (search crosses, (Vec-send _ a, (search crosses, (search crosses, (search (sendable, crosses) depth 20, tt))))),
    ),
  ))
