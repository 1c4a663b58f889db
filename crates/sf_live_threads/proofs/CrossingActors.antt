-- An actor may cross to a thread, with what it has in its bindings.
use denote.RattleType.{RattleType}
use denote.Param.Send.{IsSend, sendable, view_send}
use denote.Param.SendFields.{declared_send}
use Rattle.std.proofs.Crossing.{Vec-send, crosses}
use Rattle.std.specs.contracts.option.Option as option
use Rattle.sf_picture.specs.contracts.painted.Painted as painted
use Rattle.sf_picture.specs.contracts.picture.Picture as picture
use Rattle.sf_actor_steps.proofs.sf_script_scene_lemmas.step.ActorScript.TheSendSync as script_shown
use Rattle.sf_turns.specs.declared.naming.TableName as naming
use Rattle.sf_turns.specs.contracts.painted.PaintedStamped.TheImpl.{ghosts}
use Rattle.sf_turns.specs.contracts.stock.Permit as permit
use Rattle.sf_actor_steps.proofs.sf_actor_lemmas.tried.Reply.TheSendSync as reply_shown
use Rattle.sf_actor_steps.specs.sf_actor.contracts.holding.Holding as holding
use Rattle.sf_actor_steps.specs.sf_surface.contracts.token.ReadLease as read
use Rattle.sf_actor_steps.specs.sf_surface.contracts.reading.Reading as reading
use Rattle.sf_actor_steps.specs.sf_surface.contracts.reading.Closing as closing
use Rattle.sf_actor_steps.specs.sf_surface.contracts.reading.ReadLeaseLease.TheImpl as leased
use Rattle.sf_actor_steps.specs.sf_txn.contracts.transaction.Transaction as transaction
use Rattle.sf_turns.specs.contracts.seat.TurnSeat as seat
use Rattle.sf_actor_steps.specs.contracts.actor.Actor as actor
use Rattle.sf_actor_steps.specs.contracts.bindings.Bindings as bindings
use Rattle.sf_actor_steps.specs.contracts.table.Table as table
use Rattle.sf_actor_steps.specs.contracts.table.Table.TheInside as inside
use Rattle.sf_live_threads.proofs.CrossingTurns.{permit_send, stock_send}
use Rattle.sf_live_threads.proofs.CrossingSlots.{option_send}
use Rattle.sf_live_threads.proofs.CrossingTokens.{holding_send, read_send, transaction_send}

module _ (R : RattleType) where
  pub places_send : IsSend R → IsSend (table.the_row R)
  places_send s = view_send _ _ _ _ _ (declared_send (inside.the_type R) (Vec-send (option.the_row R) (option_send R s), tt))

module _ (B : RattleType) (T : naming.Ghosts B.Denot) where
  abbrev Sent : RattleType
  Sent = transaction.the_row (read.the_row B T) (seat.the_row painted.the_row picture.the_row ghosts) (reading.the_row B T) (closing.the_row B T) (leased.ghosts B T leased.no_dict)

  sent_send : IsSend Sent
  sent_send = transaction_send (read.the_row B T) (seat.the_row painted.the_row picture.the_row ghosts) (reading.the_row B T) (closing.the_row B T) (leased.ghosts B T leased.no_dict) (read_send B T)

  pub bindings_send : IsSend (bindings.the_row B T)
  bindings_send = declared_send (bindings.the_type B T) (
    search (sendable, crosses) depth 20,
    (
      search (sendable, crosses) depth 20,
      (
        places_send (holding.the_row B T) (holding_send B T),
        (
          places_send Sent sent_send,
          (stock_send, (option_send (permit.the_row painted.the_row picture.the_row ghosts) permit_send, tt)),
        ),
      ),
    ),
  )

  pub actor_send : IsSend (actor.the_row B T)
  actor_send = declared_send (actor.the_type B T) (script_shown.the_send, (bindings_send, (Vec-send _ reply_shown.the_send, (search (sendable, crosses) depth 20, tt))))
