-- A seated actor may cross to a thread, and what comes of it may come back.
use denote.RattleType.{RattleType}
use denote.Param.Send.{IsSend}
use denote.Param.SendFields.{declared_send, variants_send}
use Rattle.sf_turns.specs.declared.naming.TableName as naming
use Rattle.sf_live_threads.specs.contracts.seated_actor.Back as back
use Rattle.sf_live_threads.specs.contracts.seated_actor.SeatedActor as seated_actor
use Rattle.sf_live_threads.proofs.gates.Gates.TheSendSync.{the_send}
use Rattle.sf_live_threads.proofs.CrossingActors.{actor_send}
use Rattle.sf_live_threads.proofs.CrossingSeats.{seats_send}

module _ (B : RattleType) (T : naming.Ghosts B.Denot) where
  pub seated_actor_send : IsSend (seated_actor.the_row B T)
  seated_actor_send = declared_send (seated_actor.the_type B T) (actor_send B T, (seats_send B T, (the_send, tt)))

  pub back_send : IsSend (back.the_row B T)
  back_send = variants_send (back.enum B T) ((seated_actor_send, tt), ((seated_actor_send, tt), tt))
