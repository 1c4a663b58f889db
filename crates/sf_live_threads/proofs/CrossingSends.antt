-- What a thread takes with it may cross to it: what it borrows may be shared, and its seated actor may cross.
use mathlib.Core.List.{List, [], ◌∷◌}
use base.Fml.{Lft}
use mir.Syntax.{Lifetime, Sym}
use denote.RattleType.{RattleType}
use denote.Builtin.{u64}
use denote.Ref.{ShrRef}
use denote.Slice.{ShrSlice}
use denote.Struct.Field.{row_field}
use denote.Struct.Tuple.{TupleAt, type_at}
use denote.Param.Send.{IsSend, IsSync, sendable, shr_send, shr_slice_send}
use denote.Param.SendFields.{as_row_send, declared_send}
use Rattle.sf_picture.specs.contracts.picture.Picture as picture
use Rattle.sf_picture.proofs.picture.Picture.TheSendSync as picture_shown
use Rattle.sf_live_seats.specs.contracts.locks.Locks as locks
use Rattle.sf_turns.specs.declared.naming.TableName as naming
use Rattle.sf_live_threads.specs.contracts.seated_actor.SeatedActor as seated_actor
use Rattle.sf_live_threads.proofs.CrossingSeatedActors.{seated_actor_send}
use Rattle.sf_live_threads.proofs.CrossingSeats.{locks_sync}

u64_send : IsSend u64
u64_send = search sendable depth 20

module _ (name : Sym) (r l p : Lifetime) (a b c : Lft) (P B : RattleType) (T : naming.Ghosts B.Denot) where
  abbrev pub Taken : List RattleType
  Taken = ShrRef r a P ∷ ShrRef l b (locks.the_row B T) ∷ ShrSlice p c picture.the_row ∷ u64 ∷ seated_actor.the_row B T ∷ []

  pub taken_send : IsSync P → IsSend (TupleAt name Taken)
  taken_send s = declared_send (type_at name Taken) (
    as_row_send (row_field (ShrRef r a P)) (shr_send r a P s),
    (
      as_row_send (row_field (ShrRef l b (locks.the_row B T))) (shr_send l b (locks.the_row B T) (locks_sync B T)),
      (
        as_row_send (row_field (ShrSlice p c picture.the_row)) (shr_slice_send p c picture.the_row picture_shown.the_sync),
        (as_row_send (row_field u64) u64_send, (as_row_send (row_field (seated_actor.the_row B T)) (seated_actor_send B T), tt)),
      ),
    ),
  )
