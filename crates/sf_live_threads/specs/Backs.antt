-- What comes back of seated actors.
use Rattle.std.specs.Prelude.{List}
use Rattle.std.specs.List.{AllZip}
use Rattle.atomic_table.specs.Seated.{TableId}
use Rattle.sf_picture.specs.declared.picture.Picture.{Picture}
use Rattle.sf_live_seats.specs.declared.locks.Locks.{Locks}
use Rattle.sf_live_threads.specs.declared.seated_actor.Back.{Back}
use Rattle.sf_live_threads.specs.declared.seated_actor.Back.TheVariants.{Spent, Whole}
use Rattle.sf_live_threads.specs.declared.seated_actor.SeatedActor.{SeatedActor}
use Rattle.sf_live_threads.specs.SeatedActors.{MayTryNext, Came}

module _ {B : Type 0} (table : TableId) (locks : Locks B) (pictures : List Picture) where
  -- unless it found no memory, the seated actor is what came of the one that was sent
  abbrev pub IfWhole : SeatedActor B → Back B → Type 0
  IfWhole sent (Whole seated_actor) = Came table locks pictures sent seated_actor
  IfWhole sent (Spent seated_actor) = Unit {0}

  -- one that found memory so far may try its next step
  abbrev pub IsFit : Back B → Type 0
  IsFit (Whole seated_actor) = MayTryNext table locks pictures seated_actor
  IsFit (Spent seated_actor) = Unit {0}

  abbrev pub AllCame : List (SeatedActor B) → List (SeatedActor B) → Type 0
  AllCame sent back = AllZip (Came table locks pictures) sent back
