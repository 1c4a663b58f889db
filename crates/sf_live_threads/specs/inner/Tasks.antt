-- Seated actors that are in threads of their own, or here.
use Rattle.std.specs.Prelude.{◌≡◌, List}
use Rattle.std.specs.List.{AllZip}
use Rattle.atomic_table.specs.Seated.{TableId}
use Rattle.sf_picture.specs.declared.picture.Picture.{Picture}
use Rattle.sf_live_seats.specs.declared.locks.Locks.{Locks}
use Rattle.sf_live_threads.specs.declared.seated_actor.Back.{Back}
use Rattle.sf_live_threads.specs.declared.seated_actor.Back.TheVariants.{Whole}
use Rattle.sf_live_threads.specs.declared.seated_actor.SeatedActor.{SeatedActor}
use Rattle.sf_live_threads.specs.declared.task.Task.{Task}
use Rattle.sf_live_threads.specs.declared.task.Task.TheVariants.{Away, Here}
use Rattle.sf_live_threads.specs.Backs.{IfWhole, IsFit}

module _ {B : Type 0} (table : TableId) (locks : Locks B) (pictures : List Picture) where
  -- its thread brings back, or here is, what came of the seated actor
  abbrev pub IsTask : SeatedActor B → Task B → Type 0
  IsTask sent (Away handle) = (handle.promise.locks.now ≡ locks) × (handle.promise.pictures.now ≡ pictures) × (handle.promise.sent.value ≡ sent)
  IsTask sent (Here back) = IfWhole table locks pictures sent back

  abbrev pub AreTasks : List (SeatedActor B) → List (Task B) → Type 0
  AreTasks sent tasks = AllZip IsTask sent tasks

  -- a seated actor that is here may try its next step
  abbrev pub IsFitTask : Task B → Type 0
  IsFitTask (Away handle) = Unit {0}
  IsFitTask (Here back) = IsFit table locks pictures back

  -- what came of a seated actor before a try is what came of it after it
  pub record Stays (task tried : Task B) : Type 0 where
    pub fit : IsFitTask tried
    pub same : (sent : SeatedActor B) → IsTask sent task → IsTask sent tried

module _ {B : Type 0} (table : TableId) where
  -- the seated actor is what came of the one that was sent
  abbrev pub Gives : Task B → Back B → Type 0
  Gives task back = (locks : Locks B) (pictures : List Picture) (sent : SeatedActor B) → IsTask table locks pictures sent task → IfWhole table locks pictures sent back

  abbrev pub GivesWhole : Task B → SeatedActor B → Type 0
  GivesWhole task seated_actor = Gives task (Whole seated_actor)
