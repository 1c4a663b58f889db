-- What is here of a seated actor, after a try.
use Rattle.std.proofs.Common.{◌≡◌, List, Ok, Result, subst}
use Rattle.std.specs.Prelude.{IfOk}
use Rattle.atomic_table.specs.Seated.{TableId}
use Rattle.sf_picture.specs.declared.picture.Picture.{Picture}
use Rattle.sf_actor_steps.specs.sf_actor.declared.tried.Stepped.{Stepped}
use Rattle.sf_live_seats.specs.declared.locks.Locks.{Locks}
use Rattle.sf_live_threads.specs.declared.seated_actor.Back.{Back}
use Rattle.sf_live_threads.specs.declared.seated_actor.Back.TheVariants.{Whole}
use Rattle.sf_live_threads.specs.declared.seated_actor.SeatedActor.{SeatedActor}
use Rattle.sf_live_threads.specs.declared.task.Task.{Task}
use Rattle.sf_live_threads.specs.declared.task.Task.TheVariants.{Here}
use Rattle.sf_live_threads.specs.Backs.{IfWhole, IsFit}
use Rattle.sf_live_threads.specs.SeatedActors.{MayTryNext, Came, TriesNext}
use Rattle.sf_live_threads.specs.inner.Tasks.{IsTask, Stays}
use Rattle.sf_live_threads.proofs.WalkLemmas.{came_ok}

module _ {B : Type 0} (table : TableId) (locks : Locks B) (pictures : List Picture) where
  pub whole_tried : {E : Type 0} (back : Back B) (seated_actor now : SeatedActor B) (tried : Result Stepped E) (stepped : Stepped) → back ≡ Whole seated_actor → tried ≡ Ok stepped
      → IfOk tried (TriesNext table locks pictures seated_actor now) → (sent : SeatedActor B) → IfWhole table locks pictures sent back → Came table locks pictures sent now
  whole_tried back seated_actor now tried stepped is ok did sent has =
      came_ok table locks pictures sent seated_actor now tried stepped ok did (subst (λ (b : Back B). IfWhole table locks pictures sent b) is has)

  pub fit_tried : {E : Type 0} (seated_actor now : SeatedActor B) (tried : Result Stepped E) (stepped : Stepped) → tried ≡ Ok stepped → IfOk tried (TriesNext table locks pictures seated_actor now) → MayTryNext table locks pictures now
  fit_tried {E} seated_actor now tried stepped ok did = (tried_now (subst (λ (r : Result Stepped E). IfOk r (TriesNext table locks pictures seated_actor now)) ok did)).may_try_next
    where
      tried_now : TriesNext table locks pictures seated_actor now stepped → TriesNext table locks pictures seated_actor now stepped
      tried_now t = t

  pub stays_here : (task : Task B) (back new : Back B) → task ≡ Here back → IsFit table locks pictures new
      → ((sent : SeatedActor B) → IfWhole table locks pictures sent back → IfWhole table locks pictures sent new) → Stays table locks pictures task (Here new)
  stays_here task back new is fit same = record {
    fit = fit;
    same = λ sent has. same sent (subst (λ (h : Task B). IsTask table locks pictures sent h) is has);
  }
