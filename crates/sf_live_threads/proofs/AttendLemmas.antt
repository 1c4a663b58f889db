-- Seated actors that are away or here, while the visitor visits.
use Rattle.std.proofs.Common.{◌≡◌, List, [], ◌∷◌, Result, Ok, Err, Some, None, inl, inr, refl, sym, subst, ◌∙◌}
use Rattle.std.specs.Prelude.{◌⊎◌, Option, IfErr, IfOk, IfSome, IsErr, IsOk}
use Rattle.std.specs.List.{AllByRecursion, AllZip}
use Rattle.std.proofs.lemmas.Bool.{false≢true}
use Rattle.atomic_table.specs.Seated.{TableId}
use Rattle.sf_picture.specs.declared.picture.Picture.{Picture}
use Rattle.sf_live_seats.specs.declared.first.FirstSeats.{FirstSeats}
use Rattle.sf_live_seats.specs.declared.locks.Locks.{Locks}
use Rattle.sf_live_seats.specs.First.{IsFirst}
use Rattle.sf_live_threads.specs.declared.seated_actor.Back.TheVariants.{Spent, Whole}
use Rattle.sf_live_threads.specs.declared.seated_actor.SeatedActor.{SeatedActor}
use Rattle.sf_live_threads.specs.declared.task.Task.{Task}
use Rattle.sf_live_threads.specs.declared.task.Task.TheVariants.{Away, Here}
use Rattle.sf_live_threads.specs.Backs.{AllCame}
use Rattle.sf_live_threads.specs.SeatedActors.{Came}
use Rattle.sf_live_threads.specs.inner.Tasks.{AreTasks, GivesWhole, IsFitTask, IsTask, Stays}
use Rattle.sf_live_threads.specs.declared.run.Stopped.{Stopped}
use Rattle.sf_live_threads.specs.declared.run.Stopped.TheVariants as stopped
use Rattle.sf_live_threads.specs.Visits.{Attends, HasLeft, HasLeftOrIs, LeavesGiven}
use Rattle.sf_live_threads.proofs.Zips.{zip_along}

module _ {B : Type 0} (table : TableId) (locks : Locks B) (pictures : List Picture) where
  task_fit : (sent : SeatedActor B) (task : Task B) → IsTask table locks pictures sent task → IsFitTask table locks pictures task
  task_fit sent (Away handle) is = tt
  task_fit sent (Here (Whole seated_actor)) came = came.may_try_next
  task_fit sent (Here (Spent seated_actor)) is = tt

  -- what threads bring back, or what is here, may do more steps
  pub tasks_fit : (sent : List (SeatedActor B)) (tasks : List (Task B)) → AreTasks table locks pictures sent tasks → AllByRecursion (IsFitTask table locks pictures) tasks
  tasks_fit [] [] are = tt
  tasks_fit [] (h ∷ tasks) are = absurd are
  tasks_fit (s ∷ sent) [] are = absurd are
  tasks_fit (s ∷ sent) (h ∷ tasks) are = (task_fit s h are.0, tasks_fit sent tasks are.1)

  -- before any try
  pub stays_same : (tasks : List (Task B)) → AllByRecursion (IsFitTask table locks pictures) tasks → AllZip (Stays table locks pictures) tasks tasks
  stays_same [] fit = tt
  stays_same (h ∷ tasks) fit = (record { fit = fit.0; same = λ sent is. is }, stays_same tasks fit.1)

  pub stays_fit : (tasks tried : List (Task B)) → AllZip (Stays table locks pictures) tasks tried → AllByRecursion (IsFitTask table locks pictures) tried
  stays_fit [] [] stays = tt
  stays_fit [] (t ∷ tried) stays = absurd stays
  stays_fit (h ∷ tasks) [] stays = absurd stays
  stays_fit (h ∷ tasks) (t ∷ tried) stays = (stays.0.fit, stays_fit tasks tried stays.1)

  -- one try after others
  pub stays_on : (tasks tried more : List (Task B)) → AllZip (Stays table locks pictures) tasks tried → AllZip (Stays table locks pictures) tried more → AllZip (Stays table locks pictures) tasks more
  stays_on = zip_along (Stays table locks pictures) (Stays table locks pictures) (Stays table locks pictures)
      (λ h t m p q. record { fit = q.fit; same = λ sent is. q.same sent (p.same sent is) })

  -- what came of the seated actors before tries is what came of them after those
  pub tasks_stay : (sent : List (SeatedActor B)) (tasks tried : List (Task B)) → AreTasks table locks pictures sent tasks → AllZip (Stays table locks pictures) tasks tried → AreTasks table locks pictures sent tried
  tasks_stay = zip_along (IsTask table locks pictures) (Stays table locks pictures) (IsTask table locks pictures) (λ s h t is stays. stays.same s is)

  -- all seated actors that come back came from those that were sent
  pub all_came : (sent : List (SeatedActor B)) (tasks : List (Task B)) (back : List (SeatedActor B)) → AreTasks table locks pictures sent tasks → AllZip (GivesWhole table) tasks back → AllCame table locks pictures sent back
  all_came = zip_along (IsTask table locks pictures) (GivesWhole table) (Came table locks pictures) (λ s h b is gives. gives locks pictures s is)

module _ {B V : Type 0} (keeps : V → Locks B → FirstSeats B → Type 0) (table : TableId) (locks : Locks B) where
  -- before any visit
  pub attends_none : (first : FirstSeats B) (visitor : V) → IsFirst table locks first → keeps visitor locks first → Attends keeps table locks first first visitor
  attends_none first visitor is kept = record { first = is; given = record { gave = refl; took = refl; caller = refl }; kept = kept }

  -- one visit more
  pub attends_more : (start old new : FirstSeats B) (visitor more : V) → Attends keeps table locks start old visitor → IsFirst table locks new → LeavesGiven old new → keeps more locks new
      → Attends keeps table locks start new more
  attends_more start old new visitor more attends is given kept = record {
    first = is;
    given = record { gave = given.gave ∙ attends.given.gave; took = given.took ∙ attends.given.took; caller = given.caller ∙ attends.given.caller };
    kept = kept;
  }

pub some_more : {T : Type 0} (P Q : T → Type 0) → ((t : T) → P t → Q t) → (sent : Option T) → IfSome sent P → IfSome sent Q
some_more P Q f (Some t) p = f t p
some_more P Q f None p = tt

-- what came of what was sent, where all was
pub some_ok : {T X E : Type 0} (P : T → Type 0) (R : T → X → Type 0) (Q : X → Type 0) → ((t : T) (x : X) → P t → R t x → Q x) → (sent : Option T) (rest : Result X E) → (sent ≡ None → IsErr rest) → IfSome sent P
    → IfOk rest (λ x. IfSome sent (λ t. R t x)) → IfOk rest Q
some_ok P R Q f (Some t) (Ok x) none p r = f t x p r
some_ok P R Q f None (Ok x) none p r = absurd (false≢true (none refl))
some_ok P R Q f sent (Err e) none p r = tt

-- what comes of two results, the later of which is only where the first one is
module _ {X Y E : Type 0} (P : X → Type 0) (R : X → Y → Type 0) (Q : Y → Type 0) where
  pub carried : ((x : X) (y : Y) → R x y → P x → Q y) → (rest : Result X E) (result : Result Y E) → IfOk result (λ y. IsOk rest) → IfOk result (λ y. IfOk rest (λ x. R x y)) → IfOk rest P → IfOk result Q
  carried f (Ok x) (Ok y) rested rel p = f x y rel p
  carried f rest (Err e) rested rel p = tt
  carried f (Err e) (Ok y) rested rel p = absurd (false≢true rested)

pub ok_more : {X E : Type 0} (P Q : X → Type 0) → ((x : X) → P x → Q x) → (rest : Result X E) → IfOk rest P → IfOk rest Q
ok_more P Q f (Ok x) p = f x p
ok_more P Q f (Err e) p = tt

module _ {B V X Y : Type 0} (keeps : V → Locks B → FirstSeats B → Type 0) (ended : V → Type 0) (locks : Locks B) (visitor : V) (first_in : X → FirstSeats B) where
  -- where threads came to no end, or what they brought back was not whole
  pub left_so : (rest : Result X Stopped) (result : Result Y Stopped) → IfOk rest (λ x. keeps visitor locks (first_in x)) → IfErr rest (HasLeft keeps ended locks visitor)
      → IfErr result (λ why. (IsOk rest × (why ≡ stopped.NoMemory)) ⊎ (rest ≡ Err why)) → IfErr result (HasLeft keeps ended locks visitor)
  left_so rest (Ok y) kept left came = tt
  left_so (Ok x) (Err why) kept left (inl whole) = subst (HasLeft keeps ended locks visitor) (sym whole.1) (first_in x, kept)
  left_so (Err e) (Err why) kept left (inl whole) = absurd (false≢true whole.0)
  left_so rest (Err why) kept left (inr same) = subst (λ (r : Result X Stopped). IfErr r (HasLeft keeps ended locks visitor)) same left

-- of a result that is there
pub of_ok : {X E : Type 0} (P : X → Type 0) → (rest : Result X E) (x : X) → rest ≡ Ok x → IfOk rest P → P x
of_ok P rest x is p = subst (λ r. IfOk r P) is p

pub ok_both : {X E : Type 0} (P Q R : X → Type 0) → ((x : X) → P x → Q x → R x) → (rest : Result X E) → IfOk rest P → IfOk rest Q → IfOk rest R
ok_both P Q R f (Ok x) p q = f x p q
ok_both P Q R f (Err e) p q = tt

-- where there was no memory to take all in, the visitor keeps what it kept
pub left_returned : {B V Y : Type 0} (keeps : V → Locks B → FirstSeats B → Type 0) (ended : V → Type 0) (locks : Locks B) (old new : V) (first : FirstSeats B) → keeps new locks first
    → (result : Result Y Stopped) → IfErr result (λ why. why ≡ stopped.NoMemory) → IfErr result (HasLeftOrIs keeps ended locks old new)
left_returned keeps ended locks old new first kept (Ok y) why = tt
left_returned keeps ended locks old new first kept (Err e) why = inr (subst (HasLeft keeps ended locks new) (sym why) (first, kept))
