-- A compositor makes no buffers: its calls on queues give frames back.
use Rattle.std.proofs.Common.{◌≡◌, ◌≢◌, ℕ, ◌==◌, ◌⊎◌, true, false, List, [], ◌∷◌, ◌++◌, ap, ◌∙◌, sym, refl, inl, inr, subst, None}
use Rattle.std.specs.Prelude.{Contains}
use Rattle.std.proofs.lemmas.Bool.{cases_Bool, cases_eq, eq-eqb, false≢true}
use Rattle.atomic_table.specs.Seated.{TableId}
use Rattle.law_draws.specs.sf_calls.Histories.{GoesOnWithout, IsLegal, calls_by}
use Rattle.law_draws.specs.sf_commit.Releases.{ReleaseOf}
use Rattle.law_draws.specs.sf_surface.declared.mark.QueueMark.{QueueMark}
use Rattle.law_draws.specs.sf_surface.Hands.{permit_of}
use Rattle.law_draws.specs.sf_surface.Histories.{Answers, Made, told_reply}
use Rattle.law_draws.specs.sf_surface.Tokens.{Issued, ReadLeaseOf}
use Rattle.sf_turns.specs.Views.{SeatView}
use Rattle.law_draws.specs.sf_txn.declared.lease.Lease.{Ghosts}
use Rattle.law_draws.specs.sf_actor.Desks.{DeskHome, DeskView, mark_among}
use Rattle.law_draws.specs.sf_actor.Plain.{PlainOf, view_of as plain_view}
use Rattle.law_draws.specs.sf_actor.Rights.{made_with}
use Rattle.law_draws.specs.law_rights.Calls.{made_of}
use Rattle.law_draws.specs.law_rights.Standing.{GiveAll}
use Rattle.law_draws.specs.law_rights.States.{AreApart}
use Rattle.law_draws.proofs.law_rights_lemmas.QueueCounts.{mark_only}
use Rattle.sf_live_compositor.specs.sf_live_seats.declared.locks.Locks.{Locks}
use Rattle.sf_live_compositor.specs.sf_live_seats.declared.seats.Seats.{Seats}
use Rattle.sf_live_compositor.specs.sf_live_seats.First.{KnowsNothing}
use Rattle.sf_live_compositor.specs.sf_live_seats.Seats.{home_of, marks_of, view_of}
use Rattle.law_threads.specs.Cuts.{MakesAt}
use Rattle.law_threads.specs.Members.{whole_of}
use Rattle.sf_live_compositor.specs.Vsyncs.{Sitting, Vsyncs}
use Rattle.sf_live_compositor.specs.Vsyncs.{Begin, More}
use Rattle.law_threads.proofs.ReturnedFrames.{legal_front}
use Rattle.law_threads.proofs.ActorAsCaller.{none_known}
use Rattle.law_threads.proofs.WalkBlocks.{made_it}

module _ {B : Type 0} where
  -- no call brings a permit
  abbrev pub NoPermits : List (Made B) → Type 0
  NoPermits [] = Unit {0}
  NoPermits (e ∷ earlier) = (permit_of e.call.1 ≡ None) × NoPermits earlier

  abbrev pub MakesNone : DeskView B → Type 0
  MakesNone view = (queue : ℕ) → NoPermits (calls_by 0 (view.calls queue))

  give_none : (home : DeskHome) (number : ℕ) (releases : List (ReleaseOf ReadLeaseOf)) (old new : DeskView B) → GiveAll home number releases old new → MakesNone old → MakesNone new
  give_none home number [] old new same none = subst (λ (view : DeskView B). MakesNone view) (sym same) none
  give_none home number (release ∷ releases) old new all none = give_none home number releases all.0 new all.2 (λ queue. by_queue queue (cases_eq queue release.queue.0))
    where
      by_queue : (queue : ℕ) → (queue ≡ release.queue.0) ⊎ (queue ≢ release.queue.0) → NoPermits (calls_by 0 (all.0.calls queue))
      by_queue queue (inl met) = subst (λ (q : ℕ). NoPermits (calls_by 0 (all.0.calls q))) (sym met)
          (subst (λ (cs : List (Made B)). NoPermits (calls_by 0 cs)) (sym all.1.made.newest) (refl, subst NoPermits (sym all.1.made.goes_on.calls) (none release.queue.0)))
      by_queue queue (inr apart) = subst (λ (cs : List (Made B)). NoPermits (calls_by 0 cs)) (sym (all.1.made.changes.others queue apart)) (none queue)

  -- a call of it is one of these
  none_there : (more earlier : List (Made B)) (e : Made B) → e.by ≡ 0 → NoPermits (calls_by 0 (more ++ e ∷ earlier)) → permit_of e.call.1 ≡ None
  none_there [] earlier e own none =
      let met : (e.by == 0) ≡ true = eq-eqb e.by 0 own in
      let here : NoPermits (e ∷ calls_by 0 earlier) = rw met at none in
      here.0
  none_there (m ∷ more) earlier e own none = elim (cases_Bool (m.by == 0)) [
    | inl met ↦
        let here : NoPermits (m ∷ calls_by 0 (more ++ e ∷ earlier)) = rw met at none in
        none_there more earlier e own here.1
    | inr unmet ↦ none_there more earlier e own (rw unmet at none)
  ]

module _ {B : Type 0} (lease : Ghosts ReadLeaseOf SeatView ReadLeaseOf Issued) (table : TableId) (locks : Locks B) (period : ℕ) where
  log_none : {start end : Sitting B} → Vsyncs lease table locks period start end → MakesNone (view_of start.seats) → MakesNone (view_of end.seats)
  log_none Begin none = none
  log_none (More {before} {after} log vsync) none =
      give_none (home_of locks vsync.took) after.number vsync.told.releases (view_of (record vsync.took { turns = vsync.turns })) (view_of after.seats) vsync.gives
      (subst (λ (calls : ℕ → List (Made B)). (queue : ℕ) → NoPermits (calls_by 0 (calls queue))) (sym same_calls) (log_none log none))
    where
      same_calls : (view_of vsync.took).calls ≡ (view_of before.seats).calls
      same_calls = ap (λ (seats : Seats B). (view_of seats).calls) vsync.changes.same ∙ ap (λ (seats : Seats B). (view_of seats).calls) vsync.look

  module _ (start end : Sitting B) (log : Vsyncs lease table locks period start end) (nothing : KnowsNothing start.seats) (desk : PlainOf B)
      (called : (queue : ℕ) → GoesOnWithout 0 ((view_of end.seats).calls queue) ((plain_view desk).calls queue)) (marks : (whole_of desk).marks ≡ marks_of locks) (apart : AreApart (marks_of locks))
      (legal : (queue : ℕ) → IsLegal (Answers (mark_among (marks_of locks) queue)) ((plain_view desk).calls queue)) where
    none_all : MakesNone (plain_view desk)
    none_all queue = subst NoPermits (sym (called queue).calls)
        (log_none log (λ q. subst (λ (cs : List (Made B)). NoPermits (calls_by 0 cs)) (sym (none_known q start.seats.queues.items nothing.queues)) tt) queue)

    pub makes_none : (number queue place : ℕ) (makes : MakesAt (whole_of desk) number queue place) → makes.made.by ≡ 0 → ⊥
    makes_none number queue place makes own = absurd (false≢true (sym with_none ∙ with_it))
      where
        mark_is : makes.mark ≡ mark_among (marks_of locks) queue
        mark_is = mark_only (marks_of locks) makes.mark apart (subst (λ (ms : List QueueMark). Contains ms makes.mark) marks makes.marked) ∙ ap (mark_among (marks_of locks)) makes.on_it

        legal_here : IsLegal (Answers (mark_among (marks_of locks) queue)) (makes.made ∷ makes.earlier)
        legal_here = legal_front (Answers (mark_among (marks_of locks) queue)) makes.later (makes.made ∷ makes.earlier)
            (subst (IsLegal (Answers (mark_among (marks_of locks) queue))) makes.is (legal queue))

        none : permit_of makes.made.call.1 ≡ None
        none = none_there makes.later makes.earlier makes.made own (subst (λ (cs : List (Made B)). NoPermits (calls_by 0 cs)) makes.is (none_all queue))

        with_it : made_with (permit_of makes.made.call.1) makes.made.reply.spare number ≡ true
        with_it =
            made_it (mark_among (marks_of locks) queue).queue makes.made.call.1 (told_reply (mark_among (marks_of locks) queue) makes.earlier makes.made.by makes.made.call.1) makes.made.reply number legal_here.0.answer
            (subst (λ (m : QueueMark). Contains (made_of makes.made.call.1 (told_reply m makes.earlier makes.made.by makes.made.call.1)) number) mark_is makes.makes)

        with_none : made_with (permit_of makes.made.call.1) makes.made.reply.spare number ≡ false
        with_none = ap (λ asked. made_with asked makes.made.reply.spare number) none
