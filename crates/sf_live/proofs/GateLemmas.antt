-- The gates that each actor has passed, at the joins and from action to action.
use Rattle.std.proofs.Common.{◌≡◌, ℕ, zero, suc, Bool, true, false, List, [], ◌∷◌, length, map, Option, None, Some, refl, sym, ap, ◌∙◌, subst, arith}
use Rattle.std.specs.Prelude.{◌==◌, if◌then◌else◌, nat_lt, slice_get, slice_set}
use Rattle.std.specs.List.{AllByRecursion, AllZip, position}
use Rattle.std.proofs.lemmas.List.{length-set}
use Rattle.atomic_table.specs.Seated.{TableId}
use Rattle.sf_picture.specs.declared.picture.Picture.{Picture}
use Rattle.sf_live_compositor.specs.sf_surface.Tokens.{ReadLeaseOf}
use Rattle.sf_turns.specs.Views.{SeatView}
use Rattle.sf_live_compositor.specs.sf_txn.declared.lease.Lease.{Ghosts}
use Rattle.sf_script_scene.specs.declared.declarations.Pick.{Pick}
use Rattle.sf_script_scene.specs.declared.step.ActorScript.{ActorScript}
use Rattle.sf_live_compositor.specs.sf_actor.declared.tried.Stepped.{Stepped}
use Rattle.sf_live_compositor.specs.sf_actor.declared.tried.Stepped.TheVariants as stepped
use Rattle.sf_live_compositor.specs.sf_actor.Desks.{DeskHome, DeskView}
use Rattle.sf_live_compositor.specs.sf_actor.Plain.{home_of, view_of}
use Rattle.sf_live_compositor.specs.sf_actor.Scripts.{picture_at}
use Rattle.sf_live_compositor.specs.sf_actor.Tries.{ActorOf, Tries}
use Rattle.sf_live_compositor.specs.sf_actor_steps.Actors.{IsActor}
use Rattle.sf_live_compositor.specs.sf_actor_steps.declared.actor.Actor.{Actor}
use Rattle.sf_live_compositor.specs.sf_actor_set.ActorSets.{ActorSetOf, KeepAs, KeepsAs, number_of}
use Rattle.sf_live_compositor.specs.sf_live_seats.declared.locks.Locks.{Locks}
use Rattle.sf_live_compositor.specs.sf_play.Places.{settled}
use Rattle.sf_live_compositor.specs.sf_play.Players.{PlayOf, PlayerOf}
use Rattle.sf_live_compositor.specs.sf_play.Actions.{Picks, RoundsIf, TriesIf, TriesStep, TakesAction, TakesActionAt, TakesVsync, next_tried, picked_place, place_by, tried_from}
use Rattle.sf_live_compositor.specs.sf_play.declared.place.Place.{Place}
use Rattle.sf_live_compositor.specs.sf_play.declared.place.Place.TheVariants as at
use Rattle.sf_live_compositor.specs.sf_play.declared.action.Action.{Action}
use Rattle.sf_live_compositor.specs.sf_live_threads.declared.all_returned.ReturnedActor.{ReturnedActor}
use Rattle.sf_live_compositor.specs.sf_live_threads.declared.gates.Gates.{Gates}
use Rattle.sf_live_compositor.specs.sf_live_threads.declared.seated_actor.SeatedActor.{SeatedActor}
use Rattle.sf_live_compositor.specs.sf_live_threads.Gates.{HasPassed, HavePassed, IsReady}
use Rattle.sf_live_compositor.specs.sf_live_threads.Meeting.{as_returned}
use Rattle.sf_live_compositor.specs.sf_live_threads.SeatedActors.{Came}
use Rattle.sf_live_compositor.proofs.sf_live_threads_lemmas.WalkLemmas.{traces_on, within}
use Rattle.sf_live_compositor.proofs.sf_live_threads_lemmas.Zips.{zip_long}
use Rattle.sf_live.specs.inner.Rounds.{PassesAt, PassesFor}
use Rattle.sf_live.specs.inner.Threads.{HasPassedOwn, returned_actor, returned_gates}

module _ {B : Type 0} where
  -- what each brought back it has passed
  pub brought_back : (table : TableId) (locks : Locks B) (pictures : List Picture) (sent back : List (SeatedActor B)) → AllZip (Came table locks pictures) sent back → AllByRecursion HasPassedOwn (map as_returned back)
  brought_back table locks pictures [] [] came = tt
  brought_back table locks pictures [] (b ∷ back) came = absurd came
  brought_back table locks pictures (s ∷ sent) [] came = absurd came
  brought_back table locks pictures (s ∷ sent) (b ∷ back) came = (came.0.may_try_next.gates, brought_back table locks pictures sent back came.1)

  -- apart from one another they are those of the actors
  pub apart : (returned : List (ReturnedActor B)) → AllByRecursion HasPassedOwn returned → HavePassed (map returned_actor returned) (map returned_gates returned)
  apart [] all = tt
  apart (one ∷ returned) all = (all.0, apart returned all.1)

  pub as_many : (actors : List (Actor B)) (gates : List Gates) → HavePassed actors gates → length actors ≡ length gates
  as_many actors gates have = zip_long HasPassed actors gates have

  -- where the gate is passed for one actor, the others keep theirs
  pub as_long : (tried : Option ℕ) (actors : List (Actor B)) (old new : List Gates) → PassesFor tried actors old new → length new ≡ length old
  as_long None actors old new same = ap (λ (gates : List Gates). length gates) same
  as_long (Some place) actors old new passes = ap (λ (gates : List Gates). length gates) passes.only ∙ length-set old place passes.passed

  -- an actor that contracts see alike has passed the same gates
  same_passed : (table : TableId) (was now : Actor B) (of : ActorOf B) (gates : Gates) → IsActor table was of → IsActor table now of → HasPassed was gates → HasPassed now gates
  same_passed table was now of gates old new has =
      let a = ap length old.replies in let b = ap length new.replies in
      let c = ap (λ (s : ActorScript). length s.steps) old.script in let d = ap (λ (s : ActorScript). length s.steps) new.script in
      record {
        done = omega (arith, a, b, has.done);
        once = omega (arith, a, b, has.once);
        there = omega (arith, c, d, has.there);
      }

  all_same : (table : TableId) (pictures : ℕ → Picture) (home later : DeskHome) (before after : DeskView B) (was now : List (Actor B)) (ofs : List (ActorOf B)) (gates : List Gates)
      → KeepAs table pictures home before was ofs → KeepAs table pictures later after now ofs → HavePassed was gates → HavePassed now gates
  all_same table pictures home later before after [] [] [] gates old new has = has
  all_same table pictures home later before after [] [] (o ∷ ofs) gates old new has = absurd old
  all_same table pictures home later before after [] (n ∷ now) [] gates old new has = absurd new
  all_same table pictures home later before after [] (n ∷ now) (o ∷ ofs) gates old new has = absurd old
  all_same table pictures home later before after (w ∷ was) now [] gates old new has = absurd old
  all_same table pictures home later before after (w ∷ was) [] (o ∷ ofs) gates old new has = absurd new
  all_same table pictures home later before after (w ∷ was) (n ∷ now) (o ∷ ofs) [] old new has = absurd has
  all_same table pictures home later before after (w ∷ was) (n ∷ now) (o ∷ ofs) (g ∷ gates) old new has =
      (same_passed table w n o g old.0.is new.0.is has.0, all_same table pictures home later before after was now ofs gates old.1 new.1 has.1)

  -- a try of an actor that is ready leaves its gates those that it has passed
  tried_passed : (table : TableId) (pictures : ℕ → Picture) (home later : DeskHome) (was now : Actor B) (old new : ActorOf B) (before after : DeskView B) (came_to : Stepped) (gates : Gates)
      → IsActor table was old → KeepsAs table pictures later after now new → Tries pictures home old before new after came_to → IsReady was gates → HasPassed now gates
  tried_passed table pictures home later was now old new before after came_to gates is keeps tries ready =
      let t = traces_on pictures home old new before after came_to tries in
      let w = within pictures later new after keeps.keeps in
      let a = is.trace in let b = keeps.is.trace in
      let c = ap (λ (s : ActorScript). length s.steps) (sym is.script ∙ same_script pictures home old new before after came_to tries ∙ keeps.is.script) in
      let d = ap (λ (s : ActorScript). length s.steps) keeps.is.script in
      record {
        done = omega (arith, t.0, t.1, w, a, b, c, d, ready);
        once = omega (arith, t.0, t.1, w, a, b, c, d, ready);
        there = omega (arith, c, d, ready);
      }
    where
      same_script : (pictures : ℕ → Picture) (home : DeskHome) (old new : ActorOf B) (before after : DeskView B) (came_to : Stepped) → Tries pictures home old before new after came_to → old.script ≡ new.script
      same_script pictures home old new before after stepped.Done tries = ap (λ (a : ActorOf B). a.script) (sym tries.1.same)
      same_script pictures home old new before after stepped.NotYet tries = ap (λ (a : ActorOf B). a.script) (sym tries.same)
      same_script pictures home old new before after stepped.Ended tries = ap (λ (a : ActorOf B). a.script) (sym tries.0)

  -- the same, among all actors
  step_passed : (table : TableId) (pictures : ℕ → Picture) (home later : DeskHome) (before after : DeskView B) (place : ℕ) (was now : List (Actor B)) (olds : List (ActorOf B)) (old new : ActorOf B) (gates : List Gates)
      (came_to : Stepped) (passed : Gates) → KeepAs table pictures home before was olds → KeepAs table pictures later after now (slice_set olds place new) → slice_get olds place ≡ Some old
      → Tries pictures home old before new after came_to → HavePassed was gates
      → ((actor : Actor B) (own : Gates) → slice_get was place ≡ Some actor → slice_get gates place ≡ Some own → HasPassed actor own → IsReady actor passed)
      → HavePassed now (slice_set gates place passed)
  step_passed table pictures home later before after place was now [] old new gates came_to passed keep kept here tries has ready = absurd (nothing here)
    where
      nothing : {X : Type 0} {x : X} → None ≡ Some x → ⊥
      nothing e = cc
  step_passed table pictures home later before after place [] now (o ∷ olds) old new gates came_to passed keep kept here tries has ready = absurd keep
  step_passed table pictures home later before after place (w ∷ was) now (o ∷ olds) old new [] came_to passed keep kept here tries has ready = absurd has
  step_passed table pictures home later before after zero (w ∷ was) [] (o ∷ olds) old new (g ∷ gates) came_to passed keep kept here tries has ready = absurd kept
  step_passed table pictures home later before after (suc place) (w ∷ was) [] (o ∷ olds) old new (g ∷ gates) came_to passed keep kept here tries has ready = absurd kept
  step_passed table pictures home later before after zero (w ∷ was) (n ∷ now) (o ∷ olds) old new (g ∷ gates) came_to passed keep kept here tries has ready =
      let same : o ≡ old = cc in (
        tried_passed table pictures home later w n old new before after came_to passed (subst (IsActor table w) same keep.0.is) kept.0 tries (ready w g refl refl has.0),
        all_same table pictures home later before after was now olds gates keep.1 kept.1 has.1,
      )
  step_passed table pictures home later before after (suc place) (w ∷ was) (n ∷ now) (o ∷ olds) old new (g ∷ gates) came_to passed keep kept here tries has ready = (
    same_passed table w n o g keep.0.is kept.0.is has.0,
    step_passed table pictures home later before after place was now olds old new gates came_to passed keep.1 kept.1 here tries has.1 ready,
  )

-- an action before which the gate is passed for the actor whose step it tries
module _ {B : Type 0} {R C : Type 0} (lease : Ghosts ReadLeaseOf SeatView R C) (table : TableId) (ofs : List (ActorOf B)) (old new : PlayerOf B) (came_to : Action) (gates ready : List Gates)
    (keep : KeepAs table (picture_at old.play.actor_set.pictures) (home_of old.play.actor_set.desk) (view_of old.play.actor_set.desk) old.play.actor_set.actors ofs)
    (has : HavePassed old.play.actor_set.actors gates) where
  abbrev HaveNow : Type 0
  HaveNow = HavePassed new.play.actor_set.actors ready

  tried : (place : ℕ) → TriesStep table place ofs old.play new.play came_to → PassesAt place old.play.actor_set.actors gates ready → HaveNow
  tried place tries passes =
      let s = tries.steps in
      subst (HavePassed new.play.actor_set.actors) (sym passes.only)
      (step_passed table (picture_at old.play.actor_set.pictures) (home_of old.play.actor_set.desk) (home_of new.play.actor_set.desk) (view_of old.play.actor_set.desk) (view_of new.play.actor_set.desk) place
      old.play.actor_set.actors new.play.actor_set.actors ofs s.old s.new gates tries.stepped passes.passed keep s.keep s.here s.tries has passes.ready)

  -- where no step is tried
  same_play : new.play ≡ old.play → ready ≡ gates → HaveNow
  same_play same none = subst (λ (p : PlayOf B). HavePassed p.actor_set.actors ready) (sym same) (subst (HavePassed old.play.actor_set.actors) (sym none) has)

  vsync : TakesVsync lease table ofs old new came_to → ready ≡ gates → HaveNow
  vsync turns none =
      let m = turns.makes.makes in
      let actors : new.play.actor_set.actors ≡ old.play.actor_set.actors =
      ap (λ (s : ActorSetOf B). s.actors) m.only_gives.same ∙ ap (λ (s : ActorSetOf B). s.actors) m.only_decides.same ∙ ap (λ (s : ActorSetOf B). s.actors) m.only_takes.same ∙ ap (λ (s : ActorSetOf B). s.actors) m.only_looks.same in
      subst (λ (l : List (Actor B)). HavePassed l ready) (sym actors) (subst (HavePassed old.play.actor_set.actors) (sym none) has)

  tried_if : (place : Option ℕ) → TriesIf lease table ofs place old.play new.play came_to → PassesFor place old.play.actor_set.actors gates ready → HaveNow
  tried_if None tries passes = same_play tries.1 passes
  tried_if (Some place) tries passes = tried place tries passes

  picked : (number : ℕ) → Picks lease table ofs number old new came_to → PassesFor (picked_place old.play.actor_set.actors number) old.play.actor_set.actors gates ready → HaveNow
  picked zero picks passes = vsync picks passes
  picked (suc n) picks passes = tried_if (position (λ (actor : Actor B). number_of actor == suc n) old.play.actor_set.actors) picks.0 passes

  round : (goes : Bool) (place : ℕ) (stepped : Bool) → RoundsIf lease table ofs goes place stepped old new came_to → PassesFor (if goes then Some place else None) old.play.actor_set.actors gates ready → HaveNow
  round true place stepped goes passes = tried place goes.tries passes
  round false place stepped ends passes = vsync ends.vsync passes

  at_place : (place : Place) → TakesActionAt lease table ofs place old new came_to → PassesFor (tried_from old.play place) old.play.actor_set.actors gates ready → HaveNow
  at_place (at.Order place done) takes passes =
      picked takes.pick.actor takes.picks
      (subst (λ (p : Option Pick). PassesFor (place_by old.play.actor_set.actors p) old.play.actor_set.actors gates ready) takes.there passes)
  at_place (at.Round place stepped) rounds passes = round (nat_lt place (length old.play.actor_set.actors)) place stepped rounds passes
  at_place at.End ends passes = same_play (ap (λ (p : PlayerOf B). p.play) ends.1) passes

  pub turned : TakesAction lease table ofs old new came_to → PassesFor (next_tried old) old.play.actor_set.actors gates ready → HaveNow
  turned turns passes = at_place (settled old.play.order old.place) turns passes
