-- In a round in which no step is done each actor that was tried rests, and at its end a play is at its end.
use Rattle.std.proofs.Common.{◌≡◌, ◌≢◌, ℕ, zero, suc, ◌+◌, Bool, true, false, ◌||◌, List, [], ◌∷◌, ◌++◌, length, map, take, Option, Some, None, refl, ap, sym, ◌∙◌, subst, inl, inr, arith}
use Rattle.std.specs.Prelude.{Contains, ◌*◌, if◌then◌else◌, nat_lt, slice_get}
use Rattle.std.specs.List.{All, list_any}
use Rattle.std.proofs.lemmas.Bool.{cases_Bool, ltb-false, true≢false}
use Rattle.std.proofs.lemmas.List.{length-map, take_all}
use Rattle.std.proofs.lemmas.List.Elements.{All-append, All-cons, All-nil}
use Rattle.atomic_table.specs.Seated.{TableId}
use Rattle.sf_picture.specs.declared.picture.Picture.{Picture}
use Rattle.sf_play_report.specs.sf_ready.declared.hold.Hold.{Hold}
use Rattle.sf_play_report.specs.sf_surface.Histories.{Made}
use Rattle.sf_play_report.specs.sf_surface.Tokens.{Issued, ReadLeaseOf}
use Rattle.sf_play_report.specs.sf_token.Arrivals.{Calls, sent, waiting}
use Rattle.sf_play_report.specs.sf_token.Pending.{Arrival}
use Rattle.sf_play_report.specs.sf_turns.Views.{SeatView}
use Rattle.sf_play_report.specs.sf_txn.declared.lease.Lease.{Ghosts}
use Rattle.sf_play_report.specs.sf_commit.Releases.{ReleaseOf}
use Rattle.sf_play_report.specs.sf_commit.declared.vsync.Commit.{Commit}
use Rattle.sf_script_scene.specs.Scene.{SceneValue}
use Rattle.sf_script_scene.specs.declared.declarations.Pick.{Pick}
use Rattle.sf_play_report.specs.sf_actor.Desks.{DeskHome, DeskView}
use Rattle.sf_play_report.specs.sf_actor.Known.{frame_of, plain_arrival}
use Rattle.sf_play_report.specs.sf_actor.Makers.{Run}
use Rattle.sf_play_report.specs.sf_actor.Plain.{PlainOf, home_of, view_of}
use Rattle.sf_play_report.specs.sf_actor.Scripts.{picture_at}
use Rattle.sf_play_report.specs.sf_actor.Tries.{ActorOf, LeavesStep}
use Rattle.sf_play_report.specs.sf_actor.declared.tried.Stepped.{Stepped}
use Rattle.sf_play_report.specs.sf_actor.declared.tried.Stepped.TheVariants as stepped
use Rattle.law_rights.specs.sf_actor_set.ActorSets.{KeepAs, StepsAt}
use Rattle.law_rights.specs.sf_actor_steps.declared.actor.Actor.{Actor}
use Rattle.sf_play_report.proofs.law_played_lemmas.StepKeepsTold.{got_has}
use Rattle.sf_play_report.proofs.law_played_lemmas.LeaseLemmas.{plain_frame}
use Rattle.sf_play_report.proofs.law_played_lemmas.ProgressLemmas.{releases_nothing}
use Rattle.sf_play_report.proofs.law_played_lemmas.StuckActors.{ended_not_stuck, left_not_ready, run_stays}
use Rattle.sf_play_report.specs.law_played.Holds.{AreHeld, uncommitted}
use Rattle.sf_play_report.specs.law_played.Played.{end_of}
use Rattle.sf_play_report.specs.law_played.Progress.{held_shown, is_time}
use Rattle.sf_play_report.specs.law_played.Stopping.{TellsOlder}
use Rattle.sf_play_report.specs.law_played.Vsyncs.{commits_in, vsyncs_in}
use Rattle.sf_play.proofs.VsyncKeepsPlayer.{arrivals_now, arrived_rises, calls_same, home_now, taken_all}
use Rattle.sf_play.proofs.PlayEnd.{calls_stand, held_at_end}
use Rattle.sf_play.proofs.HandlerLeases.{OfFrames}
use Rattle.sf_play.proofs.PlayLedger.{IsLegalDesk}
use Rattle.sf_play.specs.Ending.{IsAtEnd, LooksTell, Rests, RestsAt, has_shown}
use Rattle.law_rights.specs.Standing.{GiveAll}
use Rattle.sf_play.specs.Places.{behind, settled, settled_at}
use Rattle.sf_play_report.specs.Reports.{has_commits}
use Rattle.sf_play.specs.Players.{PlayOf, PlayerOf, SoFar, Stands, home_in, run_so, taken_at, told_at, view_in, written_so}
use Rattle.sf_play.specs.Actions.{EndsRound, Rounds, RoundsIf, TakesAction, TakesActionAt, TakesVsync, is_step, action_by}
use Rattle.sf_play.specs.declared.place.Place.{Place}
use Rattle.sf_play.specs.declared.place.Place.TheVariants as at
use Rattle.sf_play.specs.declared.action.Action.{Action}

-- one more of the first of a list
take_more : {X : Type 0} (xs : List X) (n : ℕ) (x : X) → slice_get xs n ≡ Some x → take (suc n) xs ≡ take n xs ++ x ∷ []
take_more [] n x e = absurd (cc (e))
take_more {X} (y ∷ ys) zero x e = let same : y ≡ x = cc in ap (λ (z : X). z ∷ []) same
take_more {X} (y ∷ ys) (suc n) x e = ap (λ (zs : List X). y ∷ zs) (take_more ys n x e)

take_next : {X : Type 0} (xs : List X) (n : ℕ) (x : X) → slice_get xs n ≡ Some x → take (n + 1) xs ≡ take n xs ++ x ∷ []
take_next xs n x e = let next : n + 1 ≡ suc n = omega arith in ap (λ (m : ℕ). take m xs) next ∙ take_more xs n x e

none_any : {X : Type 0} (p : X → Bool) (xs : List X) → list_any p xs ≡ false → All (λ (x : X). p x ≡ false) xs
none_any {X} p [] e = All-nil (λ (x : X). p x ≡ false)
none_any {X} p (x ∷ xs) e = elim (cases_Bool (p x)) [
  | inl met ↦ let no = rw met at e in absurd (true≢false no)
  | inr unmet ↦ All-cons (λ (x : X). p x ≡ false) x xs unmet (none_any p xs (rw unmet at e))
]

or_false : (a b : Bool) → (a || b) ≡ false → (a ≡ false) × (b ≡ false)
or_false true b e = absurd (true≢false e)
or_false false b e = (refl, e)

pub no_commits : (commits : List Commit) → has_commits commits ≡ false → commits ≡ []
no_commits [] e = refl
no_commits (c ∷ cs) e = absurd (cc (e))

module _ {B : Type 0} where
  as_many : (table : TableId) (pictures : ℕ → Picture) (home : DeskHome) (view : DeskView B) (actors : List (Actor B)) (ofs : List (ActorOf B)) → KeepAs table pictures home view actors ofs → length ofs ≡ length actors
  as_many table pictures home view [] [] keep = refl
  as_many table pictures home view [] (of ∷ ofs) keep = absurd keep
  as_many table pictures home view (actor ∷ actors) [] keep = absurd keep
  as_many table pictures home view (actor ∷ actors) (of ∷ ofs) keep = ap suc (as_many table pictures home view actors ofs keep.1)

  -- the actor at a place was left, or has ended
  module _ (table : TableId) (scene : SceneValue) (so : SoFar B) (old new : PlayOf B) (stands : Stands table scene so old) (now : Stands table scene so new) (legal : IsLegalDesk new.actor_set.desk)
      (place : ℕ) (home : home_of new.actor_set.desk ≡ home_of old.actor_set.desk) (older : (of : ActorOf B) → Contains so.actors of → TellsOlder scene (run_so so new) of (view_in old) (view_in new)) where
    and_one : (of : ActorOf B) → slice_get so.actors place ≡ Some of → run_so so new ≡ run_so so old → Rests scene (run_so so new) of
        → All (Rests scene (run_so so old)) (take place so.actors) → All (Rests scene (run_so so new)) (take (place + 1) so.actors)
    and_one of here same rests all =
        subst (All (Rests scene (run_so so new))) (sym (take_next so.actors place of here))
        (All-append (Rests scene (run_so so new)) (take place so.actors) (of ∷ []) (subst (λ (run : Run). All (Rests scene run) (take place so.actors)) (sym same) all)
        (All-cons (Rests scene (run_so so new)) of [] rests (All-nil (Rests scene (run_so so new)))))

    pub tried_rests : (tries : Stepped) → tries ≢ stepped.Done → StepsAt table (picture_at old.actor_set.pictures) place old.actor_set.actors so.actors old.actor_set.desk new.actor_set.actors new.actor_set.desk tries
        → All (Rests scene (run_so so old)) (take place so.actors) → All (Rests scene (run_so so new)) (take (place + 1) so.actors)
    tried_rests stepped.Done left steps all = absurd (left refl)
    tried_rests stepped.NotYet left steps all =
        let there = got_has so.actors place steps.old steps.here in
        let same = run_stays so.actors (home_in old) (home_in new) (view_in old) (view_in new) (ap (λ (h : DeskHome). h.marks) home) (steps.tries.calls refl) in
        let leaves : LeavesStep (picture_at scene.pictures) (home_in new) steps.old (view_in old) steps.new (view_in new) =
        subst (λ (h : DeskHome). LeavesStep (picture_at scene.pictures) h steps.old (view_in old) steps.new (view_in new)) (sym home)
        (subst (λ (ps : List Picture). LeavesStep (picture_at ps) (home_in old) steps.old (view_in old) steps.new (view_in new)) stands.of_scene.pictures steps.tries) in
        and_one steps.old steps.here same
        (left_not_ready scene so.actors (home_in new) (view_in old) (view_in new) steps.old steps.new now.of_scene.limits refl now.tell.actors (calls_stand table scene so new now legal) now.tell.signals there
        (older steps.old there) leaves) all
    tried_rests stepped.Ended left steps all =
        let there = got_has so.actors place steps.old steps.here in
        let same = run_stays so.actors (home_in old) (home_in new) (view_in old) (view_in new) (ap (λ (h : DeskHome). h.marks) home) (λ queue. ap (λ (v : DeskView B). v.calls queue) steps.tries.1) in
        and_one steps.old steps.here same (ended_not_stuck scene so.actors (home_in new) (view_in new) steps.old now.tell.actors there steps.tries.2) all

  module _ {R C : Type 0} (lease : Ghosts ReadLeaseOf SeatView R C) (frames : OfFrames lease) (table : TableId) (scene : SceneValue) (so : SoFar B) (old new : PlayerOf B) where
    -- the last vsync of a play
    pub comes_to_end : (came_to : Action) → Stands table scene so old.play → LooksTell lease table scene so old.play new.play → (vsync : TakesVsync lease table so.actors old new came_to)
        → has_commits vsync.report.commits ≡ false → list_any (λ (h : ℕ × Hold). is_time h.1) new.held ≡ false → All (Rests scene (run_so so old.play)) so.actors → IsAtEnd scene so new
    comes_to_end came_to stands looks vsync quiet no_time rest =
        let makes = vsync.makes in
        let told = makes.told in
        let seen = vsync.report.seen in
        let v = makes.makes in
        let none : told.commits ≡ [] = sym makes.commits ∙ no_commits vsync.report.commits quiet in
        let arrived_is : v.arrived ≡ waiting old.play.actor_set.desk.arrivals =
        v.takes.all ∙ ap (λ (a : Calls ReadLeaseOf SeatView ReadLeaseOf Issued). waiting a) (ap (λ (d : PlainOf B). d.arrivals) v.times) in
        let no_releases : told.releases ≡ [] =
        releases_nothing lease frame_of (λ a b same. plain_frame a b (frames.plain a b same)) scene (written_so scene so old.play) (taken_at old.play) (vsyncs_in so.events) old.play.handler new.play.handler
        v.took.desk.turns v.decided.desk.turns v.arrived seen ((old.play.vsyncs + 1) * old.play.period) told stands.vsyncs.played v.decides (arrived_rises table scene so old.play stands v.arrived arrived_is) none in
        let gives : view_in new.play ≡ view_of v.decided.desk =
        subst (λ (rs : List (ReleaseOf ReadLeaseOf)). GiveAll (home_of v.decided.desk) (old.play.vsyncs + 1) rs (view_of v.decided.desk) (view_in new.play)) no_releases v.gives in
        let home = home_now lease frames table scene so old.play new.play seen told stands v in
        let calls : (view_in new.play).calls ≡ (view_in old.play).calls = ap (λ (w : DeskView B). w.calls) gives ∙ calls_same lease frames table scene so old.play new.play seen told stands v in
        let same = run_stays so.actors (home_in old.play) (home_in new.play) (view_in old.play) (view_in new.play) (ap (λ (h : DeskHome). h.marks) home) (λ queue. ap (λ (cs : ℕ → List (Made B)). cs queue) calls) in
        let arrivals = arrivals_now lease frames table scene so old.play new.play seen told stands v in
        record {
          taken = ap (λ (h : DeskHome). h.taken) home ∙ taken_all lease frames table scene so old.play new.play seen told stands v
              ∙ sym (length-map (sent old.play.actor_set.desk.arrivals) plain_arrival) ∙ ap (λ (xs : List (Arrival ReadLeaseOf)). length (map plain_arrival xs)) (sym arrivals);
          held = subst (λ (hs : List (ℕ × Hold)). AreHeld (end_of scene (run_so so new.play) (told_at scene so new.play)) (uncommitted (taken_at new.play) (commits_in (vsyncs_in so.events))) (map held_shown hs))
              (sym makes.held)
              (held_at_end lease frames table scene so old.play new.play seen told stands v none
              (none_any (λ (h : ℕ × Hold). is_time h.1) told.held (ap (list_any (λ (h : ℕ × Hold). is_time h.1)) (sym makes.held) ∙ no_time)) (looks.written seen told v));
          rest = subst (λ (run : Run). All (Rests scene run) so.actors) (sym same) rest;
        }

    -- where the next action is done, each that was tried rests as before it
    none_tried : (play : PlayerOf B) (s : SoFar B) → RestsAt scene s play (at.Round 0 false)
    none_tried play s = All-nil (Rests scene (run_so s play.play))

    behind_rests : (order : List Pick) (place : ℕ) → RestsAt scene so old (behind order place)
    behind_rests order place = elim (cases_Bool (nat_lt (place + 1) (length order))) [ inl met ↦ rw met tt | inr unmet ↦ rw unmet (none_tried old so) ]

    settled_rests : (order : List Pick) (place : Place) → RestsAt scene so old place → RestsAt scene so old (settled order place)
    settled_rests order (at.Order place done) rests = by_pick (slice_get order place)
      where
        by_pick : (found : Option Pick) → RestsAt scene so old (settled_at order place done found)
        by_pick None = none_tried old so
        by_pick (Some pick) = elim (cases_Bool (nat_lt done pick.times)) [ inl met ↦ rw met tt | inr unmet ↦ rw unmet (behind_rests order place) ]
    settled_rests order (at.Round place was) rests = rests
    settled_rests order at.End rests = rests

    module _ (later : SoFar B) (came_to : Action) (stands : Stands table scene so old.play) (now : Stands table scene later new.play) (legal : IsLegalDesk new.play.actor_set.desk)
        (same : has_shown came_to ≡ false → later ≡ so) (looks : has_shown came_to ≡ false → LooksTell lease table scene so old.play new.play) where
      as_before : (place : Place) → has_shown came_to ≡ false → RestsAt scene so new place → RestsAt scene later new place
      as_before place none = subst (λ (s : SoFar B). RestsAt scene s new place) (sym (same none))

      still_stands : has_shown came_to ≡ false → Stands table scene so new.play
      still_stands none = subst (λ (s : SoFar B). Stands table scene s new.play) (same none) now

      tried_at : (place : ℕ) (tries : Stepped) → came_to ≡ action_by place tries → home_of new.play.actor_set.desk ≡ home_of old.play.actor_set.desk
          → StepsAt table (picture_at old.play.actor_set.pictures) place old.play.actor_set.actors so.actors old.play.actor_set.desk new.play.actor_set.actors new.play.actor_set.desk tries
          → All (Rests scene (run_so so old.play)) (take place so.actors) → RestsAt scene later new (at.Round (place + 1) (is_step came_to))
      tried_at place stepped.Done is home steps rests = subst (λ (b : Bool). RestsAt scene later new (at.Round (place + 1) b)) (sym (ap is_step is)) tt
      tried_at place stepped.NotYet is home steps rests =
          let none = ap has_shown is in
          subst (λ (b : Bool). RestsAt scene later new (at.Round (place + 1) b)) (sym (ap is_step is)) (as_before (at.Round (place + 1) false) none
          (tried_rests table scene so old.play new.play stands (still_stands none) legal place home (looks none).older stepped.NotYet (λ e. cc (e)) steps rests))
      tried_at place stepped.Ended is home steps rests =
          let none = ap has_shown is in
          subst (λ (b : Bool). RestsAt scene later new (at.Round (place + 1) b)) (sym (ap is_step is)) (as_before (at.Round (place + 1) false) none
          (tried_rests table scene so old.play new.play stands (still_stands none) legal place home (looks none).older stepped.Ended (λ e. cc (e)) steps rests))

      ends_round : (ends : EndsRound lease table so.actors false old new came_to) → All (Rests scene (run_so so old.play)) so.actors → RestsAt scene later new new.place
      ends_round ends rests =
          let commits = ends.vsync.report.commits in
          elim (cases_Bool (has_commits commits || list_any (λ (h : ℕ × Hold). is_time h.1) new.held)) [
            | inl on ↦ subst (RestsAt scene later new) (sym (ends.next ∙ ap (λ (b : Bool). if b then at.Round 0 false else at.End) on)) (none_tried new later)
            | inr off ↦
                let quiet = or_false (has_commits commits) (list_any (λ (h : ℕ × Hold). is_time h.1) new.held) off in
                let none : has_shown came_to ≡ false = ap has_shown ends.vsync.is ∙ quiet.0 in
                subst (RestsAt scene later new) (sym (ends.next ∙ ap (λ (b : Bool). if b then at.Round 0 false else at.End) off))
                (as_before at.End none (comes_to_end came_to stands (looks none) ends.vsync quiet.0 quiet.1 rests))
          ]

      round_rests : (place : ℕ) (was : Bool) → Rounds lease table so.actors place was old new came_to → RestsAt scene so old (at.Round place was) → RestsAt scene later new new.place
      round_rests place was rounds rests = by_test was (nat_lt place (length old.play.actor_set.actors)) refl rounds rests
        where
          by_test : (was low : Bool) → nat_lt place (length old.play.actor_set.actors) ≡ low → RoundsIf lease table so.actors low place was old new came_to → RestsAt scene so old (at.Round place was)
              → RestsAt scene later new new.place
          by_test true true e goes rests = subst (RestsAt scene later new) (sym goes.next) tt
          by_test true false e ends rests = subst (RestsAt scene later new) (sym ends.next) (none_tried new later)
          by_test false true e goes rests = subst (RestsAt scene later new) (sym goes.next) (tried_at place goes.tries.stepped goes.tries.is goes.tries.same.home goes.tries.steps rests)
          by_test false false e ends rests =
              let many = as_many table (picture_at scene.pictures) (home_in old.play) (view_in old.play) old.play.actor_set.actors so.actors stands.keep in
              let high = ltb-false place (length old.play.actor_set.actors) e in
              ends_round ends (subst (All (Rests scene (run_so so old.play))) (take_all place so.actors (omega (arith, many, high))) rests)

      action_rests : (from : Place) → TakesActionAt lease table so.actors from old new came_to → RestsAt scene so old old.place → RestsAt scene so old from → RestsAt scene later new new.place
      action_rests (at.Order place done) takes rested rests = subst (RestsAt scene later new) (sym takes.next) tt
      action_rests (at.Round place was) rounds rested rests = round_rests place was rounds rests
      action_rests at.End acts rested rests = as_before new.place (ap has_shown acts.0) (subst (λ (p : PlayerOf B). RestsAt scene so p p.place) (sym acts.1) rested)

      -- each action
      pub actions_rest : TakesAction lease table so.actors old new came_to → RestsAt scene so old old.place → RestsAt scene later new new.place
      actions_rest acts rests = action_rests (settled old.play.order old.place) acts rests (settled_rests old.play.order old.place rests)
