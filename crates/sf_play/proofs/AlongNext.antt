-- The next action of a player is that of the play of its scene.
use Rattle.std.proofs.Common.{◌≡◌, ℕ, zero, suc, ◌+◌, ◌<◌, ◌≤◌, ◌==◌, Bool, true, false, ◌||◌, List, [], ◌∷◌, length, map, get_or, Option, Some, None, refl, sym, ap, ◌∙◌, subst, inl, inr, arith}
use Rattle.std.specs.Prelude.{All, Contains, if◌then◌else◌, nat_lt, slice_get}
use Rattle.std.specs.List.{list_any, position, position_or_len}
use Rattle.std.proofs.lemmas.Bool.{eq-eqb, eqb-true, ne_eqb}
use Rattle.std.proofs.lemmas.Grind.{common_steps}
use Rattle.std.proofs.lemmas.List.Elements.{All-contains, All-weaker}
use Rattle.std.proofs.lemmas.List.Folds.{find_at}
use Rattle.std.proofs.lemmas.List.Quantifiers.{position-Some}
use Rattle.std.proofs.lemmas.List.Sorted.{Contains-permutation}
use Rattle.std.proofs.lemmas.Option.{slice_get-get_or, slice_get_within}
use Rattle.atomic_table.specs.Seated.{TableId}
use Rattle.sf_picture.specs.declared.picture.Picture.{Picture}
use Rattle.sf_play_report.specs.sf_ready.declared.hold.Hold.{Hold}
use Rattle.sf_play_report.specs.sf_surface.Tokens.{Issued, ReadLeaseOf}
use Rattle.sf_play_report.specs.sf_surface.declared.mark.QueueMark.{QueueMark}
use Rattle.sf_play_report.specs.sf_turns.Views.{SeatView}
use Rattle.sf_play_report.specs.sf_txn.declared.lease.Lease.{Ghosts}
use Rattle.sf_play_report.specs.sf_commit.Releases.{CommittedOf}
use Rattle.sf_play_report.specs.sf_commit.declared.vsync.Commit.{Commit}
use Rattle.sf_script_scene.specs.Limits.{IsPick}
use Rattle.sf_script_scene.specs.Scene.{SceneValue, has_actor}
use Rattle.sf_script_scene.specs.declared.declarations.Pick.{Pick}
use Rattle.sf_script_scene.specs.declared.step.ActorScript.{ActorScript}
use Rattle.law_rights.specs.sf_actor_steps.declared.actor.Actor.{Actor}
use Rattle.sf_play_report.specs.sf_actor.declared.tried.Stepped.{Stepped}
use Rattle.sf_play_report.specs.sf_actor.declared.tried.Stepped.TheVariants as stepped
use Rattle.sf_play_report.specs.sf_actor.Desks.{DeskHome, DeskView}
use Rattle.sf_play_report.specs.sf_actor.Known.{frame_of}
use Rattle.sf_play_report.specs.sf_actor.Plain.{home_of, view_of}
use Rattle.sf_play_report.specs.sf_actor.Scripts.{picture_at}
use Rattle.sf_play_report.specs.sf_actor.Tries.{ActorOf}
use Rattle.law_rights.specs.sf_actor_set.ActorSets.{KeepAs, StepsAt, number_of}
use Rattle.sf_play_report.specs.law_played.Actors.{script_of}
use Rattle.sf_play_report.specs.law_played.Ends.{held_in}
use Rattle.sf_play_report.specs.law_played.Progress.{ShowsWhatIsWritten, is_time}
use Rattle.sf_play_report.specs.law_played.Runs.{rising_actors}
use Rattle.sf_play_report.specs.law_played.Stepping.{TellsFirst}
use Rattle.sf_play_report.specs.law_played.Stopping.{TellsOlder}
use Rattle.law_rights.specs.Vsyncs.{IsOfTurns}
use Rattle.sf_play_report.proofs.law_played_lemmas.AsQueued.{one_passes}
use Rattle.sf_play_report.proofs.law_played_lemmas.StepKeepsTold.{got_has}
use Rattle.sf_play_report.proofs.law_played_lemmas.Members.{has_cases, has_found, has_here, has_later, has_none, map_has}
use Rattle.sf_play.proofs.AlongLemmas.{plays_settled}
use Rattle.sf_play.proofs.AlongTransitions.{pick_done, pick_ended, pick_waits, round_done, round_ended, round_waits}
use Rattle.sf_play.proofs.AlongVsyncs.{all_had, holds_silent, pick_shown, pick_silent, round_shown, round_silent}
use Rattle.sf_play.proofs.StageAndContents.{are_expected, is_stage}
use Rattle.sf_play.proofs.PlayFuel.{settled_has}
use Rattle.sf_play.proofs.HandlerLeases.{OfFrames}
use Rattle.sf_play.proofs.PlayLedger.{TellsAll}
use Rattle.sf_play.proofs.Makers.{first_told, older_told}
use Rattle.sf_play.proofs.Together.{StandsWith, done_with, ended_with, left_with, nothing_with, shown_with, shows_written, silent_with}
use Rattle.sf_play.specs.Alongs.{DeskKnows, PlaysSo, behind_round, state_so}
use Rattle.sf_play.specs.Going.{TellsStage}
use Rattle.sf_play.specs.Places.{settled}
use Rattle.sf_play.specs.Players.{PlayOf, PlayerOf, SoFar, Stands, home_in, run_so, view_in, written_so}
use Rattle.sf_play.specs.Playing.{KeepsItself, KeepsRights}
use Rattle.sf_play.specs.Standing.{HoldsAt}
use Rattle.sf_play_report.specs.Reports.{has_commits}
use Rattle.sf_play_report.specs.declared.report.VsyncReport.{VsyncReport}
use Rattle.sf_play.specs.Actions.{Picks, RoundsIf, TriesIf, TriesStep, TakesAction, TakesActionAt, TakesVsync, is_step, action_by}
use Rattle.sf_play.specs.declared.place.Place.{Place}
use Rattle.sf_play.specs.declared.place.Place.TheVariants as at
use Rattle.sf_play.specs.Vsyncing.{MakesVsync}
use Rattle.sf_play.specs.declared.action.Action.{Action}
use Rattle.sf_play.specs.declared.action.Action.TheVariants as action

or_true : (b : Bool) → (b || true) ≡ true
or_true true = refl
or_true false = refl

or_none : (b : Bool) → (b || false) ≡ b
or_none true = refl
or_none false = refl

nowhere : {X : Type 0} (p : X → Bool) (n : ℕ) → position p [] ≡ Some n → ⊥
nowhere p n e = cc

module _ {B : Type 0} where
  -- the actors of an actor set have the numbers of those that contracts see
  number_kept : (table : TableId) (pictures : ℕ → Picture) (home : DeskHome) (view : DeskView B) (actors : List (Actor B)) (ofs : List (ActorOf B)) (n : ℕ) (actor : Actor B) (of : ActorOf B)
      → KeepAs table pictures home view actors ofs → slice_get actors n ≡ Some actor → slice_get ofs n ≡ Some of → number_of actor ≡ of.script.number
  number_kept table pictures home view [] ofs n actor of keep one other = absurd (cc (one))
  number_kept table pictures home view (a ∷ actors) [] n actor of keep one other = absurd keep
  number_kept table pictures home view (a ∷ actors) (o ∷ ofs) zero actor of keep one other =
      let first : a ≡ actor = cc in
      let second : o ≡ of = cc in
      ap number_of (sym first) ∙ (ap (λ (s : ActorScript). s.number) (sym keep.0.is.script) ∙ ap (λ (x : ActorOf B). x.script.number) second)
  number_kept table pictures home view (a ∷ actors) (o ∷ ofs) (suc n) actor of keep one other = number_kept table pictures home view actors ofs n actor of keep.1 one other

  -- each of these is there
  record IsThere (actors : List (Actor B)) (number : ℕ) : Type 0 where
    actor : Actor B
    there : Contains actors actor
    is : number_of actor ≡ number

  number_there : (table : TableId) (pictures : ℕ → Picture) (home : DeskHome) (view : DeskView B) (actors : List (Actor B)) (ofs : List (ActorOf B)) (of : ActorOf B)
      → KeepAs table pictures home view actors ofs → Contains ofs of → IsThere actors of.script.number
  number_there table pictures home view [] [] of keep there = has_none of there
  number_there table pictures home view [] (o ∷ ofs) of keep there = absurd keep
  number_there table pictures home view (a ∷ actors) [] of keep there = has_none of there
  number_there table pictures home view (a ∷ actors) (o ∷ ofs) of keep there = elim (has_cases o of ofs there) [
    | inl same ↦ record { actor = a; there = has_here a actors; is = ap (λ (s : ActorScript). s.number) (sym keep.0.is.script) ∙ ap (λ (x : ActorOf B). x.script.number) same }
    | inr more ↦ let rest = number_there table pictures home view actors ofs of keep.1 more in record { actor = rest.actor; there = has_later a rest.actor actors rest.there; is = rest.is }
  ]

  -- one that is there has a place
  no_position : (p : Actor B → Bool) (actors : List (Actor B)) (actor : Actor B) → Contains actors actor → p actor ≡ true → position p actors ≡ None → ⊥
  no_position p actors actor there passes none =
      let found = has_found p actors actor there passes in
      let low : position_or_len p actors < length actors = slice_get_within actors (position_or_len p actors) found.one (sym (find_at p actors) ∙ found.found) in
      let some : position p actors ≡ Some (position_or_len p actors) = grind (arith, common_steps) in
      cc (none, some)

module _ {B : Type 0} where
  abbrev pub StageTold : SceneValue → Action → PlayOf B → Type 0
  StageTold scene (action.Vsync report) play = TellsStage scene play
  StageTold scene other play = Unit {0}

  -- after an action a player stands in a run of its scene, and along with the scene's play where it was so before
  pub record PlaysOn (Was : Type 0) (table : TableId) (scene : SceneValue) (marks : List QueueMark) (so : SoFar B) (came_to : Action) (new : PlayerOf B) (place : Place) : Type 0 where
    pub kept : StandsWith table scene marks so came_to new.play
    pub along : Was → PlaysSo scene kept.later new.play place
    pub holds : Was → HoldsAt scene kept.later new place
    pub stage : StageTold scene came_to new.play

  module _ (lease : Ghosts ReadLeaseOf SeatView ReadLeaseOf Issued) (frames : OfFrames lease) (of_turns : IsOfTurns lease) (tells : TellsAll lease) (table : TableId) (scene : SceneValue) (so : SoFar B)
      (old new : PlayerOf B) (came_to : Action) (marks : List QueueMark) (stands : Stands table scene so old.play) (rights : KeepsRights table scene so old.play) (marked : (home_in old.play).marks ≡ marks)
      (keeps : KeepsItself lease table old.play) (keeps_now : KeepsItself lease table new.play) where
    -- the play with the new actor set
    abbrev with_actor_set : PlayOf B
    with_actor_set = record old.play { actor_set = new.play.actor_set }

    known_actor_set : DeskKnows with_actor_set
    known_actor_set = record { knows = keeps_now.desk.knows; legal = keeps_now.desk.legal }

    -- it stood along with the play
    abbrev pub WasAlong : Type 0
    WasAlong = PlaysSo scene so old.play old.place × HoldsAt scene so old old.place × ((home_in old.play).tells ≡ true)

    abbrev On : Place → Type 0
    On place = PlaysOn WasAlong table scene marks so came_to new place

    firsts : (of : ActorOf B) → Contains so.actors of → TellsFirst scene (state_so so old.play).run of (view_of old.play.actor_set.desk)
    firsts = first_told table scene so old.play stands rights keeps.desk.legal keeps.desk.knows keeps.own

    -- what a try comes to is the same for the new player
    comes : (came : Action) (place next : Place) → came_to ≡ came → new.play ≡ with_actor_set → place ≡ next → PlaysOn WasAlong table scene marks so came (record new { play = with_actor_set }) place → On next
    comes came place next is rest there on =
        subst On there
        (subst (λ (c : Action). PlaysOn WasAlong table scene marks so c new place) (sym is) (subst (λ (p : PlayOf B). PlaysOn WasAlong table scene marks so came (record new { play = p }) place) (sym rest) on))

    as_scene : (place : ℕ) (st : Stepped) → StepsAt table (picture_at old.play.actor_set.pictures) place old.play.actor_set.actors so.actors old.play.actor_set.desk new.play.actor_set.actors new.play.actor_set.desk st
        → StepsAt table (picture_at scene.pictures) place old.play.actor_set.actors so.actors old.play.actor_set.desk new.play.actor_set.actors new.play.actor_set.desk st
    as_scene place st = subst (λ (ps : List Picture). StepsAt table (picture_at ps) place old.play.actor_set.actors so.actors old.play.actor_set.desk new.play.actor_set.actors new.play.actor_set.desk st) stands.of_scene.pictures

    -- the actor at a place was tried
    module _ (place : ℕ) (t : TriesStep table place so.actors old.play new.play came_to) where
      abbrev did : (s : StepsAt table (picture_at scene.pictures) place old.play.actor_set.actors so.actors old.play.actor_set.desk new.play.actor_set.actors new.play.actor_set.desk stepped.Done) → StandsWith table scene marks so (action.Step place) with_actor_set
      did s = done_with table scene marks so old.play stands rights marked keeps.desk.legal keeps.desk.knows keeps.own new.play.actor_set place t.same t.acts s

      abbrev left : (s : StepsAt table (picture_at scene.pictures) place old.play.actor_set.actors so.actors old.play.actor_set.desk new.play.actor_set.actors new.play.actor_set.desk stepped.NotYet) → StandsWith table scene marks so action.Idle with_actor_set
      left s = left_with table scene marks so old.play stands rights marked keeps.desk.legal keeps.desk.knows keeps.own new.play.actor_set place t.same t.acts s

      abbrev ended : (s : StepsAt table (picture_at scene.pictures) place old.play.actor_set.actors so.actors old.play.actor_set.desk new.play.actor_set.actors new.play.actor_set.desk stepped.Ended) → StandsWith table scene marks so action.Idle with_actor_set
      ended s = ended_with table scene marks so old.play stands rights marked keeps.desk.legal keeps.desk.knows keeps.own new.play.actor_set place t.same t.acts s

      -- an earlier action that it waits for is an older draw
      older : (s : StepsAt table (picture_at scene.pictures) place old.play.actor_set.actors so.actors old.play.actor_set.desk new.play.actor_set.actors new.play.actor_set.desk stepped.NotYet)
          → TellsOlder scene (run_so so with_actor_set) s.old (view_in old.play) (view_in with_actor_set)
      older s =
          let kept = left s in
          older_told table scene so old.play stands rights keeps.desk.legal keeps.desk.knows keeps.own with_actor_set kept.stands kept.rights s.old (got_has so.actors place s.old s.here)

      tried_round : (was : Bool) → (WasAlong → PlaysSo scene so old.play (at.Round place was)) → On (at.Round (place + 1) (was || is_step came_to))
      tried_round was plays = by_stepped t.stepped t.is (as_scene place t.stepped t.steps)
        where
          by_stepped : (st : Stepped) → came_to ≡ action_by place st
              → StepsAt table (picture_at scene.pictures) place old.play.actor_set.actors so.actors old.play.actor_set.desk new.play.actor_set.actors new.play.actor_set.desk st → On (at.Round (place + 1) (was || is_step came_to))
          by_stepped stepped.Done is s =
              comes (action.Step place) (at.Round (place + 1) true) (at.Round (place + 1) (was || is_step came_to)) is t.rest
              (ap (λ (b : Bool). at.Round (place + 1) b) (sym (or_true was) ∙ ap (λ (x : Action). was || is_step x) (sym is)))
              (record {
                kept = did s;
                along = λ w. round_done table scene so old.play stands place new.play.actor_set t.same t.acts s keeps.desk known_actor_set (firsts s.old (got_has so.actors place s.old s.here)) w.2 was (plays w);
                holds = λ w. tt;
                stage = tt;
              })
          by_stepped stepped.NotYet is s =
              comes action.Idle (at.Round (place + 1) was) (at.Round (place + 1) (was || is_step came_to)) is t.rest
              (ap (λ (b : Bool). at.Round (place + 1) b) (sym (or_none was) ∙ ap (λ (x : Action). was || is_step x) (sym is)))
              (record {
                kept = left s;
                along = λ w. round_waits table scene so old.play stands place new.play.actor_set t.same t.acts s known_actor_set (older s) was (plays w);
                holds = λ w. tt;
                stage = tt;
              })
          by_stepped stepped.Ended is s =
              comes action.Idle (at.Round (place + 1) was) (at.Round (place + 1) (was || is_step came_to)) is t.rest
              (ap (λ (b : Bool). at.Round (place + 1) b) (sym (or_none was) ∙ ap (λ (x : Action). was || is_step x) (sym is)))
              (record { kept = ended s; along = λ w. round_ended table scene so old.play stands place new.play.actor_set t.same t.acts s was (plays w); holds = λ w. tt; stage = tt })

      tried_pick : (at' done : ℕ) (pick : Pick) → (WasAlong → PlaysSo scene so old.play (at.Order at' done)) → slice_get scene.order at' ≡ Some pick → done < pick.times
          → ((of : ActorOf B) → slice_get so.actors place ≡ Some of → pick.actor ≡ of.script.number) → On (at.Order at' (done + 1))
      tried_pick at' done pick plays there less number = by_stepped t.stepped t.is (as_scene place t.stepped t.steps)
        where
          by_stepped : (st : Stepped) → came_to ≡ action_by place st
              → StepsAt table (picture_at scene.pictures) place old.play.actor_set.actors so.actors old.play.actor_set.desk new.play.actor_set.actors new.play.actor_set.desk st → On (at.Order at' (done + 1))
          by_stepped stepped.Done is s =
              comes (action.Step place) (at.Order at' (done + 1)) (at.Order at' (done + 1)) is t.rest refl
              (record {
                kept = did s;
                along = λ w. pick_done table scene so old.play stands place new.play.actor_set t.same t.acts s keeps.desk known_actor_set (firsts s.old (got_has so.actors place s.old s.here)) w.2 at' done pick (plays w) there less
                    (number s.old s.here);
                holds = λ w. tt;
                stage = tt;
              })
          by_stepped stepped.NotYet is s =
              comes action.Idle (at.Order at' (done + 1)) (at.Order at' (done + 1)) is t.rest refl
              (record {
                kept = left s;
                along = λ w. pick_waits table scene so old.play stands place new.play.actor_set t.same t.acts s known_actor_set (older s) at' done pick (plays w) there less (number s.old s.here);
                holds = λ w. tt;
                stage = tt;
              })
          by_stepped stepped.Ended is s =
              comes action.Idle (at.Order at' (done + 1)) (at.Order at' (done + 1)) is t.rest refl
              (record {
                kept = ended s;
                along = λ w. pick_ended table scene so old.play stands place new.play.actor_set t.same t.acts s at' done pick (plays w) there less (number s.old s.here);
                holds = λ w. tt;
                stage = tt;
              })

    -- a vsync, in the order or behind a round
    module _ (v : TakesVsync lease table so.actors old new came_to) where
      abbrev told : CommittedOf ReadLeaseOf
      told = v.makes.told

      abbrev report : VsyncReport
      report = v.report

      makes : MakesVsync lease table old.play report.seen told new.play
      makes = v.makes.makes

      shows : ShowsWhatIsWritten frame_of lease.shown (written_so scene so old.play) makes.decides.looked
      shows = shows_written table scene marks so old.play stands rights marked keeps.desk.legal keeps.desk.knows keeps.own lease frames of_turns tells new.play report told makes v.makes.commits

      abbrev silent : told.commits ≡ [] → StandsWith table scene marks so (action.Vsync report) new.play
      silent none = silent_with table scene marks so old.play stands rights marked keeps.desk.legal keeps.desk.knows keeps.own lease frames of_turns tells new.play report told makes v.makes.commits none

      abbrev some : (c : Commit) (cs : List Commit) → told.commits ≡ c ∷ cs → StandsWith table scene marks so (action.Vsync report) new.play
      some c cs are =
          shown_with table scene marks so old.play stands rights marked keeps.desk.legal keeps.desk.knows keeps.own lease frames of_turns tells new.play report told makes v.makes.commits c cs are v.makes.number v.makes.expected

      -- what there is to show
      staged : (later : SoFar B) → Stands table scene later new.play → TellsStage scene new.play
      staged later now = record {
        stage = is_stage lease table scene later new.play now keeps_now tells.shows;
        expected = are_expected table scene later new.play now keeps_now.desk.legal;
      }

      vsync_pick : (place done : ℕ) (pick : Pick) → (WasAlong → PlaysSo scene so old.play (at.Order place done)) → slice_get scene.order place ≡ Some pick → done < pick.times → pick.actor ≡ 0 → On (at.Order place (done + 1))
      vsync_pick place done pick plays there less is = subst (λ (c : Action). PlaysOn WasAlong table scene marks so c new (at.Order place (done + 1))) (sym v.is) (by_commits told.commits refl)
        where
          by_commits : (cs : List Commit) → told.commits ≡ cs → PlaysOn WasAlong table scene marks so (action.Vsync report) new (at.Order place (done + 1))
          by_commits [] e = record {
            kept = silent e;
            along = λ w. pick_silent lease frames table scene so old.play new.play report.seen told stands makes shows e place done pick (plays w) there less is;
            holds = λ w. tt;
            stage = staged so (silent e).stands;
          }
          by_commits (c ∷ cs) e = record {
            kept = some c cs e;
            along = λ w. pick_shown lease frames table scene so old.play new.play report.seen told stands makes shows c cs e place done pick (plays w) there less is;
            holds = λ w. tt;
            stage = staged (some c cs e).later (some c cs e).stands;
          }

      vsync_round : (place : ℕ) (was : Bool) → (WasAlong → PlaysSo scene so old.play (at.Round place was)) → nat_lt place (length old.play.actor_set.actors) ≡ false → On (behind_round was report.commits new.held)
      vsync_round place was plays past =
          subst (λ (c : Action). PlaysOn WasAlong table scene marks so c new (behind_round was report.commits new.held)) (sym v.is)
          (subst (PlaysOn WasAlong table scene marks so (action.Vsync report) new) (λ i. behind_round was (sym v.makes.commits i) (sym v.makes.held i)) (by_commits told.commits refl))
        where
          had : length (rising_actors scene) ≤ place
          had = all_had lease frames table scene so old.play new.play report.seen told stands makes place past

          -- at the end
          ends : (later : SoFar B) (b : Bool) → new.held ≡ held_in scene (state_so later new.play) → HoldsAt scene later new (if b then at.Round 0 false else at.End)
          ends later true is = tt
          ends later false is = is

          goes_on : (later : SoFar B) (was : Bool) → HoldsAt scene later new (if was || true then at.Round 0 false else at.End)
          goes_on later true = tt
          goes_on later false = tt

          by_commits : (cs : List Commit) → told.commits ≡ cs → PlaysOn WasAlong table scene marks so (action.Vsync report) new (behind_round was told.commits told.held)
          by_commits [] e = record {
            kept = silent e;
            along = λ w. round_silent lease frames table scene so old.play new.play report.seen told stands makes shows e place was (plays w) had;
            holds = λ w. ends so (was || (has_commits told.commits || list_any (λ (h : ℕ × Hold). is_time h.1) told.held))
                (v.makes.held ∙ sym (holds_silent lease frames table scene so old.play new.play report.seen told stands makes shows e));
            stage = staged so (silent e).stands;
          }
          by_commits (c ∷ cs) e = record {
            kept = some c cs e;
            along = λ w. round_shown lease frames table scene so old.play new.play report.seen told stands makes shows c cs e place was (plays w) had;
            holds = λ w. subst (λ (ds : List Commit). HoldsAt scene (some c cs e).later new (behind_round was ds told.held)) (sym e) (goes_on (some c cs e).later was);
            stage = staged (some c cs e).later (some c cs e).stands;
          }

    -- the action of a pick
    picks_on : (place done : ℕ) (pick : Pick) → (WasAlong → PlaysSo scene so old.play (at.Order place done)) → slice_get scene.order place ≡ Some pick → done < pick.times → (n : ℕ) → pick.actor ≡ n
        → Picks lease table so.actors n old new came_to → On (at.Order place (done + 1))
    picks_on place done pick plays there less zero is picks = vsync_pick picks place done pick plays there less is
    picks_on place done pick plays there less (suc n) is picks = by_place (position is_it old.play.actor_set.actors) refl picks.0
      where
        is_it : Actor B → Bool
        is_it actor = number_of actor == suc n

        declared : has_actor scene.actors (suc n) ≡ true
        declared = by_zero (All-contains (IsPick scene.actors) scene.order pick stands.of_scene.limits.order.picks (got_has scene.order place pick there)).declared
          where
            by_zero : (pick.actor == 0 || has_actor scene.actors pick.actor) ≡ true → has_actor scene.actors (suc n) ≡ true
            by_zero e =
                let apart : (suc n == 0) ≡ false = ne_eqb (suc n) 0 (λ z. omega (arith, z)) in
                ap (λ (b : Bool). b || has_actor scene.actors (suc n)) (sym apart) ∙ subst (λ (k : ℕ). (k == 0 || has_actor scene.actors k) ≡ true) is e

        by_place : (o : Option ℕ) → position is_it old.play.actor_set.actors ≡ o → TriesIf lease table so.actors o old.play new.play came_to → On (at.Order place (done + 1))
        by_place None e tries =
            let script = one_passes (λ (s : ActorScript). s.number == suc n) scene.actors declared in
            let of = map_has script_of so.actors script.0 (Contains-permutation scene.actors (map script_of so.actors) script.0 stands.tell.actors.scripts script.1) in
            let there' = number_there table (picture_at scene.pictures) (home_of old.play.actor_set.desk) (view_of old.play.actor_set.desk) old.play.actor_set.actors so.actors of.0 stands.keep of.1 in
            absurd (no_position is_it old.play.actor_set.actors there'.actor there'.there
            (eq-eqb (number_of there'.actor) (suc n) (there'.is ∙ (ap (λ (s : ActorScript). s.number) of.2 ∙ eqb-true script.0.number (suc n) script.2))) e)
        by_place (Some at') e tries = tried_pick at' tries place done pick plays there less number
          where
            number : (of : ActorOf B) → slice_get so.actors at' ≡ Some of → pick.actor ≡ of.script.number
            number of here = by_actors old.play.actor_set.actors refl
              where
                by_actors : (actors : List (Actor B)) → old.play.actor_set.actors ≡ actors → pick.actor ≡ of.script.number
                by_actors [] none = absurd (nowhere is_it at' (ap (position is_it) (sym none) ∙ e))
                by_actors (d ∷ later) some =
                    let found = position-Some is_it old.play.actor_set.actors at' d e in
                    is ∙ (sym (eqb-true (number_of (get_or old.play.actor_set.actors at' d)) (suc n) found.1)
                    ∙ number_kept table (picture_at scene.pictures) (home_of old.play.actor_set.desk) (view_of old.play.actor_set.desk) old.play.actor_set.actors so.actors at' (get_or old.play.actor_set.actors at' d) of stands.keep
                    (slice_get-get_or old.play.actor_set.actors at' d found.0) here)

    action_on : (from : Place) → settled old.play.order old.place ≡ from → TakesActionAt lease table so.actors from old new came_to → (WasAlong → PlaysSo scene so old.play from) → On new.place
    action_on (at.Order place done) e acts plays =
        let times : All (λ (pick : Pick). 1 ≤ pick.times) old.play.order =
        subst (All (λ (pick : Pick). 1 ≤ pick.times)) (sym stands.of_scene.order)
        (All-weaker (IsPick scene.actors) (λ (pick : Pick). 1 ≤ pick.times) (λ pick is. is.low) scene.order stands.of_scene.limits.order.picks) in
        let has = settled_has old.play.order old.place place done times e in
        let same : has.pick ≡ acts.pick = one_pick has.pick acts.pick (sym has.here ∙ acts.there) in
        subst On (sym acts.next)
        (picks_on place done acts.pick plays (ap (λ (order : List Pick). slice_get order place) (sym stands.of_scene.order) ∙ acts.there) (subst (λ (pick : Pick). done < pick.times) same has.left)
        acts.pick.actor refl acts.picks)
      where
        one_pick : (a b : Pick) → Some a ≡ Some b → a ≡ b
        one_pick a b e = cc
    action_on (at.Round place was) e acts plays = by_test (nat_lt place (length old.play.actor_set.actors)) refl acts
      where
        by_test : (b : Bool) → nat_lt place (length old.play.actor_set.actors) ≡ b → RoundsIf lease table so.actors b place was old new came_to → On new.place
        by_test true low goes = subst On (sym goes.next) (tried_round place goes.tries was plays)
        by_test false past ends = subst On (sym ends.next) (vsync_round ends.vsync place was plays past)
    action_on at.End e acts plays =
        subst (λ (c : Action). PlaysOn WasAlong table scene marks so c new new.place) (sym acts.0)
        (subst (λ (p : PlayerOf B). PlaysOn WasAlong table scene marks so action.End p p.place) (sym acts.1)
        (record { kept = nothing_with table scene marks so old.play stands rights marked keeps.desk.legal keeps.desk.knows keeps.own action.End refl; along = λ w. w.0; holds = λ w. w.1; stage = tt }))

    -- each action
    pub actions_on : TakesAction lease table so.actors old new came_to → On new.place
    actions_on acts =
        action_on (settled old.play.order old.place) refl acts (λ w.
        subst (λ (order : List Pick). PlaysSo scene so old.play (settled order old.place)) (sym stands.of_scene.order) (plays_settled scene so.events (state_so so old.play) old.place w.0))
