-- Each action of a player goes on with a run of its scene, up to its end, and along with the scene's play.
use Rattle.std.proofs.Common.{◌≡◌, ◌≢◌, ℕ, zero, suc, ◌+◌, ◌<◌, ◌==◌, Bool, true, false, List, length, map, Option, Some, None, refl, ap, sym, ◌∙◌, subst, arith}
use Rattle.std.specs.Prelude.{nat_lt, slice_get, if◌then◌else◌}
use Rattle.std.specs.List.{position}
use Rattle.atomic_table.specs.Seated.{TableId}
use Rattle.sf_play_report.specs.sf_surface.Tokens.{Issued, ReadLeaseOf}
use Rattle.sf_play_report.specs.sf_turns.Views.{SeatView}
use Rattle.sf_play_report.specs.sf_txn.declared.lease.Lease.{Ghosts}
use Rattle.sf_script_scene.specs.Scene.{SceneValue}
use Rattle.sf_script_scene.specs.declared.declarations.Pick.{Pick}
use Rattle.sf_play_report.specs.sf_actor.declared.tried.Stepped.{Stepped}
use Rattle.sf_play_report.specs.sf_actor.declared.tried.Stepped.TheVariants as stepped
use Rattle.sf_play_report.specs.sf_actor.Tries.{ActorOf}
use Rattle.law_rights.specs.sf_actor_set.ActorSets.{number_of}
use Rattle.law_rights.specs.sf_actor_steps.declared.actor.Actor.{Actor}
use Rattle.sf_play_report.proofs.law_played_lemmas.StuckActors.{are_stuck}
use Rattle.sf_play_report.specs.law_played.Actors.{mark_declared}
use Rattle.sf_play_report.specs.law_played.Arrivals.{entry_of}
use Rattle.sf_play_report.specs.law_played.Ends.{shows_of}
use Rattle.sf_play_report.specs.law_played.Histories.{history_shown, rising_queues}
use Rattle.sf_play_report.specs.law_played.Played.{FitsWhere, records_of}
use Rattle.sf_play_report.specs.law_played.Progress.{held_shown}
use Rattle.sf_play_report.specs.law_played.Stopping.{stuck_among}
use Rattle.law_rights.specs.Vsyncs.{IsOfTurns}
use Rattle.law_play_order.proofs.ShownPlays.{play_happened}
use Rattle.sf_play_report.specs.declared.report.VsyncReport.{VsyncReport}
use Rattle.sf_play.proofs.AlongEnds.{ends_play}
use Rattle.sf_play.proofs.AlongNext.{StageTold, PlaysOn, WasAlong, actions_on}
use Rattle.sf_play.proofs.ActionKeepsPlayer.{ends_run, may_act, nothing_happens}
use Rattle.sf_play.proofs.HandlerLeases.{OfFrames}
use Rattle.sf_play.proofs.PlayLedger.{TellsAll, looks_written}
use Rattle.sf_play.proofs.FuelFalls.{actions_lessen, vsyncs_last}
use Rattle.sf_play.proofs.Makers.{older_told}
use Rattle.sf_play.proofs.SilentRounds.{actions_rest}
use Rattle.sf_play.proofs.PlacesTold.{tells_on}
use Rattle.sf_play.specs.Alongs.{PlaysSo, state_so}
use Rattle.sf_play.specs.Ending.{IsAtEnd, LooksTell, RestsAt, has_shown, shows_at_end}
use Rattle.sf_play.specs.Fuel.{fuel, vsyncs_left}
use Rattle.sf_play.specs.Going.{EndsPlay, EndsRun, GoesAlong, GoesOn, LeavesLess, Tells}
use Rattle.sf_play.specs.Happening.{StandsAt}
use Rattle.sf_play.specs.Places.{behind, settled, settled_at}
use Rattle.sf_play.specs.Players.{PlayerOf, SoFar, Stands, arrived_at, home_in, run_so, view_in}
use Rattle.sf_play.specs.Playing.{KeepsItself, KeepsRights}
use Rattle.sf_play.specs.Standing.{HoldsAt, StandsAlong, StandsInRun}
use Rattle.sf_play.specs.Actions.{Picks, RoundsIf, TriesIf, TakesAction, TakesActionAt, action_by}
use Rattle.sf_play.specs.declared.place.Place.{Place}
use Rattle.sf_play.specs.declared.place.Place.TheVariants as at
use Rattle.sf_play.specs.declared.action.Action.{Action}
use Rattle.sf_play.specs.declared.action.Action.TheVariants as action

-- a next action is done up to the end
behind_on : (order : List Pick) (place : ℕ) → behind order place ≡ at.End → ⊥
behind_on order place = by_more (nat_lt (place + 1) (length order))
  where
    by_more : (b : Bool) → (if b then at.Order (place + 1) 0 else at.Round 0 false) ≡ at.End → ⊥
    by_more true e = cc
    by_more false e = cc

settled_on : (order : List Pick) (place done : ℕ) (found : Option Pick) → settled_at order place done found ≡ at.End → ⊥
settled_on order place done None e = cc
settled_on order place done (Some pick) e = by_times (nat_lt done pick.times) e
  where
    by_times : (b : Bool) → (if b then at.Order place done else behind order place) ≡ at.End → ⊥
    by_times true e = cc
    by_times false e = behind_on order place e

settled_end : (order : List Pick) (place : Place) → settled order place ≡ at.End → place ≡ at.End
settled_end order (at.Order place done) e = absurd (settled_on order place done (slice_get order place) e)
settled_end order (at.Round place was) e = e
settled_end order at.End e = refl

not_end : (place : ℕ) (st : Stepped) → action_by place st ≡ action.End → ⊥
not_end place stepped.Done e = cc
not_end place stepped.NotYet e = cc
not_end place stepped.Ended e = cc

not_vsync : (came_to : Action) (report : VsyncReport) → came_to ≡ action.Vsync report → came_to ≡ action.End → ⊥
not_vsync came_to report is e = cc

module _ {B : Type 0} {R C : Type 0} (lease : Ghosts ReadLeaseOf SeatView R C) (table : TableId) (ofs : List (ActorOf B)) (old new : PlayerOf B) (came_to : Action) where
  tried_on : (found : Option ℕ) → TriesIf lease table ofs found old.play new.play came_to → came_to ≡ action.End → ⊥
  tried_on None t e = cc (t.0, e)
  tried_on (Some place) t e = not_end place t.stepped (sym t.is ∙ e)

  picked_on : (number : ℕ) → Picks lease table ofs number old new came_to → came_to ≡ action.End → ⊥
  picked_on zero t e = not_vsync came_to t.report t.is e
  picked_on (suc n) t e = tried_on (position (λ (actor : Actor B). number_of actor == suc n) old.play.actor_set.actors) t.0 e

  round_on : (more : Bool) (place : ℕ) (was : Bool) → RoundsIf lease table ofs more place was old new came_to → came_to ≡ action.End → ⊥
  round_on true place was t e = not_end place t.tries.stepped (sym t.tries.is ∙ e)
  round_on false place was t e = not_vsync came_to t.vsync.report t.vsync.is e

  -- an action at the end does nothing
  ended : (from : Place) → settled old.play.order old.place ≡ from → TakesActionAt lease table ofs from old new came_to → came_to ≡ action.End → (new ≡ old) × (new.place ≡ at.End)
  ended (at.Order place done) is t e = absurd (picked_on t.pick.actor t.picks e)
  ended (at.Round place was) is t e = absurd (round_on (nat_lt place (length old.play.actor_set.actors)) place was t e)
  ended at.End is t e = (t.1, ap (λ (p : PlayerOf B). p.place) t.1 ∙ settled_end old.play.order old.place is)

  pub ends_there : TakesAction lease table ofs old new came_to → came_to ≡ action.End → (new ≡ old) × (new.place ≡ at.End)
  ends_there acts e = ended (settled old.play.order old.place) refl acts e

module _ {B : Type 0} {R C : Type 0} (lease : Ghosts ReadLeaseOf SeatView R C) (table : TableId) (scene : SceneValue) (so : SoFar B) (old new : PlayerOf B) (stands : Stands table scene so old.play) (same : new.play.order ≡ old.play.order) where
  lessened : (came_to : Action) → came_to ≢ action.End → TakesAction lease table so.actors old new came_to → fuel new.play.order new.play new.place < fuel old.play.order old.play old.place
  lessened came_to goes acts =
      let less = actions_lessen lease table so.actors old new came_to (may_act lease table scene so old.play stands) goes acts in
      subst (λ (order : List Pick). fuel order new.play new.place < fuel old.play.order old.play old.place) (sym same) less.fuel

  -- each action leaves less, up to the end
  pub leaves_less : (came_to : Action) → TakesAction lease table so.actors old new came_to → LeavesLess came_to old new
  leaves_less (action.Step place) acts = lessened (action.Step place) (λ e. cc (e)) acts
  leaves_less action.Idle acts = lessened action.Idle (λ e. cc (e)) acts
  leaves_less (action.Vsync report) acts = lessened (action.Vsync report) (λ e. cc (e)) acts
  leaves_less action.End acts = ends_there lease table so.actors old new action.End acts refl

module _ {B : Type 0} (table : TableId) (scene : SceneValue) (so : SoFar B) (player : PlayerOf B) (is : StandsAlong table scene so player) (ended : player.place ≡ at.End) where
  at_end : IsAtEnd scene so player
  at_end = subst (RestsAt scene so player) ended is.in_run.stands.rests

  -- what it shows is what the play of the scene shows
  shows_same : shows_at_end scene so player ≡ shows_of scene so.events (state_so so player.play)
  shows_same =
      let held = subst (HoldsAt scene so player) ended is.holds in
      let stands = is.in_run.stands.stands in
      let stuck = are_stuck scene so.actors (home_in player.play) (view_in player.play) (stuck_among so.actors) stands.of_scene.limits stands.tell.actors refl at_end.rest in
      λ i. record {
        events = so.events;
        arrived = map entry_of (arrived_at player.play);
        histories = map (history_shown (run_so so player.play)) (rising_queues scene);
        held = map held_shown (held i);
        stuck = stuck.exactly i;
      }

  -- the records at the end are those of the play of the scene
  pub ends_told : EndsRun scene so player → EndsPlay scene so player
  ends_told fits = record {
    are = record {
      events = so.events;
      state = state_so so player.play;
      is_play = ends_play scene so player.play (subst (PlaysSo scene so player.play) ended is.along);
      are = ap (records_of scene) shows_same;
    };
    means = λ fit. play_happened scene (shows_at_end scene so player) (state_so so player.play) is.in_run.stands.stands.of_scene.limits
        (ends_play scene so player.play (subst (PlaysSo scene so player.play) ended is.along)) fit
        (subst (λ (tells : Bool). FitsWhere tells scene (shows_at_end scene so player) (run_so so player.play) (arrived_at player.play)) is.told fits);
  }

module _ {B : Type 0} (lease : Ghosts ReadLeaseOf SeatView ReadLeaseOf Issued) (frames : OfFrames lease) (of_turns : IsOfTurns lease) (tells : TellsAll lease) (table : TableId) (scene : SceneValue) (so : SoFar B)
    (old new : PlayerOf B) (came_to : Action) (keeps : KeepsItself lease table old.play) (keeps_now : KeepsItself lease table new.play) (acts : TakesAction lease table so.actors old new came_to) where
  module _ (was : StandsInRun table scene so old) where
    on : PlaysOn (WasAlong lease frames of_turns tells table scene so old new came_to (map mark_declared (rising_queues scene)) was.stands.stands was.rights was.marks keeps keeps_now)
        table scene (map mark_declared (rising_queues scene)) so came_to new new.place
    on = actions_on lease frames of_turns tells table scene so old new came_to (map mark_declared (rising_queues scene)) was.stands.stands was.rights was.marks keeps keeps_now acts

    abbrev later : SoFar B
    later = on.kept.later

    -- where nothing was shown, looks tell what is owed and what is written
    looks : has_shown came_to ≡ false → LooksTell lease table scene so old.play new.play
    looks none =
        let same : later ≡ so = nothing_happens scene came_to new.play so later none on.kept.happens in
        record {
          older = older_told table scene so old.play was.stands.stands was.rights keeps.desk.legal keeps.desk.knows keeps.own new.play
              (subst (λ (s : SoFar B). Stands table scene s new.play) same on.kept.stands) (subst (λ (s : SoFar B). KeepsRights table scene s new.play) same on.kept.rights);
          written = λ seen told v. looks_written lease frames of_turns tells table scene so old.play new.play seen told was.stands.stands was.rights.ledger v keeps.desk.legal keeps.desk.knows keeps.own;
        }

    pub same_order : new.play.order ≡ old.play.order
    same_order = on.kept.stands.of_scene.order ∙ sym was.stands.stands.of_scene.order

    stands_now : StandsAt table scene later new
    stands_now =
        let last = vsyncs_last lease table so.actors old new came_to (may_act lease table scene so old.play was.stands.stands) acts in
        let early = was.stands.early in
        let left = ap (λ (order : List Pick). vsyncs_left order new.play new.place) same_order in
        record {
          stands = on.kept.stands;
          rests = actions_rest lease frames table scene so old new later came_to was.stands.stands on.kept.stands keeps_now.desk.legal (λ none. nothing_happens scene came_to new.play so later none on.kept.happens) looks acts
              was.stands.rests;
          early = omega (arith, early, left, last);
        }

    in_run_now : StandsInRun table scene later new
    in_run_now = record { stands = stands_now; rights = on.kept.rights; marks = on.kept.queues }

    -- at the end it shows what fits the run
    ends_now : came_to ≡ action.End → EndsRun scene later new
    ends_now e = ends_run table scene later new in_run_now (ends_there lease table so.actors old new came_to acts e).1 keeps_now.desk keeps_now.own

    told : (Ends : SoFar B → PlayerOf B → Type 0) → (came_to ≡ action.End → Ends later new) → (came : Action) → came_to ≡ came → Tells Ends scene came later new
    told Ends ends (action.Step place) e = tt
    told Ends ends action.Idle e = tt
    told Ends ends (action.Vsync report) e = subst (λ (c : Action). StageTold scene c new.play) e on.stage
    told Ends ends action.End e = ends e

    -- each action goes on with a run of the scene
    pub goes_on : GoesOn table scene so came_to new
    goes_on = record { later = later; happens = on.kept.happens; tells = told (EndsRun scene) ends_now came_to refl; stands = in_run_now }

  -- and along with the play of the scene
  module _ (was : StandsAlong table scene so old) where
    along_now : StandsAlong table scene (later was.in_run) new
    along_now = record {
      in_run = in_run_now was.in_run;
      along = (on was.in_run).along (was.along, was.holds, was.told);
      holds = (on was.in_run).holds (was.along, was.holds, was.told);
      told = tells_on lease table so.actors came_to old new acts ∙ was.told;
    }

    ended_now : came_to ≡ action.End → EndsPlay scene (later was.in_run) new
    ended_now e = ends_told table scene (later was.in_run) new along_now (ends_there lease table so.actors old new came_to acts e).1 (ends_now was.in_run e)

    pub goes_along : GoesAlong table scene so came_to new
    goes_along = record { later = later was.in_run; happens = (on was.in_run).kept.happens; tells = told was.in_run (EndsPlay scene) ended_now came_to refl; stands = along_now }
