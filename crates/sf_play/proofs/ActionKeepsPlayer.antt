-- What a player keeps stands after each action.
use Rattle.std.proofs.Common.{◌≡◌, ℕ, false, List, [], ◌∷◌, length, refl, sym, ◌∙◌, subst, ◌<◌, ◌≤◌, ap, map, drop, arith}
use Rattle.std.specs.Prelude.{Contains}
use Rattle.std.specs.List.{All}
use Rattle.std.specs.List.Sorted.{IsStrictlyIncreasing}
use Rattle.std.proofs.lemmas.Bool.{false≢true}
use Rattle.std.proofs.lemmas.List.{length-map}
use Rattle.std.proofs.lemmas.List.Elements.{All-contains, All-weaker}
use Rattle.std.proofs.lemmas.List.Sorted.{Contains-permutation, IsPermutation-sym}
use Rattle.atomic_table.specs.Seated.{TableId}
use Rattle.sf_picture.specs.declared.picture.Picture.{Picture}
use Rattle.sf_play_report.specs.sf_surface.Tokens.{Issued, ReadLeaseOf}
use Rattle.sf_play_report.specs.sf_token.Arrivals.{Calls, sent}
use Rattle.sf_play_report.specs.sf_turns.Views.{SeatView}
use Rattle.sf_play_report.specs.sf_txn.declared.lease.Lease.{Ghosts}
use Rattle.sf_script_scene.specs.Limits.{IsActor, IsPick, most_actors}
use Rattle.sf_script_scene.specs.Scene.{SceneValue}
use Rattle.sf_script_scene.specs.declared.declarations.Pick.{Pick}
use Rattle.sf_script_scene.specs.declared.step.ActorScript.{ActorScript}
use Rattle.sf_play_report.specs.sf_actor.Desks.{DeskHome, DeskView, KnowsAll}
use Rattle.sf_play_report.specs.sf_actor.Known.{plain_arrival}
use Rattle.sf_play_report.specs.sf_actor.Plain.{taken_in}
use Rattle.sf_play_report.specs.sf_actor.Tries.{ActorOf}
use Rattle.sf_play_report.specs.sf_actor.Scripts.{picture_at}
use Rattle.law_rights.specs.sf_actor_set.ActorSets.{KeepAs}
use Rattle.law_rights.specs.sf_actor_steps.declared.actor.Actor.{Actor}
use Rattle.sf_play_report.proofs.law_played_lemmas.StepKeepsTold.{of_all}
use Rattle.sf_play_report.proofs.law_played_lemmas.Members.{has_map}
use Rattle.sf_play_report.proofs.law_played_lemmas.Parts.{map_twice}
use Rattle.sf_play_report.specs.law_played.Actors.{script_of}
use Rattle.sf_play_report.specs.law_played.Played.{FitsWhere}
use Rattle.sf_play_report.specs.law_played.Turns.{DrawAfterOwed}
use Rattle.sf_play.proofs.PlayEnd.{fits_at_end}
use Rattle.sf_play.proofs.PlayFuel.{few_actors, vsyncs_fit}
use Rattle.sf_play.proofs.PlayLedger.{IsLegalDesk}
use Rattle.sf_play.proofs.FuelFalls.{MayAct}
use Rattle.sf_play.proofs.Makers.{draws_came}
use Rattle.sf_play.specs.Alongs.{DeskKnows}
use Rattle.sf_play.specs.Ending.{RestsAt, has_shown, shows_at_end}
use Rattle.sf_play.specs.Fuel.{vsyncs_left}
use Rattle.sf_play.specs.Going.{EndsRun}
use Rattle.sf_play.specs.Happening.{Happens, StandsAt}
use Rattle.sf_play.specs.Players.{PlayOf, PlayerOf, SoFar, Stands, arrived_at, home_in, run_so, view_in}
use Rattle.sf_play.specs.Standing.{StandsInRun}
use Rattle.sf_play.specs.declared.place.Place.TheVariants as at
use Rattle.sf_play.specs.declared.action.Action.{Action}
use Rattle.sf_play.specs.declared.action.Action.TheVariants as action

module _ {B : Type 0} where
  -- where nothing was shown, nothing happened
  pub nothing_happens : (scene : SceneValue) (came_to : Action) (play : PlayOf B) (so later : SoFar B) → has_shown came_to ≡ false → Happens scene came_to play so later → later ≡ so
  nothing_happens scene (action.Step place) play so later none happens = absurd (false≢true (sym none))
  nothing_happens scene (action.Vsync report) play so later none happens = rw none at happens
  nothing_happens scene action.Idle play so later none happens = happens
  nothing_happens scene action.End play so later none happens = happens

  module _ {R C : Type 0} (lease : Ghosts ReadLeaseOf SeatView R C) (table : TableId) (scene : SceneValue) (so : SoFar B) where
    -- what acts rest on
    pub may_act : (play : PlayOf B) → Stands table scene so play → MayAct lease table so.actors play
    may_act play stands =
        let header = stands.of_scene.limits.header in
        let period = stands.of_scene.period in
        let low = header.low_period in
        let high = header.high_period in
        let few = stands.desk.taken in
        let many = length-map (view_in play).arrivals plain_arrival in
        record {
          keep = subst (λ (ps : List Picture). KeepAs table (picture_at ps) (home_in play) (view_in play) play.actor_set.actors so.actors) (sym stands.of_scene.pictures) stands.keep;
          taken = omega (arith, few, many);
          times = subst (All (λ (pick : Pick). 1 ≤ pick.times)) (sym stands.of_scene.order)
              (All-weaker (IsPick scene.actors) (λ (pick : Pick). 1 ≤ pick.times) (λ pick is. is.low) scene.order stands.of_scene.limits.order.picks);
          low = omega (arith, low, period);
          high = omega (arith, high, period);
        }

  -- A player that stands at its end shows what fits the run that was told.
  pub shows_fit : (table : TableId) (scene : SceneValue) (so : SoFar B) (player : PlayerOf B) → StandsAt table scene so player → player.place ≡ at.End → KnowsAll (view_in player.play) → IsLegalDesk player.play.actor_set.desk
      → DrawAfterOwed scene (run_so so player.play) → FitsWhere (home_in player.play).tells scene (shows_at_end scene so player) (run_so so player.play) (arrived_at player.play)
  shows_fit table scene so player was ended knows legal acts = fits_at_end table scene so player was.stands knows legal acts (subst (RestsAt scene so player) ended was.rests)

  -- whoever did its steps
  pub ends_run : (table : TableId) (scene : SceneValue) (so : SoFar B) (player : PlayerOf B) → StandsInRun table scene so player → player.place ≡ at.End → DeskKnows player.play
      → player.play.actor_set.desk.turns.table ≡ table → EndsRun scene so player
  ends_run table scene so player is ended desk own =
      shows_fit table scene so player is.stands ended desk.knows desk.legal (draws_came table scene so player.play is.stands.stands is.rights desk.legal desk.knows own)

  -- the actors of a play have the scripts of the scene
  scripts_are : (table : TableId) (pictures : ℕ → Picture) (home : DeskHome) (view : DeskView B) (actors : List (Actor B)) (ofs : List (ActorOf B)) → KeepAs table pictures home view actors ofs
      → map (λ (actor : Actor B). actor.script) actors ≡ map script_of ofs
  scripts_are table pictures home view [] [] keep = refl
  scripts_are table pictures home view [] (of ∷ ofs) keep = absurd keep
  scripts_are table pictures home view (actor ∷ actors) [] keep = absurd keep
  scripts_are table pictures home view (actor ∷ actors) (of ∷ ofs) keep = λ i. sym keep.0.is.script i ∷ scripts_are table pictures home view actors ofs keep.1 i

  -- one that begins stands
  pub begins_stand : (table : TableId) (scene : SceneValue) (so : SoFar B) (player : PlayerOf B) → Stands table scene so player.play → player.place ≡ at.Order 0 0 → player.play.vsyncs ≡ 0
      → player.play.handler.pending ≡ [] → player.play.actor_set.desk.arrivals ≡ [] → StandsAt table scene so player
  begins_stand table scene so player stands first none_made none_pending none_arrived =
      let play = player.play in
      let limits = stands.of_scene.limits in
      let scripts = scripts_are table (picture_at scene.pictures) (home_in play) (view_in play) play.actor_set.actors so.actors stands.keep in
      let most = few_actors scene.version in
      let fits : vsyncs_left play.order play (at.Order 0 0) < 4294967295 =
      vsyncs_fit play.order play
      (subst (λ (order : List Pick). length order ≤ 1048576) (sym stands.of_scene.order) limits.order.few)
      (subst (All (λ (pick : Pick). pick.times ≤ 256)) (sym stands.of_scene.order) (All-weaker (IsPick scene.actors) (λ (pick : Pick). pick.times ≤ 256) (λ pick is. is.high) scene.order limits.order.picks))
      (subst IsStrictlyIncreasing (sym (sym (map_twice (λ (actor : Actor B). actor.script) (λ (script : ActorScript). script.number) play.actor_set.actors) ∙ ap (map (λ (script : ActorScript). script.number)) scripts
      ∙ map_twice script_of (λ (script : ActorScript). script.number) so.actors)) stands.tell.actors.apart)
      (of_all (λ (actor : Actor B). ((1 ≤ actor.script.number) × (actor.script.number ≤ 64)) × (length actor.script.steps ≤ 4096)) play.actor_set.actors (λ actor there.
      let has = subst (λ (ss : List ActorScript). Contains ss actor.script) scripts (has_map (λ (a : Actor B). a.script) play.actor_set.actors actor there) in
      let declared = Contains-permutation (map script_of so.actors) scene.actors actor.script (IsPermutation-sym scene.actors (map script_of so.actors) stands.tell.actors.scripts) has in
      let is = All-contains (IsActor (most_actors scene.version)) scene.actors actor.script limits.actors.each declared in
      let high = is.high in
      ((is.low, omega (arith, high, most)), is.few_steps)))
      none_pending (ap (λ (a : Calls ReadLeaseOf SeatView ReadLeaseOf Issued). drop (taken_in a) (sent a)) none_arrived) in
      record {
        stands = stands;
        rests = subst (RestsAt scene so player) (sym first) tt;
        early = let left = ap (vsyncs_left play.order play) first in omega (arith, fits, left, none_made);
      }
