-- Each action of a player lessens its fuel, and its vsyncs do not pass those that were left.
use Rattle.std.proofs.Common.{◌≡◌, ◌≢◌, ℕ, zero, suc, ◌+◌, ◌<◌, ◌≤◌, ◌==◌, Bool, true, false, ◌||◌, List, [], ◌∷◌, length, Option, Some, None, refl, sym, ap, ◌∙◌, subst, inl, inr, arith}
use Rattle.std.specs.Prelude.{◌⊎◌, if◌then◌else◌, nat_lt}
use Rattle.std.specs.List.{All, list_any, position}
use Rattle.std.proofs.lemmas.Bool.{cases_Bool, ltb-true, or_cases}
use Rattle.atomic_table.specs.Seated.{TableId}
use Rattle.sf_play_report.specs.sf_ready.declared.hold.Hold.{Hold}
use Rattle.sf_play_report.specs.sf_surface.Tokens.{ReadLeaseOf}
use Rattle.sf_play_report.specs.sf_turns.Views.{SeatView}
use Rattle.sf_play_report.specs.sf_txn.declared.lease.Lease.{Ghosts}
use Rattle.sf_play_report.specs.sf_commit.declared.vsync.Commit.{Commit}
use Rattle.sf_script_scene.specs.declared.declarations.Pick.{Pick}
use Rattle.law_rights.specs.sf_actor_steps.declared.actor.Actor.{Actor}
use Rattle.sf_play_report.specs.sf_actor.declared.tried.Stepped.{Stepped}
use Rattle.sf_play_report.specs.sf_actor.declared.tried.Stepped.TheVariants as stepped
use Rattle.sf_play_report.specs.sf_actor.Desks.{DeskView}
use Rattle.sf_play_report.specs.sf_actor.Scripts.{picture_at}
use Rattle.sf_play_report.specs.sf_actor.Tries.{ActorOf}
use Rattle.law_rights.specs.sf_actor_set.ActorSets.{StepsAt, number_of}
use Rattle.sf_play_report.specs.law_played.Progress.{is_time}
use Rattle.sf_play.specs.Fuel.{fuel, rounds_left, vsyncs_left, work_left}
use Rattle.sf_play.specs.Places.{settled}
use Rattle.sf_play.specs.Players.{PlayOf, PlayerOf, home_in, view_in}
use Rattle.sf_play_report.specs.Reports.{has_commits}
use Rattle.sf_play.specs.Actions.{EndsRound, GoesRound, KeepsActorSet, Picks, Rounds, RoundsIf, TakesPick, TriesIf, TriesStep, TakesAction, TakesActionAt, TakesVsync, goes_on, is_step, action_by}
use Rattle.sf_play.specs.declared.place.Place.{Place}
use Rattle.sf_play.specs.declared.place.Place.TheVariants as at
use Rattle.sf_play.specs.declared.action.Action.{Action}
use Rattle.sf_play.specs.declared.action.Action.TheVariants as action
use Rattle.sf_play.proofs.LessToCommit.{less_at_vsync, same_actors, work_at_vsync}
use Rattle.sf_play.proofs.ActionFuel.{TriesIn, actors_same, work_less, work_stays}
use Rattle.sf_play.proofs.PlayFuel as lasting
use Rattle.sf_play.proofs.PlayFuel.{again_less, again_vsyncs, end_less, end_vsyncs, order_less, order_vsyncs, round_less, round_vsyncs, settled_fuel, settled_has, settled_vsyncs}

module _ {B : Type 0} {R C : Type 0} (lease : Ghosts ReadLeaseOf SeatView R C) (table : TableId) (ofs : List (ActorOf B)) where
  -- what the acts of a play rest on
  pub record MayAct (play : PlayOf B) : Type 0 where
    pub keep : KeepsActorSet table play ofs
    pub taken : (home_in play).taken ≤ length (view_in play).arrivals
    pub times : All (λ (pick : Pick). 1 ≤ pick.times) play.order
    pub low : 1000000 ≤ play.period
    pub high : play.period ≤ 1000000000

  -- a try leaves as much work, or less where the step was done
  record Tried (old new : PlayOf B) (came_to : Action) : Type 0 where
    work : work_left new ≤ work_left old
    did : is_step came_to ≡ true → work_left new + 2 ≤ work_left old
    many : length new.actor_set.actors ≡ length old.actor_set.actors
    vsyncs : new.vsyncs ≡ old.vsyncs

  tried_by : (place : ℕ) (old new : PlayOf B) (came_to : Action) (stepped : Stepped) → TriesIn table (picture_at old.actor_set.pictures) place ofs old new → came_to ≡ action_by place stepped
      → StepsAt table (picture_at old.actor_set.pictures) place old.actor_set.actors ofs old.actor_set.desk new.actor_set.actors new.actor_set.desk stepped → new.vsyncs ≡ old.vsyncs → Tried old new came_to
  tried_by place old new came_to stepped.Done tries is steps vsyncs =
      let less = work_less table (picture_at old.actor_set.pictures) place ofs old new tries steps in
      record {
        work = omega (arith, less);
        did = λ done. less;
        many = actors_same table (picture_at old.actor_set.pictures) place ofs old new tries steps.new steps.keep;
        vsyncs = vsyncs;
      }
  tried_by place old new came_to stepped.NotYet tries is steps vsyncs =
      let same = work_stays table (picture_at old.actor_set.pictures) place ofs old new tries steps.old steps.new steps.here steps.tries.same steps.keep steps.tries.arrivals in
      record {
        work = omega (arith, same);
        did = λ done. absurd (cc (ap is_step is, done));
        many = actors_same table (picture_at old.actor_set.pictures) place ofs old new tries steps.new steps.keep;
        vsyncs = vsyncs;
      }
  tried_by place old new came_to stepped.Ended tries is steps vsyncs =
      let same = work_stays table (picture_at old.actor_set.pictures) place ofs old new tries steps.old steps.new steps.here steps.tries.0 steps.keep (ap (λ (v : DeskView B). v.arrivals) steps.tries.1) in
      record {
        work = omega (arith, same);
        did = λ done. absurd (cc (ap is_step is, done));
        many = actors_same table (picture_at old.actor_set.pictures) place ofs old new tries steps.new steps.keep;
        vsyncs = vsyncs;
      }

  tried : (place : ℕ) (old new : PlayOf B) (came_to : Action) → MayAct old → TriesStep table place ofs old new came_to → Tried old new came_to
  tried place old new came_to may tries =
      tried_by place old new came_to tries.stepped
      (record { same = tries.rest; home = tries.same.home; exact = refl; taken = may.taken; keep = may.keep }) tries.is tries.steps (ap (λ (p : PlayOf B). p.vsyncs) tries.rest)

  tried_if : (found : Option ℕ) (old new : PlayOf B) (came_to : Action) → MayAct old → TriesIf lease table ofs found old new came_to → Tried old new came_to
  tried_if None old new came_to may tries =
      let same = ap work_left tries.1 in
      record {
        work = omega (arith, same);
        did = λ done. absurd (cc (ap is_step tries.0, done));
        many = ap (λ (p : PlayOf B). length p.actor_set.actors) tries.1;
        vsyncs = ap (λ (p : PlayOf B). p.vsyncs) tries.1;
      }
  tried_if (Some place) old new came_to may tries = tried place old new came_to may tries

  -- an action of the order leaves as much work at most, and makes one vsync at most
  record Picked (old new : PlayOf B) : Type 0 where
    work : work_left new ≤ work_left old
    many : length new.actor_set.actors ≡ length old.actor_set.actors
    vsyncs : new.vsyncs ≤ old.vsyncs + 1

  made_vsync : (old new : PlayerOf B) (came_to : Action) → TakesVsync lease table ofs old new came_to → Picked old.play new.play
  made_vsync old new came_to vsync =
      let makes = vsync.makes.makes in
      let vsyncs = ap (λ (p : PlayOf B). p.vsyncs) makes.rest in
      record {
        work = work_at_vsync lease table old.play new.play vsync.report.seen vsync.makes.told makes;
        many = ap (λ (actors : List (Actor B)). length actors) (same_actors lease table old.play new.play vsync.report.seen vsync.makes.told makes);
        vsyncs = omega (arith, vsyncs);
      }

  picked : (number : ℕ) (old new : PlayerOf B) (came_to : Action) → MayAct old.play → Picks lease table ofs number old new came_to → Picked old.play new.play
  picked zero old new came_to may picks = made_vsync old new came_to picks
  picked (suc n) old new came_to may picks =
      let it = tried_if (position (λ (actor : Actor B). number_of actor == suc n) old.play.actor_set.actors) old.play new.play came_to may picks.0 in
      let vsyncs = it.vsyncs in
      record { work = it.work; many = it.many; vsyncs = omega (arith, vsyncs) }

  -- what is less after an action
  pub record Lessens (order : List Pick) (old new : PlayOf B) (from next : Place) : Type 0 where
    pub fuel : fuel order new next < fuel order old from
    pub vsyncs : new.vsyncs + vsyncs_left order new next ≤ old.vsyncs + vsyncs_left order old from

  order_lessens : (order : List Pick) (place done : ℕ) (old new : PlayerOf B) (came_to : Action) → MayAct old.play → order ≡ old.play.order → lasting.HasAction order place done → TakesPick lease table ofs place done old new came_to
      → Lessens order old.play new.play (at.Order place done) new.place
  order_lessens order place done old new came_to may same has takes =
      let it = picked takes.pick.actor old new came_to may takes.picks in
      subst (λ (next : Place). Lessens order old.play new.play (at.Order place done) next) (sym takes.next) (record {
        fuel = order_less order old.play new.play place done has.pick has.here has.left it.work it.many;
        vsyncs = order_vsyncs order old.play new.play place done has.pick has.here has.left it.work it.vsyncs;
      })

  round_lessens : (order : List Pick) (place : ℕ) (was : Bool) (old new : PlayerOf B) (came_to : Action) → MayAct old.play → place < length old.play.actor_set.actors → GoesRound lease table ofs place was old new came_to
      → Lessens order old.play new.play (at.Round place was) new.place
  round_lessens order place was old new came_to may low goes =
      let it = tried place old.play new.play came_to may goes.tries in
      let rounds : rounds_left new.play (was || is_step came_to) ≤ rounds_left old.play was = by_step was (is_step came_to) it.work it.did in
      subst (λ (next : Place). Lessens order old.play new.play (at.Round place was) next) (sym goes.next) (record {
        fuel = round_less order old.play new.play place was (was || is_step came_to) low rounds it.many;
        vsyncs = round_vsyncs order old.play new.play place (place + 1) was (was || is_step came_to) rounds it.vsyncs;
      })
    where
      by_step : (was did : Bool) → work_left new.play ≤ work_left old.play → (did ≡ true → work_left new.play + 2 ≤ work_left old.play) → rounds_left new.play (was || did) ≤ rounds_left old.play was
      by_step true did work less = omega (arith, work)
      by_step false true work less = let two = less refl in omega (arith, two)
      by_step false false work less = omega (arith, work)

  -- why a round is followed by another
  has_some : (commits : List Commit) → has_commits commits ≡ true → commits ≢ []
  has_some [] e = absurd (cc (e))
  has_some (commit ∷ commits) e = λ none. cc (none)

  vsync_lessens : (order : List Pick) (place : ℕ) (was : Bool) (old new : PlayerOf B) (came_to : Action) → MayAct old.play → EndsRound lease table ofs was old new came_to
      → Lessens order old.play new.play (at.Round place was) new.place
  vsync_lessens order place was old new came_to may ends =
      let makes = ends.vsync.makes in
      let told = makes.told in
      let it = made_vsync old new came_to ends.vsync in
      let vsyncs = ap (λ (p : PlayOf B). p.vsyncs) makes.makes.rest in
      elim (cases_Bool (goes_on lease table ofs was ends.vsync.report.commits new.held)) [
        | inl on ↦
            let why : (was ≡ true) ⊎ (work_left new.play + 1 ≤ work_left old.play) = elim (or_cases was (has_commits ends.vsync.report.commits || list_any (λ (h : ℕ × Hold). is_time h.1) new.held) on) [
              | inl stepped ↦ inl stepped
              | inr more ↦ inr (less_at_vsync lease table old.play new.play ends.vsync.report.seen told makes.makes may.low may.high
                  (elim (or_cases (has_commits ends.vsync.report.commits) (list_any (λ (h : ℕ × Hold). is_time h.1) new.held) more) [
                    | inl some ↦ inl (subst (λ (commits : List Commit). commits ≢ []) makes.commits (has_some ends.vsync.report.commits some))
                    | inr time ↦ inr (ap (list_any (λ (h : ℕ × Hold). is_time h.1)) (sym makes.held) ∙ time)
                  ]))
            ] in
            let rounds = lasting.goes_on order old.play new.play was it.work why in
            let next : new.place ≡ at.Round 0 false = ends.next ∙ ap (λ (b : Bool). if b then at.Round 0 false else at.End) on in
            subst (λ (p : Place). Lessens order old.play new.play (at.Round place was) p) (sym next) (record {
              fuel = again_less order old.play new.play place was rounds it.many;
              vsyncs = again_vsyncs order old.play new.play place was rounds vsyncs;
            })
        | inr off ↦
            let next : new.place ≡ at.End = ends.next ∙ ap (λ (b : Bool). if b then at.Round 0 false else at.End) off in
            subst (λ (p : Place). Lessens order old.play new.play (at.Round place was) p) (sym next) (record {
              fuel = end_less order old.play new.play place was;
              vsyncs = end_vsyncs order old.play new.play place was vsyncs;
            })
      ]

  rounds_lessen : (order : List Pick) (place : ℕ) (was : Bool) (old new : PlayerOf B) (came_to : Action) → MayAct old.play → Rounds lease table ofs place was old new came_to
      → Lessens order old.play new.play (at.Round place was) new.place
  rounds_lessen order place was old new came_to may rounds = by_test (nat_lt place (length old.play.actor_set.actors)) refl rounds
    where
      by_test : (low : Bool) → nat_lt place (length old.play.actor_set.actors) ≡ low → RoundsIf lease table ofs low place was old new came_to → Lessens order old.play new.play (at.Round place was) new.place
      by_test true e goes = round_lessens order place was old new came_to may (ltb-true place (length old.play.actor_set.actors) e) goes
      by_test false e ends = vsync_lessens order place was old new came_to may ends

  action_lessens : (from : Place) (old new : PlayerOf B) (came_to : Action) → MayAct old.play → came_to ≢ action.End → settled old.play.order old.place ≡ from → TakesActionAt lease table ofs from old new came_to
      → Lessens old.play.order old.play new.play from new.place
  action_lessens (at.Order place done) old new came_to may goes e acts =
      order_lessens old.play.order place done old new came_to may refl (settled_has old.play.order old.place place done may.times e) acts
  action_lessens (at.Round place was) old new came_to may goes e acts = rounds_lessen old.play.order place was old new came_to may acts
  action_lessens at.End old new came_to may goes e acts = absurd (goes acts.0)

  -- each action that is not the end
  pub actions_lessen : (old new : PlayerOf B) (came_to : Action) → MayAct old.play → came_to ≢ action.End → TakesAction lease table ofs old new came_to → Lessens old.play.order old.play new.play old.place new.place
  actions_lessen old new came_to may goes acts =
      let less = action_lessens (settled old.play.order old.place) old new came_to may goes refl acts in
      let one = settled_fuel old.play.order old.play old.place in
      let other = settled_vsyncs old.play.order old.play old.place in
      let fuel = less.fuel in
      let vsyncs = less.vsyncs in
      record { fuel = omega (arith, fuel, one); vsyncs = omega (arith, vsyncs, other) }

  -- no action makes a vsync that was not counted
  pub vsyncs_last : (old new : PlayerOf B) (came_to : Action) → MayAct old.play → TakesAction lease table ofs old new came_to
      → new.play.vsyncs + vsyncs_left old.play.order new.play new.place ≤ old.play.vsyncs + vsyncs_left old.play.order old.play old.place
  vsyncs_last old new came_to may acts = by_place (settled old.play.order old.place) refl acts
    where
      left_at : (from : Place) → settled old.play.order old.place ≡ from → vsyncs_left old.play.order old.play from ≤ vsyncs_left old.play.order old.play old.place
      left_at from e = subst (λ (p : Place). vsyncs_left old.play.order old.play p ≤ vsyncs_left old.play.order old.play old.place) e (settled_vsyncs old.play.order old.play old.place)

      by_place : (from : Place) → settled old.play.order old.place ≡ from → TakesActionAt lease table ofs from old new came_to
          → new.play.vsyncs + vsyncs_left old.play.order new.play new.place ≤ old.play.vsyncs + vsyncs_left old.play.order old.play old.place
      by_place (at.Order place done) e takes =
          let less = (order_lessens old.play.order place done old new came_to may refl (settled_has old.play.order old.place place done may.times e) takes).vsyncs in
          let there = left_at (at.Order place done) e in
          omega (arith, less, there)
      by_place (at.Round place was) e rounds =
          let less = (rounds_lessen old.play.order place was old new came_to may rounds).vsyncs in
          let there = left_at (at.Round place was) e in
          omega (arith, less, there)
      by_place at.End e stays =
          subst (λ (p : PlayerOf B). p.play.vsyncs + vsyncs_left old.play.order p.play p.place ≤ old.play.vsyncs + vsyncs_left old.play.order old.play old.place) (sym stays.1) (omega arith)
