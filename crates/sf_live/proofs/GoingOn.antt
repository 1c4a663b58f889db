-- A player that goes on with a run in threads has shown its vsyncs.
use Rattle.std.proofs.Common.{◌≡◌, ℕ, Bool, List, [], ◌∷◌, map, Option, ◌∙◌, ap, refl, sym, subst}
use Rattle.atomic_table.specs.Seated.{TableId}
use Rattle.sf_live_compositor.specs.sf_surface.Tokens.{Issued, ReadLeaseOf}
use Rattle.sf_turns.specs.Views.{SeatView}
use Rattle.sf_live_compositor.specs.sf_txn.declared.lease.Lease.{Ghosts}
use Rattle.sf_live_compositor.specs.sf_commit.Handlers.{HandlerOf}
use Rattle.sf_live_compositor.specs.sf_output_plan.declared.plan.Plan.{Plan}
use Rattle.sf_script_scene.specs.Limits.{most_layers}
use Rattle.sf_script_scene.specs.declared.declarations.Pick.{Pick}
use Rattle.sf_live_compositor.specs.sf_actor.Scripts.{picture_at}
use Rattle.sf_live_compositor.specs.sf_actor_set.ActorSets.{ActorSetOf}
use Rattle.sf_live_compositor.specs.sf_record.Events.{events_records}
use Rattle.sf_live_compositor.specs.sf_record.declared.event.Event.TheVariants as event
use Rattle.sf_live_compositor.specs.sf_record.declared.event.VsyncRecords.{VsyncRecords}
use Rattle.sf_live_compositor.specs.law_played.Frames.{plan_of}
use Rattle.sf_live_compositor.specs.law_played.Played.{opening}
use Rattle.sf_live_compositor.specs.law_played.Vsyncs.{vsyncs_in}
use Rattle.sf_live_compositor.specs.sf_play.Players.{PlayerOf, SoFar, before_round, home_in}
use Rattle.sf_live_compositor.specs.sf_play.Standing.{StandsInRun}
use Rattle.sf_live_compositor.specs.sf_play_write.Writing.{Writes}
use Rattle.sf_live_compositor.proofs.sf_play_lemmas.HandlerLeases.{OfFrames}
use Rattle.sf_live_compositor.proofs.sf_play_write_lemmas.WritingLemmas.{writes_more}
use Rattle.sf_live_compositor.specs.sf_live_seats.Seats.{tells_of}
use Rattle.sf_live_compositor.specs.sf_live_seats.declared.locks.Locks.{Locks}
use Rattle.law_live_order.specs.law_rounds.law_order.Order.{InOneOrder}
use Rattle.law_live_order.specs.law_rounds.Rounds.{IsInOrder, come_so, happened_so}
use Rattle.law_live_order.proofs.law_rounds_lemmas.StandsInOrder.{so_far}
use Rattle.law_live_order.specs.law_rounds.OrderSoFar.{IsOrderedSoFar}
use Rattle.law_live_order.proofs.LiveOrder.{in_one_order}
use Rattle.law_live_order.proofs.NoneUpToJoin.{none_up_to_join}
use Rattle.law_live_order.proofs.law_joins_lemmas.WritesAtJoin.{KnowsByCounts}
use Rattle.law_live_order.specs.law_joins.Frames.{AllFind}
use Rattle.law_live_order.specs.law_joins.Joined.{player_joined, so_joined}
use Rattle.law_live_order.specs.law_joins.Logs.{reports_of}
use Rattle.sf_live.specs.declared.threads.Joined.{Joined}
use Rattle.sf_live_compositor.specs.sf_output_screen.declared.screens.OutputScreen.{OutputScreen}
use Rattle.sf_live.specs.inner.Resuming.{GoesFrom, HasCome}
use Rattle.sf_live.specs.inner.Rounds.{HasShown}
use Rattle.sf_live.specs.inner.Threads.{IsTogether, RunOf}
use Rattle.sf_live.proofs.Frames.{all_found, log_records_are}

module _ {B : Type 0} (lease : Ghosts ReadLeaseOf SeatView ReadLeaseOf Issued) (table : TableId) (run : RunOf B) (locks : Locks B) (joined : Joined B) (start : Option (List ℕ)) (period : ℕ) (order : List Pick)
    (handler : HandlerOf ReadLeaseOf) (vsyncs : ℕ) (t : IsTogether lease table run locks joined) (goes : GoesFrom run start period order handler vsyncs) where
  -- it is the player that the joins leave
  pub same_player : before_round period order joined.actor_set handler vsyncs ≡ player_joined run.scene t.ends t.desk run.last
  same_player = λ i. before_round (goes.same_period i) (goes.same_order i) (t.actor_set i) (goes.same_handler i) (goes.same_vsyncs i)

  module _ (frames : OfFrames lease) (by_counts : KnowsByCounts lease) (find : AllFind lease table locks run.scene.period (picture_at run.scene.pictures) t.is.joins.log) (player : PlayerOf B) (is : player ≡ before_round period order joined.actor_set handler vsyncs)
      (stands : StandsInRun table run.scene (so_joined lease run.scene table run.scene.period (most_layers run.scene.version) locks run.last t.ends t.desk t.is) (player_joined run.scene t.ends t.desk run.last))
      (reports : vsyncs_in (so_joined lease run.scene table run.scene.period (most_layers run.scene.version) locks run.last t.ends t.desk t.is).events ≡ reports_of lease table locks run.scene.period run.scene t.is.joins.log) where
    abbrev so : SoFar B
    so = so_joined lease run.scene table run.scene.period (most_layers run.scene.version) locks run.last t.ends t.desk t.is

    joined_in_order : IsInOrder t.desk.tells run.scene so (player_joined run.scene t.ends t.desk run.last).play
    joined_in_order = record { order = ordered_so; none = none_up_to_join lease run.scene table run.scene.period (most_layers run.scene.version) locks run.last t.ends t.desk t.is frames by_counts stands.rights.ledger }
      where
        ordered_so : IsOrderedSoFar t.desk.tells (come_so (player_joined run.scene t.ends t.desk run.last).play) (happened_so run.scene so (player_joined run.scene t.ends t.desk run.last).play)
        ordered_so = so_far table run.scene so (player_joined run.scene t.ends t.desk run.last) stands t.desk.tells
            (subst (λ (tells : Bool). InOneOrder tells (happened_so run.scene so (player_joined run.scene t.ends t.desk run.last).play)) (sym t.is.joins.closes.tells)
            (in_one_order lease run.scene table run.scene.period (most_layers run.scene.version) locks run.last t.ends t.desk t.is))

    pub has_shown : HasShown table run.scene (plan_of run.scene) run.timelines start run.now run.screens player
    has_shown =
        let begins = t.is.joins.begins in
        let log = t.is.joins.log in
        let wrote = t.shows.written (picture_at run.scene.pictures) (all_found lease table locks run.scene.period run.scene begins run.last log find) in
        let are = log_records_are lease table locks run.scene.period run.scene run.timelines goes.rising begins run.last log in
        record {
          so = so;
          stands = subst (StandsInRun table run.scene so) (sym (is ∙ same_player)) stands;
          planned = refl;
          rising = goes.rising;
          written = subst (λ (vs : List VsyncRecords). Writes start run.now (opening run.scene ∷ events_records (map event.Vsync vs))) (sym reports)
              (writes_more start run.before run.now (opening run.scene ∷ []) (events_records (map event.Vsync (reports_of lease table locks run.scene.period run.scene log))) goes.begun
              (subst (Writes run.before run.now) are wrote.0));
          shown = wrote.1;
          in_order = subst (λ (p : PlayerOf B). IsInOrder (home_in p.play).tells run.scene so p.play) (sym (is ∙ same_player)) joined_in_order;
        }

-- the desk that is left tells places where the locks do
pub tells_joined : {B : Type 0} (lease : Ghosts ReadLeaseOf SeatView ReadLeaseOf Issued) (table : TableId) (run : RunOf B) (locks : Locks B) (joined : Joined B) → IsTogether lease table run locks joined
    → joined.actor_set.desk.tells ≡ tells_of locks
tells_joined {B} lease table run locks joined t = ap (λ (actor_set : ActorSetOf B). actor_set.desk.tells) t.actor_set ∙ t.is.joins.closes.tells

-- of the plan, the timelines, the sink and the screens as they came to the joins
pub shown_so : {B : Type 0} (table : TableId) (run : RunOf B) (before now : Option (List ℕ)) (told timelines : List ℕ) (plan : Plan) (screens : List OutputScreen) (player : PlayerOf B) → HasCome run timelines plan now screens → told ≡ timelines
    → HasShown table run.scene (plan_of run.scene) run.timelines before run.now run.screens player → HasShown table run.scene plan told before now screens player
shown_so table run before now told timelines plan screens player come same shown =
    subst (λ (p : Plan). HasShown table run.scene p told before now screens player) (sym come.planned)
    (subst (λ (ts : List ℕ). HasShown table run.scene (plan_of run.scene) ts before now screens player) (sym (same ∙ come.same_timelines))
    (subst (λ (a : Option (List ℕ)). HasShown table run.scene (plan_of run.scene) run.timelines before a screens player) (sym come.same_sink)
    (subst (λ (s : List OutputScreen). HasShown table run.scene (plan_of run.scene) run.timelines before run.now s player) (sym come.same_screens) shown)))
