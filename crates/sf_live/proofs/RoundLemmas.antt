-- The vsyncs of the rounds behind a run, and how far they have been written.
use Rattle.std.proofs.Common.{◌≡◌, ℕ, Bool, not, List, [], ◌∷◌, ◌++◌, map, Option, Result, Ok, Err, OnErr, OnOk, ap, ◌∙◌, sym, subst, inl, inr}
use Rattle.std.specs.Prelude.{◌⊎◌}
use Rattle.std.specs.List.{flat_map}
use Rattle.std.proofs.lemmas.List.{append-nil, map-append}
use Rattle.std.proofs.lemmas.List.Concat.{flat_map-append}
use Rattle.std.proofs.lemmas.List.Elements.{All-weaker}
use Rattle.atomic_table.specs.Seated.{TableId}
use Rattle.sf_picture.specs.declared.picture.Picture.{Picture}
use Rattle.sf_live_compositor.specs.sf_output_plan.declared.plan.Plan.{Plan}
use Rattle.sf_live_compositor.specs.sf_commit.Handlers.{HandlerOf}
use Rattle.sf_live_compositor.specs.sf_commit.declared.vsync.Commit.{Commit}
use Rattle.sf_live_compositor.specs.sf_surface.Tokens.{ReadLeaseOf}
use Rattle.sf_script_scene.specs.Scene.{SceneValue}
use Rattle.sf_live_compositor.specs.sf_actor.Scripts.{picture_at}
use Rattle.sf_live_compositor.specs.sf_record.Events.{event_records, events_records, vsync_records}
use Rattle.sf_live_compositor.specs.sf_record.declared.encode.RunFault.{RunFault}
use Rattle.sf_live_compositor.specs.sf_record.declared.event.Event.{Event}
use Rattle.sf_live_compositor.specs.sf_record.declared.event.Event.TheVariants as event
use Rattle.sf_live_compositor.specs.sf_record.declared.event.VsyncRecords.{VsyncRecords}
use Rattle.sf_live_compositor.specs.sf_record.declared.record.Record.{Record}
use Rattle.sf_live_compositor.specs.sf_record.declared.record.ReplyRecord.{ReplyRecord}
use Rattle.sf_live_compositor.specs.sf_play_report.Reports.{has_commits}
use Rattle.sf_live_compositor.specs.sf_play_report.Stages.{AreExpected, IsStage}
use Rattle.sf_live_compositor.specs.sf_play_report.declared.report.VsyncReport.{VsyncReport}
use Rattle.sf_live_compositor.specs.law_played.Frames.{ShowsImage, plan_of}
use Rattle.sf_live_compositor.specs.law_played.Played.{opening}
use Rattle.sf_live_compositor.specs.law_played.Replies.{reply_shown}
use Rattle.sf_live_compositor.specs.law_played.Vsyncs.{rising_timelines, vsync_in, vsyncs_in}
use Rattle.sf_live_compositor.specs.sf_output_screen.ScreenLists.{AreShown}
use Rattle.sf_live_compositor.specs.sf_output_screen.declared.screens.OutputScreen.{OutputScreen}
use Rattle.sf_live_compositor.specs.sf_play.Going.{GoesOn, TellsStage}
use Rattle.sf_live_compositor.specs.sf_play.Happening.{VsyncHappens}
use Rattle.sf_live_compositor.specs.sf_play.Players.{PlayOf, PlayerOf, SoFar, home_in, signals_so, taken_at, told_at}
use Rattle.sf_live_compositor.specs.sf_play.Playing.{expected_by}
use Rattle.sf_live_compositor.specs.sf_play.Standing.{StandsInRun}
use Rattle.sf_live_compositor.specs.sf_play.Showing.{vsync_shown as play_shown}
use Rattle.sf_live_compositor.specs.sf_play.declared.action.Action.{Action}
use Rattle.sf_live_compositor.specs.sf_play.declared.action.Action.TheVariants as action
use Rattle.sf_live_compositor.specs.sf_play.Actions.{is_end}
use Rattle.sf_live_compositor.specs.sf_play_write.Vsyncs.{records_if, told_with, without_image}
use Rattle.sf_live_compositor.specs.sf_play_write.Writing.{Writes, WritesPart}
use Rattle.sf_live_compositor.specs.sf_play_write.declared.shows.Shows.{Shows}
use Rattle.sf_live_compositor.proofs.sf_play_write_lemmas.WritingLemmas.{part_more, part_whole, writes_more}
use Rattle.law_live_order.specs.law_rounds.Rounds.{IsInOrder}
use Rattle.sf_live.specs.Runs.{BeginsLive, CutLive, ShowsOutputs, in_vsyncs}
use Rattle.sf_live.specs.inner.Rounds.{CutsAction, HasShown, MayWriteAction, RunAt, ShowsOn, WritesAction, action_written, vsyncs_alone}
use Rattle.sf_live.proofs.VsyncReports.{told_is}

-- a call that gave its value had no fault
pub no_fault : {A : Type 0} {x : A} {fault : RunFault} → Ok x ≡ Err fault → ⊥
no_fault is = cc

vsyncs_more : (events : List Event) (one : Event) → vsyncs_in (events ++ one ∷ []) ≡ vsyncs_in events ++ vsync_in one
unfolding vsyncs_in
vsyncs_more events one = flat_map-append vsync_in events (one ∷ []) ∙ ap (λ (vs : List VsyncRecords). flat_map vsync_in events ++ vs) (append-nil (vsync_in one))

-- a reply is no vsync
with_reply : (events : List Event) (reply : ReplyRecord) → vsyncs_alone (events ++ event.Reply reply ∷ []) ≡ vsyncs_alone events
with_reply events reply = ap (map event.Vsync) (vsyncs_more events (event.Reply reply) ∙ append-nil (vsyncs_in events))

with_vsync : (events : List Event) (told : VsyncRecords) → vsyncs_alone (events ++ event.Vsync told ∷ []) ≡ vsyncs_alone events ++ event.Vsync told ∷ []
with_vsync events told = ap (map event.Vsync) (vsyncs_more events (event.Vsync told)) ∙ map-append event.Vsync (vsyncs_in events) (told ∷ [])

pub records_more : (events more : List Event) → events_records (events ++ more) ≡ events_records events ++ events_records more
unfolding events_records
records_more events more = flat_map-append event_records events more

one_vsync : (told : VsyncRecords) → events_records (event.Vsync told ∷ []) ≡ vsync_records told
unfolding events_records
one_vsync told = append-nil (vsync_records told)

vsync_records_more : (events : List Event) (told : VsyncRecords) → events_records (vsyncs_alone events) ++ vsync_records told ≡ events_records (vsyncs_alone (events ++ event.Vsync told ∷ []))
vsync_records_more events told =
    ap (λ (rs : List Record). events_records (vsyncs_alone events) ++ rs) (sym (one_vsync told))
    ∙ sym (records_more (vsyncs_alone events) (event.Vsync told ∷ []))
    ∙ ap events_records (sym (with_vsync events told))

module _ {B : Type 0} where
  -- an action that is no vsync has no records
  pub none_written : (pictures : ℕ → Picture) (plan : Plan) (timelines : List ℕ) (player : PlayerOf B) (came_to : Action) → ((place : ℕ) × (came_to ≡ action.Step place)) ⊎ ((came_to ≡ action.Idle) ⊎ (came_to ≡ action.End))
      → [] ≡ action_written pictures plan timelines player came_to
  none_written pictures plan timelines player came_to is = elim is [
    | inl step ↦ ap (action_written pictures plan timelines player) (sym step.1)
    | inr other ↦ elim other [
      | inl idle ↦ ap (action_written pictures plan timelines player) (sym idle)
      | inr end ↦ ap (action_written pictures plan timelines player) (sym end)
    ]
  ]

  vsync_is : (scene : SceneValue) (timelines : List ℕ) (report : VsyncReport) (play : PlayOf B) (so later : SoFar B) → timelines ≡ rising_timelines scene
      → (commits : List Commit) → VsyncHappens scene (has_commits commits) report play so later
      → events_records (vsyncs_alone so.events) ++ records_if commits (told_with (picture_at scene.pictures) (plan_of scene) timelines report play.handler.tree.layers) ≡ events_records (vsyncs_alone later.events)
  vsync_is scene timelines report play so later rising [] happens =
      append-nil (events_records (vsyncs_alone so.events)) ∙ sym (ap (λ (s : SoFar B). events_records (vsyncs_alone s.events)) happens)
  vsync_is scene timelines report play so later rising (commit ∷ commits) happens =
      let told = play_shown scene report.number report.expected report.seen report.commits play.handler.tree in
      ap (λ (v : VsyncRecords). events_records (vsyncs_alone so.events) ++ vsync_records v) (sym (told_is scene timelines report play.handler.tree rising))
      ∙ vsync_records_more so.events told
      ∙ sym (ap (λ (s : SoFar B). events_records (vsyncs_alone s.events)) happens)

  -- the records of an action follow those of the vsyncs before
  action_records : (table : TableId) (scene : SceneValue) (plan : Plan) (timelines : List ℕ) (so : SoFar B) (came_to : Action) (player : PlayerOf B) → plan ≡ plan_of scene → timelines ≡ rising_timelines scene
      → (goes : GoesOn table scene so came_to player)
      → events_records (vsyncs_alone so.events) ++ action_written (picture_at scene.pictures) plan timelines player came_to ≡ events_records (vsyncs_alone goes.later.events)
  action_records table scene plan timelines so (action.Step place) player planned rising goes =
      let did = goes.happens in
      append-nil (events_records (vsyncs_alone so.events))
      ∙ ap events_records (sym (with_reply so.events (reply_shown did.reply)))
      ∙ sym (ap (λ (s : SoFar B). events_records (vsyncs_alone s.events)) did.is)
  action_records table scene plan timelines so (action.Vsync report) player planned rising goes =
      ap (λ (p : Plan). events_records (vsyncs_alone so.events) ++ records_if report.commits (told_with (picture_at scene.pictures) p timelines report player.play.handler.tree.layers)) planned
      ∙ vsync_is scene timelines report player.play so goes.later rising report.commits goes.happens
  action_records table scene plan timelines so action.Idle player planned rising goes =
      append-nil (events_records (vsyncs_alone so.events)) ∙ sym (ap (λ (s : SoFar B). events_records (vsyncs_alone s.events)) goes.happens)
  action_records table scene plan timelines so action.End player planned rising goes =
      append-nil (events_records (vsyncs_alone so.events)) ∙ sym (ap (λ (s : SoFar B). events_records (vsyncs_alone s.events)) goes.happens)

  pub may_write : (table : TableId) (scene : SceneValue) (plan : Plan) (so : SoFar B) (came_to : Action) (player : PlayerOf B) → plan ≡ plan_of scene → GoesOn table scene so came_to player → MayWriteAction scene plan came_to player
  may_write table scene plan so (action.Step place) player planned goes = tt
  may_write table scene plan so (action.Vsync report) player planned goes = (planned, goes.tells)
  may_write table scene plan so action.Idle player planned goes = tt
  may_write table scene plan so action.End player planned goes = tt

  -- where each scene's records of an action were written, or a prefix of them
  pub written_each : {A : Type 0} (result : Result A RunFault) (shows : Shows) (came_to : Action) (before after : RunAt B)
      → ((scene : SceneValue) → MayWriteAction scene shows.plan came_to before.player → AreShown (picture_at scene.pictures) before.screens
      → OnOk result (Writes before.taken after.taken (action_written (picture_at scene.pictures) shows.plan shows.timelines.items before.player came_to) × AreShown (picture_at scene.pictures) after.screens))
      → OnOk result (WritesAction shows came_to before after)
  written_each (Ok x) shows came_to before after each = each
  written_each (Err fault) shows came_to before after each = tt

  pub cut_each : {A : Type 0} (result : Result A RunFault) (shows : Shows) (came_to : Action) (before after : RunAt B)
      → ((scene : SceneValue) → MayWriteAction scene shows.plan came_to before.player → AreShown (picture_at scene.pictures) before.screens
      → OnErr result (WritesPart before.taken after.taken (action_written (picture_at scene.pictures) shows.plan shows.timelines.items before.player came_to)))
      → OnErr result (CutsAction shows came_to before after)
  cut_each (Ok x) shows came_to before after each = tt
  cut_each (Err fault) shows came_to before after each = each

  -- what there is to show after a vsync, for the handler as the player tells it
  pub stage_told : (scene : SceneValue) (plan : Plan) (player : PlayerOf B) (handler : HandlerOf ReadLeaseOf) → (plan ≡ plan_of scene) × TellsStage scene player.play → handler ≡ player.play.handler
      → IsStage expected_by plan handler
  stage_told scene plan player handler (planned, tells) same =
      subst (λ (p : Plan). IsStage expected_by p handler) (sym planned)
      (subst (λ (h : HandlerOf ReadLeaseOf). IsStage expected_by (plan_of scene) h) (sym same) tells.stage)

  pub expected_told : (scene : SceneValue) (plan : Plan) (player : PlayerOf B) (handler : HandlerOf ReadLeaseOf) → (plan ≡ plan_of scene) × TellsStage scene player.play → handler ≡ player.play.handler
      → AreExpected expected_by (picture_at scene.pictures) handler
  expected_told scene plan player handler tells same = subst (AreExpected expected_by (picture_at scene.pictures)) (sym same) tells.1.expected

  -- an action was written behind what was written before
  goes_on : (table : TableId) (scene : SceneValue) (plan : Plan) (timelines : List ℕ) (start a b : Option (List ℕ)) (before screens : List OutputScreen) (old player : PlayerOf B) (came_to : Action)
      (has : HasShown table scene plan timelines start a before old) (goes : GoesOn table scene has.so came_to player) → IsInOrder (home_in player.play).tells scene goes.later player.play
      → Writes a b (action_written (picture_at scene.pictures) plan timelines player came_to) → AreShown (picture_at scene.pictures) screens
      → HasShown table scene plan timelines start b screens player
  goes_on table scene plan timelines start a b before screens old player came_to has goes in_order now shown = record {
    so = goes.later;
    stands = goes.stands;
    planned = has.planned;
    rising = has.rising;
    written = subst (Writes start b) (ap (λ (rs : List Record). opening scene ∷ rs) (action_records table scene plan timelines has.so came_to player has.planned has.rising goes))
        (writes_more start a b (opening scene ∷ events_records (vsyncs_alone has.so.events)) (action_written (picture_at scene.pictures) plan timelines player came_to) has.written now);
    shown = shown;
    in_order = in_order;
  }

  pub shows_on : (table : TableId) (scene : SceneValue) (plan : Plan) (timelines : List ℕ) (start a b : Option (List ℕ)) (before screens : List OutputScreen) (old player : PlayerOf B) (came_to : Action)
      (has : HasShown table scene plan timelines start a before old) (goes : GoesOn table scene has.so came_to player) → IsInOrder (home_in player.play).tells scene goes.later player.play
      → Writes a b (action_written (picture_at scene.pictures) plan timelines player came_to) → AreShown (picture_at scene.pictures) screens
      → ShowsOn (not (is_end came_to)) table scene plan timelines start b screens player
  unfolding goes_on
  shows_on table scene plan timelines start a b before screens old player action.End has goes in_order now shown =
      let on = goes_on table scene plan timelines start a b before screens old player action.End has goes in_order now shown in
      record { so = goes.later; stands = goes.stands; written = on.written; ends = goes.tells; in_order = in_order }
  shows_on table scene plan timelines start a b before screens old player (action.Step place) has goes in_order now shown =
      goes_on table scene plan timelines start a b before screens old player (action.Step place) has goes in_order now shown
  shows_on table scene plan timelines start a b before screens old player action.Idle has goes in_order now shown =
      goes_on table scene plan timelines start a b before screens old player action.Idle has goes in_order now shown
  shows_on table scene plan timelines start a b before screens old player (action.Vsync report) has goes in_order now shown =
      goes_on table scene plan timelines start a b before screens old player (action.Vsync report) has goes in_order now shown

  -- what was written so far is how a live run begins
  stands_begun : (table : TableId) (scene : SceneValue) (so : SoFar B) (player : PlayerOf B) → StandsInRun table scene so player → BeginsLive scene (vsyncs_in so.events)
  stands_begun table scene so player stands =
      let made = stands.stands.stands.vsyncs in
      record {
        signals = signals_so scene so player.play;
        are = made.vsyncs;
        arrivals = taken_at player.play;
        last = player.play.handler.last;
        order = made.played.order;
        results = made.played.results;
        outputs = All-weaker (ShowsImage scene) (ShowsOutputs scene) (λ told shows. sym (ap (map without_image) shows)) (told_at scene so player.play) made.frames;
      }

  -- nothing more was written, or a part of an action
  pub cut_before : (tells : Bool) (table : TableId) (scene : SceneValue) (plan : Plan) (timelines : List ℕ) (start a : Option (List ℕ)) (before : List OutputScreen) (old : PlayerOf B)
      → HasShown table scene plan timelines start a before old → CutLive tells scene start a
  cut_before tells table scene plan timelines start a before old has =
      in_vsyncs (vsyncs_in has.so.events) (stands_begun table scene has.so old has.stands) (part_whole start a (opening scene ∷ events_records (vsyncs_alone has.so.events)) has.written)

  pub action_cut : (tells : Bool) (table : TableId) (scene : SceneValue) (plan : Plan) (timelines : List ℕ) (start a b : Option (List ℕ)) (before : List OutputScreen) (old player : PlayerOf B) (came_to : Action)
      (has : HasShown table scene plan timelines start a before old) (goes : GoesOn table scene has.so came_to player) → WritesPart a b (action_written (picture_at scene.pictures) plan timelines player came_to)
      → CutLive tells scene start b
  action_cut tells table scene plan timelines start a b before old player came_to has goes part =
      in_vsyncs (vsyncs_in goes.later.events) (stands_begun table scene goes.later player goes.stands)
      (subst (WritesPart start b) (ap (λ (rs : List Record). opening scene ∷ rs) (action_records table scene plan timelines has.so came_to player has.planned has.rising goes))
      (part_more start a b (opening scene ∷ events_records (vsyncs_alone has.so.events)) (action_written (picture_at scene.pictures) plan timelines player came_to) has.written part))
