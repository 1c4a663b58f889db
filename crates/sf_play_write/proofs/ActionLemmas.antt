-- The records of actions, and how far a play has been written.
use Rattle.std.proofs.Common.{◌≡◌, ℕ, suc, ◌-◌, ◌<◌, ◌≤◌, Bool, true, false, ◌||◌, if◌then◌else◌, List, [], ◌∷◌, ◌++◌, length, get_or, map, filter, Option, Some, Result, Ok, Err, refl, ap, ◌∙◌, sym, subst, arith, OnErr, OnOk}
use Rattle.std.specs.Prelude.{All, Contains, ◌==◌, slice_get}
use Rattle.std.specs.List.{flat_map, list_any, range_with_len}
use Rattle.std.proofs.lemmas.Bool.{false≢true}
use Rattle.std.proofs.lemmas.List.{append-nil}
use Rattle.std.proofs.lemmas.List.Concat.{flat_map-append}
use Rattle.std.proofs.lemmas.List.Elements.{All-contains, All-weaker}
use Rattle.std.proofs.lemmas.Option.{slice_get_read, slice_get_within}
use Rattle.atomic_table.specs.Seated.{TableId}
use Rattle.sf_play.specs.sf_commit.declared.vsync.Commit.{Commit}
use Rattle.sf_play.specs.sf_script_scene.Limits.{IsWithinLimits}
use Rattle.sf_play.specs.sf_script_scene.Ranges.{IsTimeline}
use Rattle.sf_play.specs.sf_script_scene.Scene.{SceneValue}
use Rattle.sf_play.specs.sf_actor.Scripts.{picture_at}
use Rattle.sf_play.specs.sf_actor.declared.tried.Reply.{Reply}
use Rattle.sf_play.specs.sf_actor_steps.declared.actor.Actor.{Actor}
use Rattle.sf_play.specs.sf_actor_set.Opening.{IsSortedFrom}
use Rattle.sf_play.proofs.sf_actor_set_lemmas.RisingLemmas.{sorted_rises}
use Rattle.sf_play.specs.sf_record.Events.{event_records, events_records, vsync_records}
use Rattle.sf_play.specs.sf_record.declared.event.Event.{Event}
use Rattle.sf_play.specs.sf_record.declared.event.Event.TheVariants as event
use Rattle.sf_play.specs.sf_record.declared.event.VsyncRecords.{VsyncRecords}
use Rattle.sf_play.specs.sf_record.declared.encode.RunFault.{RunFault}
use Rattle.sf_play.specs.sf_record.declared.record.Record.{Record}
use Rattle.sf_play.specs.sf_record.declared.record.Record.TheVariants as rec
use Rattle.sf_play.specs.sf_output_plan.declared.plan.Plan.{Plan}
use Rattle.sf_play.specs.sf_play_report.Reports.{has_commits}
use Rattle.sf_play.specs.sf_play_report.Stages.{is_accepted}
use Rattle.sf_play.specs.sf_play_report.declared.report.VsyncReport.{VsyncReport}
use Rattle.sf_play.proofs.law_played_lemmas.PlayEnds.{has_records}
use Rattle.sf_play.proofs.law_played_lemmas.StepKeepsTold.{of_all}
use Rattle.sf_play.proofs.law_played_lemmas.Members.{filter_has, joined_has}
use Rattle.sf_play.proofs.law_played_lemmas.RisingNumbers.{rising_is}
use Rattle.sf_play.specs.law_played.Commits.{commit_shown}
use Rattle.sf_play.specs.law_played.Frames.{is_done, plan_of, shown_due}
use Rattle.sf_play.specs.law_played.Played.{opening}
use Rattle.sf_play.specs.law_played.Replies.{reply_shown}
use Rattle.sf_play.specs.law_played.Seeing.{value_shown}
use Rattle.sf_play.specs.law_played.Vsyncs.{rising_timelines}
use Rattle.sf_output_screen.specs.ScreenLists.{AreShown}
use Rattle.sf_output_screen.specs.declared.screens.OutputScreen.{OutputScreen}
use Rattle.sf_play.specs.Going.{GoesAlong, LeavesLess, fuel_of}
use Rattle.sf_play.specs.Happening.{VsyncHappens}
use Rattle.sf_play.specs.Players.{PlayOf, PlayerOf, SoFar}
use Rattle.sf_play.specs.Showing.{vsync_shown as play_shown}
use Rattle.sf_play.specs.Standing.{StandsAlong}
use Rattle.sf_play.specs.declared.action.Action.{Action}
use Rattle.sf_play.specs.declared.action.Action.TheVariants as action
use Rattle.sf_play_write.specs.declared.shows.Shows.{Shows}
use Rattle.sf_play_write.specs.Runs.{CutRun}
use Rattle.sf_play_write.specs.Showing.{IsOfScene, Written}
use Rattle.sf_play.specs.Actions.{is_end}
use Rattle.sf_play_write.specs.inner.Rows.{CutsAction, HasWritten, IsWriting, MayShowAction, WritesAction, newest_of, newest_shown, action_shown}
use Rattle.sf_play_write.specs.Vsyncs.{records_if, told_with}
use Rattle.sf_play_write.specs.Writing.{Writes, WritesPart}
use Rattle.sf_play_write.proofs.WritingLemmas.{part_front, part_more, writes_more}

-- timelines by rising number are those of the scene
pub timelines_are : (scene : SceneValue) (sorted : List ℕ) → IsWithinLimits scene → IsSortedFrom (λ timeline. timeline) scene.timelines sorted → sorted ≡ rising_timelines scene
unfolding rising_timelines
timelines_are scene sorted limits is =
    sym (rising_is (λ (timeline : ℕ). timeline) 64 scene.timelines sorted limits.timelines.differ is.permutation
    (sorted_rises (λ (timeline : ℕ). timeline) scene.timelines sorted limits.timelines.differ is)
    (All-weaker IsTimeline (λ (timeline : ℕ). (1 ≤ timeline) × (timeline ≤ 64)) (λ timeline is. (is.low, is.high)) scene.timelines limits.timelines.each))

pub timelines_within : (scene : SceneValue) (timelines : List ℕ) → IsWithinLimits scene → timelines ≡ rising_timelines scene → All (λ timeline. (1 ≤ timeline) × (timeline ≤ 64)) timelines
unfolding rising_timelines
timelines_within scene timelines limits are =
    of_all (λ (timeline : ℕ). (1 ≤ timeline) × (timeline ≤ 64)) timelines (λ timeline there.
    let at = joined_has (λ n. filter (λ item. item == n) scene.timelines) (range_with_len 1 64) timeline (subst (λ (ts : List ℕ). Contains ts timeline) are there) in
    let is = All-contains IsTimeline scene.timelines timeline limits.timelines.each (filter_has (λ item. item == at.0) scene.timelines timeline at.2).0 in
    (is.low, is.high))

-- the newest reply is the last one
pub newest_is : (earlier : List Reply) (reply : Reply) → newest_shown (earlier ++ reply ∷ []) ≡ rec.Repl (reply_shown reply) ∷ []
newest_is [] reply = refl
newest_is (first ∷ []) reply = refl
newest_is (first ∷ second ∷ earlier) reply = newest_is (second ∷ earlier) reply

pub newest_at : (replies : List Reply) (reply : Reply) → 1 ≤ length replies → reply ≡ get_or replies (length replies - 1) reply → rec.Repl (reply_shown reply) ∷ [] ≡ newest_shown replies
newest_at [] reply some is = absurd (omega (arith, some))
newest_at (first ∷ []) reply some is = ap (λ (r : Reply). rec.Repl (reply_shown r) ∷ []) is
newest_at (first ∷ second ∷ later) reply some is =
    let place : length (first ∷ second ∷ later) - 1 ≡ suc (length (second ∷ later) - 1) = omega arith in
    newest_at (second ∷ later) reply (omega arith) (is ∙ ap (λ (n : ℕ). get_or (first ∷ second ∷ later) n reply) place)

pub none_newest : (replies : List Reply) → length replies < 1 → [] ≡ newest_shown replies
none_newest [] none = refl
none_newest (first ∷ later) none = absurd (omega (arith, none))

-- a frame is due where a commit was accepted
shown_done : (commits : List Commit) → list_any is_done (map commit_shown commits) ≡ list_any is_accepted commits
shown_done [] = refl
shown_done (commit ∷ commits) = ap (λ (b : Bool). (commit.cause == 0) || b) (shown_done commits)

more_records : (events : List Event) (one : Event) → events_records (events ++ one ∷ []) ≡ events_records events ++ event_records one
unfolding events_records
more_records events one = flat_map-append event_records events (one ∷ []) ∙ ap (λ (rs : List Record). flat_map event_records events ++ rs) (append-nil (event_records one))

module _ {B : Type 0} where
  step_shown : (place : ℕ) (actors : List (Actor B)) (actor : Actor B) (earlier : List Reply) (reply : Reply) → slice_get actors place ≡ Some actor
      → actor.replies.items ≡ earlier ++ reply ∷ [] → newest_of (slice_get actors place) ≡ rec.Repl (reply_shown reply) ∷ []
  step_shown place actors actor earlier reply there replies = ap newest_of there ∙ ap newest_shown replies ∙ newest_is earlier reply

  -- the actor at a place
  pub actor_at : (actors : List (Actor B)) (place : ℕ) (actor : Actor B) → place < length actors → actor ≡ get_or actors place actor → newest_shown actor.replies.items ≡ newest_of (slice_get actors place)
  actor_at actors place actor below is = sym (ap newest_of (slice_get_read actors (length actors) place actor refl below is))

  -- what is shown of a vsync that commits something
  told_is : (scene : SceneValue) (report : VsyncReport) (play : PlayOf B)
      → play_shown scene report.number report.expected report.seen report.commits play.handler.tree ≡ told_with (picture_at scene.pictures) (plan_of scene) (rising_timelines scene) report play.handler.tree.layers
  told_is scene report play = (λ i. record {
    number = report.number;
    expected = report.expected;
    timelines = map (value_shown report.seen) (rising_timelines scene);
    commits = map commit_shown report.commits;
    shown = if shown_done report.commits i then shown_due (picture_at scene.pictures) (plan_of scene) play.handler.tree.layers else [];
  })

  vsync_is : (scene : SceneValue) (plan : Plan) (timelines : List ℕ) (report : VsyncReport) (play : PlayOf B) (so later : SoFar B) → plan ≡ plan_of scene → timelines ≡ rising_timelines scene
      → (commits : List Commit) → report.commits ≡ commits → VsyncHappens scene (has_commits commits) report play so later
      → events_records so.events ++ records_if commits (told_with (picture_at scene.pictures) plan timelines report play.handler.tree.layers) ≡ events_records later.events
  vsync_is scene plan timelines report play so later planned rising [] is happens = append-nil (events_records so.events) ∙ sym (ap (λ (s : SoFar B). events_records s.events) happens)
  vsync_is scene plan timelines report play so later planned rising (commit ∷ commits) is happens =
      (λ i. events_records so.events ++ vsync_records (told_with (picture_at scene.pictures) (planned i) (rising i) report play.handler.tree.layers))
      ∙ ap (λ (v : VsyncRecords). events_records so.events ++ vsync_records v) (sym (told_is scene report play))
      ∙ sym (more_records so.events (event.Vsync (play_shown scene report.number report.expected report.seen report.commits play.handler.tree)))
      ∙ sym (ap (λ (s : SoFar B). events_records s.events) happens)

  -- the records of an action follow those of what was shown before
  pub action_records : (table : TableId) (scene : SceneValue) (shows : Shows) (so : SoFar B) (came_to : Action) (player : PlayerOf B) → IsOfScene scene shows → (goes : GoesAlong table scene so came_to player)
      → events_records so.events ++ action_shown (picture_at scene.pictures) shows player.play came_to ≡ events_records goes.later.events
  action_records table scene shows so (action.Step place) player asked goes =
      let did = goes.happens in
      ap (λ (rs : List Record). events_records so.events ++ rs) (step_shown place player.play.actor_set.actors did.actor did.earlier did.reply did.there did.replies)
      ∙ sym (more_records so.events (event.Reply (reply_shown did.reply)))
      ∙ sym (ap (λ (s : SoFar B). events_records s.events) did.is)
  action_records table scene shows so (action.Vsync report) player asked goes =
      vsync_is scene shows.plan shows.timelines.items report player.play so goes.later asked.planned asked.rising report.commits refl goes.happens
  action_records table scene shows so action.Idle player asked goes = append-nil (events_records so.events) ∙ sym (ap (λ (s : SoFar B). events_records s.events) goes.happens)
  action_records table scene shows so action.End player asked goes = append-nil (events_records so.events) ∙ sym (ap (λ (s : SoFar B). events_records s.events) goes.happens)

  pub may_show : (table : TableId) (scene : SceneValue) (so : SoFar B) (came_to : Action) (player : PlayerOf B) → GoesAlong table scene so came_to player → MayShowAction scene came_to player
  may_show table scene so (action.Step place) player goes = slice_get_within player.play.actor_set.actors place goes.happens.actor goes.happens.there
  may_show table scene so (action.Vsync report) player goes = goes.tells
  may_show table scene so action.Idle player goes = tt
  may_show table scene so action.End player goes = tt

  -- an action was written behind what was written before
  pub goes_on : (table : TableId) (scene : SceneValue) (shows : Shows) (start : Option (List ℕ)) (before after : Written B) (came_to : Action) (w : IsWriting table scene shows start before)
      → GoesAlong table scene w.so came_to after.player → Writes before.taken after.taken (action_shown (picture_at scene.pictures) shows after.player.play came_to) → AreShown (picture_at scene.pictures) after.screens
      → IsWriting table scene shows start after
  goes_on table scene shows start before after came_to w goes now shown =
      let records = action_shown (picture_at scene.pictures) shows after.player.play came_to in
      record {
        so = goes.later;
        stands = goes.stands;
        asked = w.asked;
        written = subst (Writes start after.taken) (ap (λ (rs : List Record). opening scene ∷ rs) (action_records table scene shows w.so came_to after.player w.asked goes))
            (writes_more start before.taken after.taken (opening scene ∷ events_records w.so.events) records w.written now);
        shown = shown;
      }

  -- the last one was, with which the play is at its end
  pub action_ends : (table : TableId) (scene : SceneValue) (shows : Shows) (start : Option (List ℕ)) (before after : Written B) (came_to : Action) (w : IsWriting table scene shows start before)
      → GoesAlong table scene w.so came_to after.player → Writes before.taken after.taken (action_shown (picture_at scene.pictures) shows after.player.play came_to) → AreShown (picture_at scene.pictures) after.screens
      → is_end came_to ≡ true → HasWritten table scene start after.taken after.player
  unfolding goes_on
  action_ends table scene shows start before after action.End w goes now shown ends =
      let on = goes_on table scene shows start before after action.End w goes now shown in
      record { so = goes.later; stands = goes.stands; written = on.written; ends = goes.tells }
  action_ends table scene shows start before after (action.Step place) w goes now shown ends = absurd (false≢true ends)
  action_ends table scene shows start before after action.Idle w goes now shown ends = absurd (false≢true ends)
  action_ends table scene shows start before after (action.Vsync report) w goes now shown ends = absurd (false≢true ends)

  -- any other one leaves less to do
  pub leaves_less : (came_to : Action) (old new : PlayerOf B) → LeavesLess came_to old new → is_end came_to ≡ false → fuel_of new < fuel_of old
  leaves_less action.End old new less goes = absurd (false≢true (sym goes))
  leaves_less (action.Step place) old new less goes = less
  leaves_less action.Idle old new less goes = less
  leaves_less (action.Vsync report) old new less goes = less

  -- what was written of an action begins the records of the play
  pub cut_so_far : (table : TableId) (scene : SceneValue) (start now : Option (List ℕ)) (so : SoFar B) (player : PlayerOf B) → StandsAlong table scene so player
      → WritesPart start now (opening scene ∷ events_records so.events) → CutRun scene start now
  cut_so_far table scene start now so player stands part =
      let along = stands.along in
      let begins = has_records scene along.playing stands.in_run.stands.stands.of_scene.limits along.begun in
      record {
        records = begins.0;
        is_play = begins.1;
        written = subst (WritesPart start now) begins.2.joined
            (part_front start now (opening scene ∷ events_records along.playing.events) begins.2.rest (subst (λ (es : List Event). WritesPart start now (opening scene ∷ events_records es)) (sym along.shows) part));
      }

  pub action_cut : (table : TableId) (scene : SceneValue) (shows : Shows) (start now : Option (List ℕ)) (before : Written B) (player : PlayerOf B) (came_to : Action) (w : IsWriting table scene shows start before)
      → GoesAlong table scene w.so came_to player → WritesPart before.taken now (action_shown (picture_at scene.pictures) shows player.play came_to) → CutRun scene start now
  action_cut table scene shows start now before player came_to w goes part =
      let records = action_shown (picture_at scene.pictures) shows player.play came_to in
      cut_so_far table scene start now goes.later player goes.stands
      (subst (WritesPart start now) (ap (λ (rs : List Record). opening scene ∷ rs) (action_records table scene shows w.so came_to player w.asked goes))
      (part_more start before.taken now (opening scene ∷ events_records w.so.events) records w.written part))

  -- where each scene's records of an action were written by a call, or a prefix of them
  pub written_each : (result : Result (Unit {0}) RunFault) (shows : Shows) (player : PlayerOf B) (came_to : Action) (old new : Option (List ℕ)) (screens shown : List OutputScreen)
      → ((scene : SceneValue) → MayShowAction scene came_to player → AreShown (picture_at scene.pictures) screens
      → OnOk result (Writes old new (action_shown (picture_at scene.pictures) shows player.play came_to) × AreShown (picture_at scene.pictures) shown))
      → OnOk result (WritesAction shows player came_to old new screens shown)
  written_each (Ok done) shows player came_to old new screens shown each = each
  written_each (Err fault) shows player came_to old new screens shown each = tt

  pub cut_each : (result : Result (Unit {0}) RunFault) (shows : Shows) (player : PlayerOf B) (came_to : Action) (old new : Option (List ℕ)) (screens : List OutputScreen)
      → ((scene : SceneValue) → MayShowAction scene came_to player → AreShown (picture_at scene.pictures) screens
      → OnErr result (WritesPart old new (action_shown (picture_at scene.pictures) shows player.play came_to)))
      → OnErr result (CutsAction shows player came_to old new screens)
  cut_each (Ok done) shows player came_to old new screens each = tt
  cut_each (Err fault) shows player came_to old new screens each = each
