-- The play of the least scene, computed: its one actor does its four steps by the order, a vsync commits what it sent, and the
-- second round is quiet.
use Rattle.std.proofs.Common.{◌≡◌, ℕ, true, false, List, [], ◌∷◌, ◌++◌, Option, Some, None, refl, ap, sym, arith}
use Rattle.std.specs.Prelude.{◌==◌, if◌then◌else◌}
use Rattle.std.proofs.lemmas.Bool.{ne_eqb}
use Rattle.sf_base.specs.Blend.{blended, product}
use Rattle.sf_base.specs.Fences.{no_points}
use Rattle.sf_base.specs.Paint.{painted}
use Rattle.sf_base.specs.declared.ids.TokenId.{TokenId}
use Rattle.sf_compose.specs.sf_tree.Changes.{created}
use Rattle.sf_compose.specs.sf_tree.DrawOrder.{draw_order}
use Rattle.sf_compose.specs.sf_tree.Showing.{shows}
use Rattle.sf_compose.specs.sf_view.Ancestry.{ancestry}
use Rattle.sf_compose.specs.sf_view.Image.{drawn_in, image_in}
use Rattle.sf_output_plan.specs.sf_output_shown.Copies.{written}
use Rattle.sf_output_plan.specs.sf_output_shown.Displays.{stack_on}
use Rattle.sf_compose.specs.Frames.{frame_bytes, row_bytes}
use Rattle.sf_commit.specs.sf_ready.Holds.{hold_of}
use Rattle.sf_commit.specs.sf_token.Pending.{Arrival}
use Rattle.sf_commit.specs.Rounds.{Round, committed, facts_of}
use Rattle.sf_commit.specs.sf_commit_next.Heads.{ready_if}
use Rattle.sf_script_scene.specs.Scene.{SceneValue}
use Rattle.sf_actor.specs.Names.{FrameOf}
use Rattle.sf_actor.specs.Steps.{holdings_next}
use Rattle.sf_actor.specs.Tests.{refusal_of}
use Rattle.sf_actor.specs.Traces.{past_from, places_from}
use Rattle.sf_record.specs.declared.event.Event.TheVariants as event
use Rattle.law_played.proofs.Least.{arrived}
use Rattle.law_played.specs.Commits.{is_written}
use Rattle.law_played.specs.Frames.{frame_of, plan_of, shown_due}
use Rattle.law_played.specs.Least.{least_events, least_scene, least_vsync}
use Rattle.law_played.specs.Plays.{Comes, IsPlay, Playing, first_playing, goes, is_quiet, stays, with_round}
use Rattle.law_played.specs.Runs.{final_values, written_in}
use Rattle.law_played.specs.Stages.{arrival_at, commits_from, round_after, round_at_end, told_from}
use Rattle.law_played.specs.Vsyncs.{commits_in, rising_timelines}
use Rattle.law_played.specs.RunStates.{DecidesNow, Transition, RunState, actor_transition, after_vsync, done_now, first_state, idle, round_now, waits_now, with_calls}

abbrev pub ordered_scene : SceneValue
ordered_scene = record least_scene { order = record { actor = 1; times = 4 } ∷ [] }

abbrev pub state_1 : RunState
state_1 = (actor_transition ordered_scene 1 first_state).state

abbrev pub state_2 : RunState
state_2 = (actor_transition ordered_scene 1 state_1).state

abbrev pub state_3 : RunState
state_3 = (actor_transition ordered_scene 1 state_2).state

abbrev pub state_4 : RunState
state_4 = (actor_transition ordered_scene 1 state_3).state

-- an actor that has ended does nothing
ended : actor_transition ordered_scene 1 state_4 ≡ idle state_4
unfolding actor_transition done_now waits_now with_calls refusal_of past_from places_from holdings_next
ended = refl

-- the first vsync ends with the red layer
abbrev pub end_1 : Round FrameOf
end_1 = committed (round_now ordered_scene state_4) arrived

vsync_1 : (after_vsync ordered_scene state_4 end_1).events ≡ (event.Vsync least_vsync ∷ [])
unfolding actor_transition done_now waits_now with_calls refusal_of past_from places_from holdings_next round_now told_from round_at_end commits_in
    created shown_due plan_of written frame_of frame_bytes row_bytes image_in drawn_in stack_on ancestry draw_order shows painted blended product no_points rising_timelines
vsync_1 = refl

-- nothing waits on a token below it
abbrev found : TokenId → Option (Arrival FrameOf)
found token = if 1 == token.0 then Some arrived else None

decides_1 : DecidesNow ordered_scene state_4 16666667 end_1
unfolding actor_transition done_now waits_now with_calls refusal_of past_from places_from holdings_next round_now told_from round_at_end commits_in hold_of
decides_1 = record {
  taken = arrived ∷ [];
  leads = (
    (
      refl,
      λ token less. ap (λ o. ready_if (is_written (written_in ordered_scene state_4.run)) (final_values ordered_scene state_4.run) 16666667
          (facts_of (round_now ordered_scene state_4)) o) (ap (λ b. if b then Some arrived else None) (ne_eqb 1 token.0 (λ e. omega (arith, e, less)))),
    ),
    refl,
  );
  rests = λ token. refl;
}

abbrev pub state_5 : RunState
state_5 = (after_vsync ordered_scene state_4 end_1).state

ended_then : actor_transition ordered_scene 1 state_5 ≡ idle state_5
unfolding actor_transition done_now waits_now with_calls refusal_of past_from places_from holdings_next created round_now round_at_end told_from
ended_then = refl

-- the second vsync finds nothing
abbrev pub end_2 : Round FrameOf
end_2 = round_now ordered_scene state_5

decides_2 : DecidesNow ordered_scene state_5 33333334 end_2
unfolding actor_transition done_now waits_now with_calls refusal_of past_from places_from holdings_next round_now told_from commits_from round_after arrival_at created round_at_end commits_in
decides_2 = record { taken = []; leads = refl; rests = λ token. refl }

abbrev pub state_6 : RunState
state_6 = (after_vsync ordered_scene state_5 end_2).state

busy : is_quiet ordered_scene state_4 state_5 ≡ false
unfolding actor_transition done_now waits_now with_calls refusal_of past_from places_from holdings_next created round_now round_at_end told_from
busy = refl

quiet : is_quiet ordered_scene state_5 state_6 ≡ true
unfolding actor_transition done_now waits_now with_calls refusal_of past_from places_from holdings_next round_now told_from commits_from round_after arrival_at created round_at_end commits_in
quiet = refl

-- transition by transition
abbrev on_by : Playing → Transition → List ℕ → Playing
on_by playing transition left = record playing { events = playing.events ++ transition.events; state = transition.state; left = left }

abbrev begun_0 : Playing
begun_0 = first_playing ordered_scene

abbrev begun_1 : Playing
begun_1 = on_by begun_0 (actor_transition ordered_scene 1 first_state) (1 ∷ 1 ∷ 1 ∷ [])

abbrev begun_2 : Playing
begun_2 = on_by begun_1 (actor_transition ordered_scene 1 state_1) (1 ∷ 1 ∷ [])

abbrev begun_3 : Playing
begun_3 = on_by begun_2 (actor_transition ordered_scene 1 state_2) (1 ∷ [])

abbrev begun_4 : Playing
begun_4 = on_by begun_3 (actor_transition ordered_scene 1 state_3) []

abbrev begun_5 : Playing
begun_5 = with_round ordered_scene begun_4

abbrev begun_6 : Playing
begun_6 = on_by begun_5 (idle state_4) (0 ∷ [])

abbrev begun_7 : Playing
begun_7 = on_by begun_6 (after_vsync ordered_scene state_4 end_1) []

abbrev begun_8 : Playing
begun_8 = with_round ordered_scene begun_7

abbrev begun_9 : Playing
begun_9 = on_by begun_8 (idle state_5) (0 ∷ [])

abbrev begun_10 : Playing
begun_10 = on_by begun_9 (after_vsync ordered_scene state_5 end_2) []

comes : Comes ordered_scene begun_0 begun_10
unfolding actor_transition waits_now refusal_of past_from with_calls done_now holdings_next
comes =
    goes {next = begun_1} (record { transition = actor_transition ordered_scene 1 first_state; takes = refl; is = refl })
    (goes {next = begun_2} (record { transition = actor_transition ordered_scene 1 state_1; takes = refl; is = refl })
    (goes {next = begun_3} (record { transition = actor_transition ordered_scene 1 state_2; takes = refl; is = refl })
    (goes {next = begun_4} (record { transition = actor_transition ordered_scene 1 state_3; takes = refl; is = refl })
    (goes {next = begun_5} refl
    (goes {next = begun_6} (record { transition = idle state_4; takes = sym ended; is = refl })
    (goes {next = begun_7} (record { transition = after_vsync ordered_scene state_4 end_1; takes = record { end = end_1; decides = decides_1; is = refl }; is = refl })
    (goes {next = begun_8} (busy, refl)
    (goes {next = begun_9} (record { transition = idle state_5; takes = sym ended_then; is = refl })
    (goes {next = begun_10} (record { transition = after_vsync ordered_scene state_5 end_2; takes = record { end = end_2; decides = decides_2; is = refl }; is = refl })
    stays)))))))))

shown : begun_10.events ≡ least_events
unfolding actor_transition done_now waits_now with_calls refusal_of past_from places_from holdings_next round_now told_from commits_from round_after arrival_at round_at_end commits_in
    created shown_due plan_of written frame_of frame_bytes row_bytes image_in drawn_in stack_on ancestry draw_order shows painted blended product no_points rising_timelines
shown = refl

pub is_play : IsPlay ordered_scene least_events state_6
is_play = record {
  playing = begun_10;
  begun = comes;
  over = record { none_left = refl; before = state_5; round = refl; quiet = quiet };
  shows = shown;
  ends = refl;
}
