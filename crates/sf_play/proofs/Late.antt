-- What was shown fits the same run where the replies stand behind the last vsync, by actor and step.
use Rattle.std.proofs.Common.{◌≡◌, ◌≢◌, ℕ, ◌==◌, Bool, true, List, [], ◌∷◌, ◌++◌, filter, map, refl, sym, ap, ◌∙◌, subst, inl, inr, arith}
use Rattle.std.specs.Prelude.{All, Contains}
use Rattle.std.specs.List.{flat_map}
use Rattle.std.specs.List.Sorted.{IsStrictlyIncreasing}
use Rattle.std.proofs.lemmas.Bool.{eq-eqb, ne_eqb}
use Rattle.std.proofs.lemmas.List.{append-nil}
use Rattle.std.proofs.lemmas.List.Concat.{flat_map-append}
use Rattle.std.proofs.lemmas.List.Elements.{All-append, All-map, All-nil, filter-append}
use Rattle.std.proofs.lemmas.List.Sorted.{Contains-permutation}
use Rattle.atomic_table.specs.Seated.{TableId}
use Rattle.sf_play_report.specs.sf_token.Pending.{Arrival}
use Rattle.sf_script_scene.specs.Scene.{SceneValue, has_actor}
use Rattle.sf_script_scene.specs.declared.step.ActorScript.{ActorScript}
use Rattle.sf_play_report.specs.sf_actor.Makers.{Run}
use Rattle.sf_play_report.specs.sf_actor.Names.{FrameOf}
use Rattle.sf_play_report.specs.sf_actor.Traces.{DoneAt, places_of}
use Rattle.sf_play_report.specs.sf_actor.Values.{reply_at, replies_of}
use Rattle.sf_play_report.specs.sf_record.Fitting.{RecordFits}
use Rattle.sf_play_report.specs.sf_record.declared.event.Event.{Event}
use Rattle.sf_play_report.specs.sf_record.declared.event.Event.TheVariants as event
use Rattle.sf_play_report.specs.sf_record.declared.event.VsyncRecords.{VsyncRecords}
use Rattle.sf_play_report.specs.sf_record.declared.record.ReplyRecord.{ReplyRecord}
use Rattle.sf_play_report.proofs.law_played_lemmas.ArrivedFrames.{is_actor}
use Rattle.sf_play_report.proofs.law_played_lemmas.StepKeepsTold.{of_all}
use Rattle.sf_play_report.proofs.law_played_lemmas.Members.{has_cases, has_here, has_later, has_map, has_none, map_has}
use Rattle.sf_play_report.proofs.law_played_lemmas.Parts.{map_twice}
use Rattle.sf_play_report.proofs.law_played_lemmas.RisingNumbers.{above, later_rises, rising_actors_are}
use Rattle.sf_play_report.specs.law_played.Actors.{number_of, script_of}
use Rattle.sf_play_report.specs.law_played.Buffers.{ShowAsQueued}
use Rattle.sf_play_report.specs.law_played.Commits.{CommitInOrder}
use Rattle.sf_play_report.specs.law_played.Frames.{ShowImages}
use Rattle.sf_play_report.specs.law_played.Histories.{AreHistories, released_in}
use Rattle.sf_play_report.specs.law_played.Holds.{AreHeld, uncommitted}
use Rattle.sf_play_report.specs.law_played.Played.{FitsWhere, PlayedLiveWhere, Shows, end_of, records_of, reply_events}
use Rattle.sf_play_report.specs.law_played.Replies.{AnswerSteps, replies_due, replies_in, reply_in, reply_shown}
use Rattle.sf_play_report.specs.law_played.Runs.{actor_number, rising_actors, signals_in, written_in}
use Rattle.sf_play_report.specs.law_played.Stages.{told_of}
use Rattle.sf_play_report.specs.law_played.Vsyncs.{AreVsyncs, commits_in, vsync_in, vsyncs_in}
use Rattle.sf_play.specs.Ending.{late_events, shows_at_end, shows_late}
use Rattle.sf_play.specs.Going.{EndsRun}
use Rattle.sf_play.specs.Players.{PlayerOf, SoFar, Stands, arrived_at, home_in, run_so, view_in}
use Rattle.sf_play.specs.Standing.{StandsInRun}

abbrev is_to : ℕ → ReplyRecord → Bool
is_to actor reply = reply.actor == actor

-- vsyncs and replies among events of one kind
vsyncs_alone : (reports : List VsyncRecords) → flat_map vsync_in (map event.Vsync reports) ≡ reports
vsyncs_alone [] = refl
vsyncs_alone (report ∷ reports) = ap (λ (rs : List VsyncRecords). report ∷ rs) (vsyncs_alone reports)

no_replies : (reports : List VsyncRecords) → flat_map reply_in (map event.Vsync reports) ≡ []
no_replies [] = refl
no_replies (report ∷ reports) = no_replies reports

no_vsyncs : (replies : List ReplyRecord) → flat_map vsync_in (map event.Reply replies) ≡ []
no_vsyncs [] = refl
no_vsyncs (reply ∷ replies) = no_vsyncs replies

replies_alone : (replies : List ReplyRecord) → flat_map reply_in (map event.Reply replies) ≡ replies
replies_alone [] = refl
replies_alone (reply ∷ replies) = ap (λ (rs : List ReplyRecord). reply ∷ rs) (replies_alone replies)

-- the replies to the steps of an actor are its own
own_replies : (n : ℕ) (ats : List DoneAt) → filter (is_to n) (map reply_shown (map (reply_at n) ats)) ≡ map reply_shown (map (reply_at n) ats)
own_replies n [] = refl
own_replies n (at ∷ ats) = rw (eq-eqb n n refl) (ap (λ (rs : List ReplyRecord). reply_shown (reply_at n at) ∷ rs) (own_replies n ats))

others_replies : (n m : ℕ) (ats : List DoneAt) → n ≢ m → filter (is_to m) (map reply_shown (map (reply_at n) ats)) ≡ []
others_replies n m [] apart = refl
others_replies n m (at ∷ ats) apart = rw (ne_eqb n m apart) (others_replies n m ats apart)

module _ (run : Run) where
  abbrev due : ActorScript → List ReplyRecord
  due script = replies_due run script.number

  late_vsyncs : (scripts : List ActorScript) → flat_map vsync_in (flat_map (reply_events run) scripts) ≡ []
  late_vsyncs [] = refl
  late_vsyncs (script ∷ scripts) =
      flat_map-append vsync_in (reply_events run script) (flat_map (reply_events run) scripts)
      ∙ (λ i. no_vsyncs (due script) i ++ late_vsyncs scripts i)

  late_replies : (scripts : List ActorScript) → flat_map reply_in (flat_map (reply_events run) scripts) ≡ flat_map due scripts
  late_replies [] = refl
  late_replies (script ∷ scripts) =
      flat_map-append reply_in (reply_events run script) (flat_map (reply_events run) scripts)
      ∙ (λ i. replies_alone (due script) i ++ late_replies scripts i)

  pub same_vsyncs : (scene : SceneValue) (events : List Event) → vsyncs_in (late_events scene run events) ≡ vsyncs_in events
  unfolding vsyncs_in
  same_vsyncs scene events =
      flat_map-append vsync_in (map event.Vsync (flat_map vsync_in events)) (flat_map (reply_events run) (rising_actors scene))
      ∙ (λ i. vsyncs_alone (flat_map vsync_in events) i ++ late_vsyncs (rising_actors scene) i)
      ∙ append-nil (flat_map vsync_in events)

  replies_now : (scene : SceneValue) (events : List Event) → replies_in (late_events scene run events) ≡ flat_map due (rising_actors scene)
  unfolding replies_in
  replies_now scene events =
      flat_map-append reply_in (map event.Vsync (vsyncs_in events)) (flat_map (reply_events run) (rising_actors scene))
      ∙ (λ i. no_replies (vsyncs_in events) i ++ late_replies (rising_actors scene) i)

  none_due : (n : ℕ) (scripts : List ActorScript) → ((script : ActorScript) → Contains scripts script → script.number ≢ n) → filter (is_to n) (flat_map due scripts) ≡ []
  none_due n [] apart = refl
  none_due n (script ∷ scripts) apart =
      filter-append (is_to n) (due script) (flat_map due scripts)
      ∙ (λ i. others_replies script.number n (places_of (run.trace script.number)) (apart script (has_here script scripts)) i
      ++ none_due n scripts (λ other there. apart other (has_later script other scripts there)) i)

  -- of scripts by rising number each has its own replies
  each_due : (scripts : List ActorScript) → IsStrictlyIncreasing (map actor_number scripts) → (script : ActorScript) → Contains scripts script
      → filter (is_to script.number) (flat_map due scripts) ≡ due script
  each_due [] up script there = has_none script there
  each_due (first ∷ scripts) up script there = filter-append (is_to script.number) (due first) (flat_map due scripts) ∙ elim (has_cases first script scripts there) [
    | inl same ↦ subst (λ (s : ActorScript). filter (is_to s.number) (due first) ++ filter (is_to s.number) (flat_map due scripts) ≡ due s) same
        ((λ i. own_replies first.number (places_of (run.trace first.number)) i
        ++ none_due first.number scripts (λ other c e. let more = above actor_number first other scripts up c in omega (arith, more, e)) i)
        ∙ append-nil (due first))
    | inr c ↦ let more = above actor_number first script scripts up c in (λ i.
        others_replies first.number script.number (places_of (run.trace first.number)) (λ e. omega (arith, more, e)) i
        ++ each_due scripts (later_rises actor_number first scripts up) script c i)
  ]

  all_due : (P : ReplyRecord → Type 0) (scripts : List ActorScript) → ((script : ActorScript) → Contains scripts script → (at : DoneAt) → P (reply_shown (reply_at script.number at)))
      → All P (flat_map due scripts)
  all_due P [] each = All-nil P
  all_due P (script ∷ scripts) each =
      All-append P (due script) (flat_map due scripts)
      (All-map P reply_shown (replies_of script.number (run.trace script.number))
      (All-map (λ reply. P (reply_shown reply)) (reply_at script.number) (places_of (run.trace script.number))
      (of_all (λ (at : DoneAt). P (reply_shown (reply_at script.number at))) (places_of (run.trace script.number)) (λ at there. each script (has_here script scripts) at))))
      (all_due P scripts (λ other there. each other (has_later script other scripts there)))

  -- what fits a run reads the vsyncs and each actor's replies alone
  pub fits_with : (tells : Bool) (scene : SceneValue) (shows : Shows) (arrivals : List (Arrival FrameOf)) (events : List Event) → FitsWhere tells scene shows run arrivals → AnswerSteps scene run events
      → vsyncs_in events ≡ vsyncs_in shows.events → FitsWhere tells scene (record shows { events = events }) run arrivals
  fits_with tells scene shows arrivals events fits answers vsyncs = record {
    traces = fits.traces;
    turns = fits.turns;
    replies = answers;
    arrive = fits.arrive;
    vsyncs = subst (AreVsyncs scene (signals_in scene run)) (sym vsyncs) fits.vsyncs;
    commits = subst (λ (vs : List VsyncRecords). CommitInOrder arrivals (written_in scene run) (commits_in vs) (told_of scene arrivals vs)) (sym vsyncs) fits.commits;
    calls = subst (λ (vs : List VsyncRecords). AreHistories scene run (released_in (told_of scene arrivals vs)) shows.histories) (sym vsyncs) fits.calls;
    frames = subst (λ (vs : List VsyncRecords). ShowImages scene (told_of scene arrivals vs)) (sym vsyncs) fits.frames;
    buffers = subst (λ (vs : List VsyncRecords). ShowAsQueued scene shows.histories (commits_in vs)) (sym vsyncs) fits.buffers;
    holds = subst (λ (vs : List VsyncRecords). AreHeld (end_of scene run (told_of scene arrivals vs)) (uncommitted arrivals (commits_in vs)) shows.held) (sym vsyncs) fits.holds;
    ends = fits.ends;
  }

module _ {B : Type 0} (table : TableId) (scene : SceneValue) (so : SoFar B) (player : PlayerOf B) (is : StandsInRun table scene so player) where
  stands : Stands table scene so player.play
  stands = is.stands.stands

  abbrev run : Run
  run = run_so so player.play

  are : rising_actors scene ≡ map script_of so.actors
  are = rising_actors_are scene so.actors (home_in player.play) (view_in player.play) stands.of_scene.limits stands.tell.actors

  up : IsStrictlyIncreasing (map actor_number (rising_actors scene))
  up = subst (λ (ss : List ActorScript). IsStrictlyIncreasing (map actor_number ss)) (sym are) (subst IsStrictlyIncreasing (sym (map_twice script_of actor_number so.actors)) stands.tell.actors.apart)

  among : (script : ActorScript) → Contains (rising_actors scene) script → has_actor scene.actors script.number ≡ true
  among script there =
      let of = map_has script_of so.actors script (subst (λ (ss : List ActorScript). Contains ss script) are there) in
      is_actor scene so.actors (home_in player.play) (view_in player.play) script.number stands.tell.actors
      (subst (λ (s : ActorScript). Contains (map number_of so.actors) s.number) of.2 (has_map number_of so.actors of.0 of.1))

  answers : AnswerSteps scene run (late_events scene run so.events)
  answers =
      let replies = replies_now run scene so.events in
      record {
        of_each = of_all (λ (script : ActorScript). filter (is_to script.number) (replies_in (late_events scene run so.events)) ≡ replies_due run script.number) scene.actors (λ script there.
            ap (filter (is_to script.number)) replies
            ∙ each_due run (rising_actors scene) up script
            (subst (λ (ss : List ActorScript). Contains ss script) (sym are) (Contains-permutation scene.actors (map script_of so.actors) script stands.tell.actors.scripts there)));
        of_none_else = subst (All (λ (reply : ReplyRecord). has_actor scene.actors reply.actor ≡ true)) (sym replies)
            (all_due run (λ (reply : ReplyRecord). has_actor scene.actors reply.actor ≡ true) (rising_actors scene) (λ script there at. among script there));
      }

  pub fits_late : EndsRun scene so player → FitsWhere (home_in player.play).tells scene (shows_late scene so player) run (arrived_at player.play)
  fits_late fits = fits_with run (home_in player.play).tells scene (shows_at_end scene so player) (arrived_at player.play) (late_events scene run so.events) fits answers (same_vsyncs run scene so.events)

  pub played_live : EndsRun scene so player → All RecordFits (records_of scene (shows_late scene so player)) → PlayedLiveWhere (home_in player.play).tells scene (records_of scene (shows_late scene so player))
  played_live fits fit = record {
    played = record { shows = shows_late scene so player; order = refl; fit = fit; run = run; arrivals = arrived_at player.play; fits = fits_late fits };
    late = ap (λ (vs : List VsyncRecords). map event.Vsync vs ++ flat_map (reply_events run) (rising_actors scene)) (sym (same_vsyncs run scene so.events));
  }
