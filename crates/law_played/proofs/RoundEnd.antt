-- What a vsync that commits nothing leaves of a state, and when a round is quiet.
use Rattle.std.proofs.Common.{◌≡◌, ℕ, ◌+◌, ◌*◌, Bool, true, false, not, ◌&&◌, List, [], ◌∷◌, ◌++◌, length, map, refl, ap, sym, ◌∙◌, arith}
use Rattle.std.specs.Prelude.{◌==◌}
use Rattle.std.specs.List.{list_all, list_any}
use Rattle.std.proofs.lemmas.Bool.{eq-eqb, ne_eqb}
use Rattle.std.proofs.lemmas.List.{append-nil, length-append}
use Rattle.sf_commit.specs.sf_ready.declared.hold.Hold.{Hold}
use Rattle.sf_commit.specs.sf_token.Pending.{Arrival}
use Rattle.sf_compose.specs.sf_tree.Trees.{TreeOf}
use Rattle.sf_commit.specs.OnLayers.{OnLayer}
use Rattle.sf_commit.specs.Rounds.{Leads, Round, held}
use Rattle.sf_commit.specs.declared.vsync.Commit.{Commit}
use Rattle.sf_script_scene.specs.Scene.{SceneValue}
use Rattle.sf_script_scene.specs.declared.step.ActorScript.{ActorScript}
use Rattle.sf_actor.specs.Names.{FrameOf}
use Rattle.sf_record.specs.declared.event.Event.TheVariants as event
use Rattle.sf_record.specs.declared.event.VsyncRecords.{VsyncRecords}
use Rattle.law_played.proofs.PathLemmas.{commits_along, told_along}
use Rattle.law_played.proofs.SteppingLemmas.{traces_kept}
use Rattle.law_played.specs.Commits.{commit_shown, is_written}
use Rattle.law_played.specs.Plays.{is_quiet, waits_for_time}
use Rattle.law_played.specs.Progress.{is_time, released_by}
use Rattle.law_played.specs.Runs.{final_values, written_in}
use Rattle.law_played.specs.RunStates.{IsPlaysVsync, RunState, after_vsync, release_asked, report_of, reports_if, round_now, with_calls}

pub begins_bare : (scene : SceneValue) (state : RunState) → (round_now scene state).stage.commits ≡ []
unfolding round_now
begins_bare scene state = refl

begins_whole : (scene : SceneValue) (state : RunState) → (round_now scene state).stage.gone ≡ []
unfolding round_now
begins_whole scene state = refl

-- it reads the arrivals and the reports alone
pub round_same : (scene : SceneValue) (state : RunState) (number : ℕ) → round_now scene (record state { vsyncs = number }) ≡ round_now scene state
unfolding round_now
round_same scene state number = refl

no_calls : (scene : SceneValue) (state : RunState) (number : ℕ) → with_calls scene 0 number state.run [] ≡ state.run
unfolding with_calls
no_calls scene state number = refl

module _ (scene : SceneValue) (state : RunState) (commits : List Commit) (tree : TreeOf) (gone : List (OnLayer FrameOf)) (holds : List (ℕ × Hold)) (v : IsPlaysVsync scene state commits tree gone holds) where
  abbrev later : RunState
  later = (after_vsync scene state v.end).state

  -- where nothing was committed, it ends as it began
  ends_bare : commits ≡ [] → v.end ≡ round_now scene state
  ends_bare none = by_taken v.decides.taken (sym (ap (λ cs. cs ++ told_along (round_now scene state) v.decides.taken) (begins_bare scene state))
      ∙ (sym (commits_along (is_written (written_in scene state.run)) (final_values scene state.run) ((state.vsyncs + 1) * scene.period) (round_now scene state) v.end v.decides.taken v.decides.leads)
      ∙ (v.commits_are ∙ none))) v.decides.leads
    where
      by_taken : (taken : List (Arrival FrameOf)) → told_along (round_now scene state) taken ≡ []
          → Leads (is_written (written_in scene state.run)) (final_values scene state.run) ((state.vsyncs + 1) * scene.period) (round_now scene state) taken v.end → v.end ≡ round_now scene state
      by_taken [] e leads = leads
      by_taken (a ∷ more) e leads = absurd (no_more e)
        where
          no_more : told_along (round_now scene state) (a ∷ more) ≡ [] → ⊥
          no_more e = cc

  pub state_bare : commits ≡ [] → later ≡ record state { vsyncs = state.vsyncs + 1 }
  state_bare none =
      let none_gone : v.end.stage.gone ≡ [] = ap (λ (r : Round FrameOf). r.stage.gone) (ends_bare none) ∙ begins_whole scene state in
      let none_told : v.end.stage.commits ≡ [] = v.commits_are ∙ none in
      λ i. record {
        run = (ap (λ (g : List (OnLayer FrameOf)). with_calls scene 0 (state.vsyncs + 1) state.run (map release_asked (released_by (report_of scene state v.end) g))) none_gone ∙ no_calls scene state (state.vsyncs + 1)) i;
        arrivals = state.arrivals;
        reports = (ap (λ (cs : List Commit). state.reports ++ reports_if (report_of scene state v.end) (map commit_shown cs)) none_told ∙ append-nil state.reports) i;
        vsyncs = state.vsyncs + 1;
      }

  pub events_bare : commits ≡ [] → (after_vsync scene state v.end).events ≡ []
  events_bare none = ap (λ (cs : List Commit). map event.Vsync (reports_if (report_of scene state v.end) (map commit_shown cs))) (v.commits_are ∙ none)

  -- what waits for a time then
  pub waits_bare : commits ≡ [] → waits_for_time scene later ≡ list_any (λ (h : ℕ × Hold). is_time h.1) holds
  waits_bare none =
      ap (waits_for_time scene) (state_bare none)
      ∙ (ap (λ (r : Round FrameOf). list_any (λ (h : ℕ × Hold). is_time h.1) (held (is_written (written_in scene state.run)) (final_values scene state.run) ((state.vsyncs + 1) * scene.period) r))
      (round_same scene state (state.vsyncs + 1) ∙ sym (ends_bare none))
      ∙ ap (list_any (λ (h : ℕ × Hold). is_time h.1)) v.holds_are)

  -- no actor does a step in it
  pub traces_stay : (actor : ℕ) → later.run.trace actor ≡ state.run.trace actor
  traces_stay actor = traces_kept scene 0 (state.vsyncs + 1) state.run (map release_asked (released_by (report_of scene state v.end) v.end.stage.gone)) actor

  -- there is a report of what was committed
  pub reports_more : (c : Commit) (cs : List Commit) → commits ≡ c ∷ cs → length later.reports ≡ length state.reports + 1
  reports_more c cs e =
      ap (λ (ds : List Commit). length (state.reports ++ reports_if (report_of scene state v.end) (map commit_shown ds))) (v.commits_are ∙ e)
      ∙ length-append state.reports (report_of scene state v.end ∷ [])

  -- whether it was quiet since
  module _ (before : RunState) (same : state.reports ≡ before.reports) where
    abbrev none_did : Bool
    none_did = list_all (λ (script : ActorScript). length (state.run.trace script.number) == length (before.run.trace script.number)) scene.actors

    did_same : list_all (λ (script : ActorScript). length (later.run.trace script.number) == length (before.run.trace script.number)) scene.actors ≡ none_did
    did_same = λ i. list_all (λ (script : ActorScript). length (traces_stay script.number i) == length (before.run.trace script.number)) scene.actors

    pub quiet_bare : commits ≡ [] → is_quiet scene before later ≡ (none_did && not (list_any (λ (h : ℕ × Hold). is_time h.1) holds))
    quiet_bare none =
        let count : (length later.reports == length before.reports) ≡ true =
        eq-eqb (length later.reports) (length before.reports) (ap (λ (w : RunState). length w.reports) (state_bare none) ∙ ap (λ (rs : List VsyncRecords). length rs) same) in
        λ i. did_same i && (count i && not (waits_bare none i))

    pub quiet_some : (c : Commit) (cs : List Commit) → commits ≡ c ∷ cs → is_quiet scene before later ≡ false
    quiet_some c cs e =
        let more = reports_more c cs e in
        let size = ap (λ (rs : List VsyncRecords). length rs) same in
        let count : (length later.reports == length before.reports) ≡ false = ne_eqb (length later.reports) (length before.reports) (λ f. omega (arith, more, size, f)) in
        (λ i. did_same i && (count i && not (waits_for_time scene later))) ∙ by_did none_did
      where
        by_did : (b : Bool) → (b && false) ≡ false
        by_did true = refl
        by_did false = refl
