-- What the last vsync of a play held, where it committed nothing.
use Rattle.std.proofs.Common.{◌≡◌, ℕ, ◌+◌, ◌*◌, List, [], ◌∷◌, ◌++◌, ap, sym, ◌∙◌}
use Rattle.sf_play_report.specs.sf_ready.declared.hold.Hold.{Hold}
use Rattle.sf_play_report.specs.sf_token.Pending.{Arrival}
use Rattle.sf_play_report.specs.sf_tree.Trees.{TreeOf}
use Rattle.sf_play_report.specs.sf_commit.OnLayers.{OnLayer}
use Rattle.sf_play_report.specs.sf_commit.Rounds.{Leads, held}
use Rattle.sf_play_report.specs.sf_commit.declared.vsync.Commit.{Commit}
use Rattle.sf_script_scene.specs.Scene.{SceneValue}
use Rattle.sf_play_report.specs.sf_actor.Names.{FrameOf}
use Rattle.sf_play_report.proofs.law_played_lemmas.PathLemmas.{commits_along, told_along}
use Rattle.sf_play_report.proofs.law_played_lemmas.RoundEnd.{begins_bare, round_same, state_bare}
use Rattle.sf_play_report.specs.law_played.Commits.{is_written}
use Rattle.sf_play_report.specs.law_played.Ends.{held_in}
use Rattle.sf_play_report.specs.law_played.Runs.{final_values, written_in}
use Rattle.sf_play_report.specs.law_played.RunStates.{IsPlaysVsync, RunState, after_vsync, round_now}

module _ (scene : SceneValue) (state : RunState) (commits : List Commit) (tree : TreeOf) (gone : List (OnLayer FrameOf)) (holds : List (ℕ × Hold)) (v : IsPlaysVsync scene state commits tree gone holds) where
  nothing_told : (taken : List (Arrival FrameOf)) → told_along (round_now scene state) taken ≡ []
      → Leads (is_written (written_in scene state.run)) (final_values scene state.run) ((state.vsyncs + 1) * scene.period) (round_now scene state) taken v.end → v.end ≡ round_now scene state
  nothing_told [] none leads = leads
  nothing_told (arrival ∷ taken) none leads = absurd (some_told none)
    where
      some_told : told_along (round_now scene state) (arrival ∷ taken) ≡ [] → ⊥
      some_told e = cc

  ends_bare : commits ≡ [] → v.end ≡ round_now scene state
  ends_bare none = nothing_told v.decides.taken (sym (ap (λ cs. cs ++ told_along (round_now scene state) v.decides.taken) (begins_bare scene state))
      ∙ (sym (commits_along (is_written (written_in scene state.run)) (final_values scene state.run) ((state.vsyncs + 1) * scene.period) (round_now scene state) v.end v.decides.taken v.decides.leads)
      ∙ (v.commits_are ∙ none))) v.decides.leads

  pub held_bare : commits ≡ [] → held_in scene (after_vsync scene state v.end).state ≡ holds
  held_bare none =
      ap (held_in scene) (state_bare scene state commits tree gone holds v none)
      ∙ (ap (held (is_written (written_in scene state.run)) (final_values scene state.run) ((state.vsyncs + 1) * scene.period)) (round_same scene state (state.vsyncs + 1) ∙ sym (ends_bare none))
      ∙ v.holds_are)
