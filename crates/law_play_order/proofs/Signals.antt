-- What a play's vsyncs saw: the points that its steps signalled are of declared timelines, so the records of vsyncs show all of them.
use Rattle.std.proofs.Common.{◌≡◌, ℕ, ◌-◌, ◌≤◌, ◌==◌, true, false, List, [], ◌∷◌, length, map, refl, ap, sym, ◌∙◌, true≢false, arith}
use Rattle.std.specs.Prelude.{All}
use Rattle.std.specs.List.{flat_map}
use Rattle.std.proofs.lemmas.Bool.{eqb-true}
use Rattle.std.proofs.lemmas.List.{get_or-replicate}
use Rattle.std.proofs.lemmas.List.Elements.{All-append, All-cons, All-contains, All-head, All-nil, All-tail, All-weaker}
use Rattle.sf_base.proofs.PointLemmas.{value_else}
use Rattle.sf_base.specs.Fences.{no_points, value_of}
use Rattle.sf_base.specs.Points.{greatest, value_at}
use Rattle.law_played.specs.sf_actor.Makers.{Run}
use Rattle.law_played.specs.sf_actor.Written.{signal_of, signals_of}
use Rattle.law_played.specs.sf_actor.declared.done.Done.{Done}
use Rattle.law_played.specs.sf_record.declared.event.VsyncRecords.{VsyncRecords}
use Rattle.law_played.specs.sf_script_scene.Limits.{IsWithinLimits}
use Rattle.law_played.specs.sf_script_scene.Named.{KnowsTimelines}
use Rattle.law_played.specs.sf_script_scene.Ranges.{IsTimeline}
use Rattle.law_played.specs.sf_script_scene.Scene.{SceneValue, has_timeline}
use Rattle.law_played.specs.sf_script_scene.declared.step.ActorScript.{ActorScript}
use Rattle.law_played.specs.sf_script_scene.declared.step.Step.{Step}
use Rattle.law_played.specs.sf_script_scene.declared.step.Step.TheVariants as step
use Rattle.law_played.proofs.AsQueued.{one_passes}
use Rattle.law_played.proofs.SeenLemmas.{seen_is, values_with}
use Rattle.law_played.specs.Commits.{seen_by}
use Rattle.law_played.specs.Runs.{final_values, rising_actors, signals_in}
use Rattle.law_played.specs.Seeing.{value_shown}
use Rattle.law_played.specs.Vsyncs.{rising_timelines}

-- a point is of a declared timeline
abbrev pub IsDeclared : SceneValue → ℕ × ℕ → Type 0
IsDeclared scene point = has_timeline scene.timelines point.0 ≡ true

-- a done step names declared timelines alone
abbrev pub NamesKnown : SceneValue → Done → Type 0
NamesKnown scene done = KnowsTimelines scene.timelines done.step

of_step : (scene : SceneValue) (s : Step) → KnowsTimelines scene.timelines s → All (IsDeclared scene) (signal_of s)
of_step scene (step.Signal t v) knows =
    All-cons (IsDeclared scene) (t, v) [] (All-head (λ (n : ℕ). has_timeline scene.timelines n ≡ true) t [] knows) (All-nil (IsDeclared scene))
of_step scene other knows = All-nil (IsDeclared scene)

of_trace : (scene : SceneValue) (trace : List Done) → All (NamesKnown scene) trace → All (IsDeclared scene) (signals_of trace)
of_trace scene [] all = All-nil (IsDeclared scene)
of_trace scene (done ∷ later) all =
    All-append (IsDeclared scene) (signal_of done.step) (signals_of later) (of_step scene done.step (All-head (NamesKnown scene) done later all))
    (of_trace scene later (All-tail (NamesKnown scene) done later all))

of_actors : (scene : SceneValue) (run : Run) (scripts : List ActorScript) → ((actor : ℕ) → All (NamesKnown scene) (run.trace actor))
    → All (IsDeclared scene) (flat_map (λ (script : ActorScript). signals_of (run.trace script.number)) scripts)
of_actors scene run [] all = All-nil (IsDeclared scene)
of_actors scene run (script ∷ later) all =
    All-append (IsDeclared scene) (signals_of (run.trace script.number)) (flat_map (λ (script : ActorScript). signals_of (run.trace script.number)) later)
    (of_trace scene (run.trace script.number) (all script.number)) (of_actors scene run later all)

none_of : (scene : SceneValue) (t : ℕ) (points : List (ℕ × ℕ)) → has_timeline scene.timelines t ≡ false → All (IsDeclared scene) points → greatest t points ≡ 0
none_of scene t [] none all = refl
none_of scene t (p ∷ ps) none all =
    let here : value_at t p ≡ 0 =
    value_else t p.0 p.1 (λ same. true≢false (sym (All-head (IsDeclared scene) p ps all) ∙ (ap (has_timeline scene.timelines) same ∙ none))) in
    let rest = none_of scene t ps none (All-tail (IsDeclared scene) p ps all) in
    omega (arith, here, rest)

module _ (scene : SceneValue) (limits : IsWithinLimits scene) (run : Run) (knows : (actor : ℕ) → All (NamesKnown scene) (run.trace actor)) where
  all_declared : All (IsDeclared scene) (signals_in scene run)
  all_declared = of_actors scene run (rising_actors scene) knows

  from_1 : All (λ (p : ℕ × ℕ). 1 ≤ p.0) (signals_in scene run)
  from_1 = All-weaker (IsDeclared scene) (λ (p : ℕ × ℕ). 1 ≤ p.0) low (signals_in scene run) all_declared
    where
      low : (p : ℕ × ℕ) → IsDeclared scene p → 1 ≤ p.0
      low p declared =
          let one = one_passes (λ (t : ℕ). t == p.0) scene.timelines declared in
          let is = All-contains IsTimeline scene.timelines one.0 limits.timelines.each one.1 in
          let same = eqb-true one.0 p.0 one.2 in
          let least = is.low in
          omega (arith, same, least)

  long_none : length no_points.values ≡ 64
  unfolding no_points
  long_none = refl

  none_there : (t : ℕ) → 1 ≤ t → t ≤ 64 → value_of no_points.values t ≡ 0
  unfolding no_points
  none_there t least most = get_or-replicate 64 (t - 1) 0 0 (omega arith)

  -- the records of a vsync show all that was signalled so far
  pub saw_all : (report : VsyncRecords) → report.timelines ≡ map (value_shown (final_values scene run)) (rising_timelines scene) → seen_by report ≡ final_values scene run
  saw_all report shown =
      let with' = values_with no_points (signals_in scene run) long_none from_1 in
      seen_is scene (final_values scene run) report with'.0 shown
      (λ t least most undeclared.
      let value = with'.1 t least most in
      let nothing = none_there t least most in
      let none = none_of scene t (signals_in scene run) undeclared all_declared in
      omega (arith, value, nothing, none))
