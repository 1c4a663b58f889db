use Rattle.std.proofs.Common.{ap, map, subst, sym, ◌∙◌}
use Rattle.law_played.specs.sf_output_plan.Due.{IsPlan}
use Rattle.law_played.proofs.FrameLemmas.{is_plan}
use Rattle.law_played.specs.Frames.{capture_plan, display_plan, hit_plan, plan_of}
use Rattle.law_played.specs.Runs.{rising}
use Rattle.law_played.specs.sf_script_scene.Limits.{IsWithinLimits}
use Rattle.law_played.specs.sf_script_scene.declared.declarations.CaptureDecl.{CaptureDecl}
use Rattle.law_played.specs.sf_script_scene.declared.declarations.DisplayDecl.{DisplayDecl}
use Rattle.law_played.specs.sf_script_scene.declared.declarations.HitDecl.{HitDecl}
use Rattle.sf_play_report.proofs.plan.plan_of.Goals as goal

pub returns-clause-value : goal.returns-clause-value
unfolding plan_of
returns-clause-value c =
    let displays = c.in_ok-display_plans.ensures ∙ ap (map display_plan) (c.deref.ensures.value ∙ (c.in_ok-displays.ensures ∙ ap (rising (λ (d : DisplayDecl). d.number) 8) c.as_slice.ensures)) in
    let captures = c.in_ok-capture_plans.ensures ∙ ap (map capture_plan) (c.deref-2.ensures.value ∙ (c.in_ok-captures.ensures ∙ ap (rising (λ (d : CaptureDecl). d.number) 8) c.as_slice-2.ensures)) in
    let hits = c.in_ok-hit_plans.ensures ∙ ap (map hit_plan) (c.deref-3.ensures.value ∙ (c.in_ok-hits.ensures ∙ ap (rising (λ (d : HitDecl). d.number) 64) c.as_slice-3.ensures)) in
    (λ i. record {
      width = c.scene.inside.width;
      height = c.scene.inside.height;
      stacks = (c.in_ok-pairs.ensures ∙ c.as_slice-4.ensures) i;
      mirrors = (c.in_ok-pairs-2.ensures ∙ c.as_slice-5.ensures) i;
      displays = displays i;
      captures = captures i;
      hits = hits i;
    }) ∙ ap plan_of c.scene.view_is

pub returns-clause-kept : goal.returns-clause-kept
returns-clause-kept c = subst IsPlan (sym (returns-clause-value c)) (is_plan c.args.scene.now (subst IsWithinLimits c.scene.view_is c.scene.invariant))
