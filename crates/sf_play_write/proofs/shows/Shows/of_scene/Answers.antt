use Rattle.std.proofs.Common.{ap, ◌∙◌, subst}
use Rattle.sf_play.specs.sf_actor_set.Opening.{IsSortedFrom}
use Rattle.sf_play.specs.sf_script_scene.Limits.{IsWithinLimits}
use Rattle.sf_play.specs.sf_script_scene.Scene.{SceneValue}
use Rattle.sf_play_write.proofs.ActionLemmas.{timelines_are}
use Rattle.sf_play_write.proofs.shows.Shows.of_scene.Goals as goal

pub returns : goal.returns
returns c =
    let limits = subst IsWithinLimits c.scene.view_is c.scene.invariant in
    let sorted = c.in_ok-timelines.timelines.items in
    record {
      planned = c.in_ok-plan.ensures.value;
      rising = timelines_are c.args.scene.now sorted limits
          (subst (λ ts. IsSortedFrom (λ timeline. timeline) ts sorted) (c.as_slice.ensures ∙ ap (λ (s : SceneValue). s.timelines) c.scene.view_is) c.in_ok-timelines.ensures);
    }
