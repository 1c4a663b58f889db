use Rattle.std.proofs.Common.{◌∙◌, sym, ap, List}
use Rattle.sf_script_scene.specs.Scene.{SceneValue, last_of, steps_so_far}
use Rattle.sf_script_scene.specs.declared.step.ActorScript.{ActorScript}
use Rattle.sf_script_scene.proofs.DeclaredLemmas.{last_of-is}
use Rattle.sf_script_scene.proofs.scene.Scene.last_steps.Goals as goal

pub returns-in-len1-up : goal.returns-in-len1-up
returns-in-len1-up c =
    c.len.ensures ∙ ap steps_so_far (sym (last_of-is _ _ c.in-len1-up.len_at_least c.last-item.is))
    ∙ ap (λ (l : List ActorScript). steps_so_far (last_of l)) (c.as_slice.ensures ∙ ap (λ (s : SceneValue). s.actors) c.self.view_is)
