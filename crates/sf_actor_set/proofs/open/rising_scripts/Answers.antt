use Rattle.std.proofs.Common.{rules}
use Rattle.std.proofs.lemmas.List.Sorted.{IsNonDecreasingBy-from_sort_by_key}
use Rattle.sf_actor_steps.specs.sf_script_scene.declared.step.ActorScript.{ActorScript}
use Rattle.sf_actor_set.proofs.open.rising_scripts.Goals as goal

pub returns : goal.returns
returns c = record {
  permutation = c.in_ok-sort_by_key.ensures.permutation;
  rising = IsNonDecreasingBy-from_sort_by_key (λ (script : ActorScript). script.number) _ c.in_ok-sort_by_key.ensures.sorted (λ a r q k. search rules);
}
