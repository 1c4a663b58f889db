use Rattle.std.proofs.Common.{◌≤◌, length, arith}
use Rattle.std.proofs.lemmas.List.Sorted.{All-permutation, sum_by-IsPermutation}
use Rattle.sf_actor_steps.specs.sf_script_scene.declared.step.ActorScript.{ActorScript}
use Rattle.sf_actor_steps.specs.sf_actor.Tries.{dequeues_in}
use Rattle.sf_actor_set.proofs.open.open_actors.Goals as goal

pub open_each_actor-requires-clause-few : goal.open_each_actor-requires-clause-few
open_each_actor-requires-clause-few g c = All-permutation (λ (script : ActorScript). length script.steps ≤ 4096) _ _ c.in_ok-rising.ensures.permutation c.requires.few

pub open_each_actor-requires-clause-enough : goal.open_each_actor-requires-clause-enough
open_each_actor-requires-clause-enough g c =
    let same = sum_by-IsPermutation (λ (script : ActorScript). dequeues_in script.steps) _ _ c.in_ok-rising.ensures.permutation in
    let enough = c.requires.enough in
    omega (arith, same, enough)
