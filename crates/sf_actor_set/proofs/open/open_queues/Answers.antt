use Rattle.std.proofs.lemmas.List.Elements.{All-same}
use Rattle.std.proofs.lemmas.List.Sorted.{All-permutation}
use Rattle.sf_actor_steps.specs.sf_script_scene.Ranges.{IsQueue}
use Rattle.sf_actor_set.proofs.open.open_queues.Goals as goal

pub open_each-requires : goal.open_each-requires
open_each-requires g c = record {
  sizes = All-same IsQueue _ _ c.deref.ensures.value (All-permutation IsQueue _ _ c.in_ok-rising.ensures.permutation c.requires.sizes);
}
