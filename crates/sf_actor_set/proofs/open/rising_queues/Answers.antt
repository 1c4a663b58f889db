use Rattle.std.proofs.Common.{◌≡◌, rules, subst, List}
use Rattle.std.specs.List.Sorted.{IsPermutation}
use Rattle.std.proofs.lemmas.List.Sorted.{IsNonDecreasingBy-from_sort_by_key}
use Rattle.sf_actor_steps.specs.sf_script_scene.declared.declarations.QueueDecl.{QueueDecl}
use Rattle.sf_actor_set.proofs.open.rising_queues.Goals as goal

pub returns : goal.returns
returns c =
    let all : c.extend_from_slice.new.self.items ≡ c.args.queues.now = search rules in
    record {
      permutation = subst (λ (queues : List QueueDecl). IsPermutation queues c.sort_by_key.new.self.items) all c.in_ok-sort_by_key.ensures.permutation;
      rising = IsNonDecreasingBy-from_sort_by_key (λ (queue : QueueDecl). queue.number) _ c.in_ok-sort_by_key.ensures.sorted (λ a r q k. search rules);
    }
