use Rattle.std.proofs.Common.{ℕ, List, ◌++◌, ap, ◌∙◌, subst}
use Rattle.std.specs.List.Sorted.{IsPermutation}
use Rattle.std.proofs.lemmas.List.Sorted.{IsNonDecreasingBy-from_sort}
use Rattle.sf_play_write.proofs.shows.rising_timelines.Goals as goal

pub returns : goal.returns
returns c = record {
  permutation = subst (λ (xs : List ℕ). IsPermutation xs c.sort_unstable.new.self.items)
      (c.in_ok-extend_from_slice.ensures.items ∙ ap (λ (xs : List ℕ). xs ++ c.args.timelines.now) c.new-rising.ensures.items) c.sort_unstable.ensures.permutation;
  rising = IsNonDecreasingBy-from_sort (λ (timeline : ℕ). timeline) c.sort_unstable.new.self.items c.sort_unstable.ensures.sorted;
}
