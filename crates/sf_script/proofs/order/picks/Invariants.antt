use Rattle.std.proofs.Common.{◌≡◌, ◌+◌, [], length}
use Rattle.std.specs.List.{All}
use Rattle.sf_script_words.specs.Text.{words_of}
use Rattle.sf_script_scene.specs.Limits.{IsPick}
use Rattle.sf_script.specs.Order.{picks_at}
use Rattle.sf_script.proofs.order.picks.Given as goal

abbrev pub invariant-loop-word : goal.invariant-loop-word
invariant-loop-word l = record {
  given : picks_at l.scene l.picks.items (words_of l.rest) ≡ picks_at l.scene [] (words_of l.line);
  fits : All (IsPick l.scene.actors) l.picks.items;
  few : length l.picks.items + length (words_of l.rest) ≡ length (words_of l.line);
}

abbrev pub decreases-loop-word : goal.decreases-loop-word
decreases-loop-word l = length (words_of l.rest)
