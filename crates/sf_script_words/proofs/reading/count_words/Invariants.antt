use Rattle.std.proofs.Common.{◌≡◌, ◌+◌, length}
use Rattle.sf_script_words.specs.Text.{words_of}
use Rattle.sf_script_words.proofs.reading.count_words.Given as goal

abbrev pub invariant-loop-after : goal.invariant-loop-after
invariant-loop-after l = l.count + length (words_of l.rest) ≡ length (words_of l.line)

abbrev pub decreases-loop-after : goal.decreases-loop-after
decreases-loop-after l = length (words_of l.rest)
