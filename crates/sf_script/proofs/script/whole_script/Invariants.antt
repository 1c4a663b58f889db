use Rattle.std.proofs.Common.{◌≡◌, ◌+◌, ◌≤◌, length}
use Rattle.sf_script_words.specs.Text.{lines_of}
use Rattle.sf_script.specs.Draft.{no_lines}
use Rattle.sf_script.specs.Script.{lines_at}
use Rattle.sf_script.proofs.script.whole_script.Given as goal

abbrev pub invariant-loop-text : goal.invariant-loop-text
invariant-loop-text l = record {
  given : lines_at l.number l.draft (lines_of l.rest) ≡ lines_at 1 no_lines (lines_of l.bytes);
  numbered : l.number + length l.rest ≤ 1 + length l.bytes;
  few : length l.draft.scene.order + length l.rest ≤ length l.bytes;
  short : length l.bytes ≤ 1048576;
}

abbrev pub decreases-loop-text : goal.decreases-loop-text
decreases-loop-text l = length l.rest
