use Rattle.std.proofs.Common.{◌≡◌, [], length}
use Rattle.sf_script_words.specs.Text.{words_of}
use Rattle.sf_script_scene.specs.Named.{AreKnown, timelines_in}
use Rattle.sf_script.specs.Parts.{fences_at}
use Rattle.sf_script.proofs.parts.fences.Given as goal

abbrev pub invariant-loop-word : goal.invariant-loop-word
invariant-loop-word l = record {
  given : fences_at l.scene l.points (words_of l.rest) ≡ fences_at l.scene [] (words_of l.line);
  known : AreKnown l.scene.timelines (timelines_in l.points);
}

abbrev pub decreases-loop-word : goal.decreases-loop-word
decreases-loop-word l = length (words_of l.rest)
