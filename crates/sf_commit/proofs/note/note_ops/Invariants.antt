use Rattle.std.proofs.Common.{◌≡◌, drop}
use Rattle.sf_commit.proofs.PressedLemmas.{ComesTo}
use Rattle.sf_commit.proofs.note.note_ops.Given as goal

abbrev pub invariant-loop-layer : goal.invariant-loop-layer
invariant-loop-layer l =
    (l.facts ≡ record l.fn.facts { pressed = l.facts.pressed }) × ComesTo l.fn.ops (drop l.layer-index l.fn.ops) l.fn.facts.pressed l.facts.pressed
