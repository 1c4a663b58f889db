use Rattle.std.proofs.Common.{◌≡◌, ◌++◌, take}
use Rattle.sf_commit_next.specs.sf_ready.Facts.{HasSame, TellsSame}
use Rattle.sf_commit.specs.Rounds.{frames_in, layers_in}
use Rattle.sf_commit.proofs.note.note_shown.Given as goal

abbrev pub invariant-loop-layer : goal.invariant-loop-layer
invariant-loop-layer l =
    TellsSame l.facts.frames (frames_in (take l.layer-index l.fn.shown) ++ l.fn.facts.frames)
    × HasSame l.facts.fresh (layers_in (take l.layer-index l.fn.shown) ++ l.fn.facts.fresh)
    × (l.facts.pressed ≡ l.fn.facts.pressed)
