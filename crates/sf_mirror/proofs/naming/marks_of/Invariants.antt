use Rattle.std.proofs.Common.{take}
use Rattle.sf_mirror.specs.inner.Marks.{AreMarks}
use Rattle.sf_mirror.proofs.naming.marks_of.Given as goal

abbrev pub invariant-loop-id : goal.invariant-loop-id
invariant-loop-id l = AreMarks (take l.id-index l.taken) l.marks.items
