use Rattle.std.proofs.Common.{arith}
use Rattle.sf_picture.proofs.LeapLemmas.{Marks-all, MarksTo-leap, PaintsBare-leap}
use Rattle.sf_picture.proofs.rows.paint_bare.Goals as goal

pub loop-at-preserved-then-leap-right : goal.loop-at-preserved-then-leap-right
loop-at-preserved-then-leap-right c = (
  omega (arith, c.loop-at.invariant.0),
  omega (arith, c.if-leap-right.true, c.loop-at-test.true),
  MarksTo-leap c.loop-at.invariant.2 c.requires.leaps c.from-leap.ensures (omega (arith, c.if-leap-eq0.false)) (omega (arith, c.if-leap-right.true, c.loop-at-test.true)) c.loop-at.invariant.0 (omega (arith, c.loop-at-test.true, c.requires.within, c.loop-at.auto.leaps)),
  PaintsBare-leap c.loop-at.invariant.3 c.loop-at.invariant.2 c.requires.leaps c.from-leap.ensures,
)

pub returns-clause-marks : goal.returns-clause-marks
returns-clause-marks c = Marks-all c.loop-at.invariant.2 c.requires.leaps c.loop-at.invariant.1 (omega (arith, c.loop-at-test.false))
