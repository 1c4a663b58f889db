use Rattle.sf_play_report.specs.sf_commit.Releases.{ReleaseOf}
use Rattle.sf_play_report.specs.sf_surface.Tokens.{ReadLeaseOf}
use Rattle.sf_play.specs.VsyncOver.{InTurn}
use Rattle.sf_play.proofs.vsync.give_all_back.Given as goal

abbrev pub invariant-loop-release : goal.invariant-loop-release
invariant-loop-release g l = record {
  can_next : (goal.iterator-loop-release g).can_next l.release-iterator;
  is_finite : (goal.iterator-loop-release g).is_finite l.release-iterator;
  stands : g.D.CompositorDesk.stands l.fn.with l.desk;
  others : (other : ReleaseOf ReadLeaseOf) → g.D.CompositorDesk.may_give l.fn.desk other → g.D.CompositorDesk.may_give l.desk other;
  gives : InTurn (g.D.CompositorDesk.gives l.fn.with l.fn.number) l.yielded l.fn.desk l.desk;
}
