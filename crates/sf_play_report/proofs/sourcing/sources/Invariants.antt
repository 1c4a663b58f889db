use Rattle.std.proofs.Common.{take}
use Rattle.sf_play_report.specs.Stages.{AreSourcesOf}
use Rattle.sf_play_report.proofs.sourcing.sources.Given as goal

abbrev pub invariant-loop-one : goal.invariant-loop-one
invariant-loop-one g l = AreSourcesOf l.handler.on (take l.one-index l.drawn) l.sources.items
