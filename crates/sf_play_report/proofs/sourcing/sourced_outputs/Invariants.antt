use Rattle.std.specs.List.{AllZip}
use Rattle.law_played.specs.sf_output.Outputs.{IsOutput}
use Rattle.sf_play_report.specs.Stages.{IsSourcedBy}
use Rattle.sf_play_report.proofs.sourcing.sourced_outputs.Given as goal

abbrev pub invariant-loop-output : goal.invariant-loop-output
invariant-loop-output g l = record {
  can_next : (goal.iterator-loop-output g).can_next l.output-iterator;
  is_finite : (goal.iterator-loop-output g).is_finite l.output-iterator;
  sourced : AllZip (IsOutput (IsSourcedBy l.handler.on)) l.yielded l.views.items;
}
