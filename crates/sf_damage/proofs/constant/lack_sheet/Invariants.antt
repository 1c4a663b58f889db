use Rattle.std.proofs.Common.{◌≢◌, drop}
use Rattle.std.specs.List.{All}
use Rattle.sf_view.specs.Stacks.{sheet_of}
use Rattle.sf_damage.proofs.constant.lack_sheet.Given as goal

abbrev pub invariant-loop-other : goal.invariant-loop-other
invariant-loop-other l = All (λ other. sheet_of other ≢ sheet_of l.drawn) (drop l.other-index l.layers) → All (λ other. sheet_of other ≢ sheet_of l.drawn) l.layers
