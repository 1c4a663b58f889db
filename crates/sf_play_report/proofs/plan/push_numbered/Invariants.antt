use Rattle.std.proofs.Common.{◌≡◌, ◌++◌, filter, take}
use Rattle.sf_play_report.specs.inner.Plans.{is_numbered}
use Rattle.sf_play_report.proofs.plan.push_numbered.Given as goal

abbrev pub invariant-loop-item : goal.invariant-loop-item
invariant-loop-item g l = l.list.items ≡ l.fn.list.items ++ filter (is_numbered g.T.Numbered.number_of l.number) (take l.item-index l.items)
