use Rattle.std.proofs.Common.{◌≡◌, take}
use Rattle.std.specs.List.{All}
use Rattle.sf_intake.specs.Views.{IsBeginningOf, SenderView}
use Rattle.sf_intake.proofs.taker.Taker.compare_each.Given as goal

abbrev pub invariant-loop-i : goal.invariant-loop-i
invariant-loop-i g l = record {
  same : l.self ≡ l.fn.self;
  senders : l.senders ≡ l.fn.senders;
  begins : All (λ (s : SenderView g.row.L.Denot). IsBeginningOf s l.fn.self.taken) (take l.i l.fn.senders);
}
