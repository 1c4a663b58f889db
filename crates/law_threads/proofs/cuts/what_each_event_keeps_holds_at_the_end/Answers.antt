use Rattle.law_threads.specs.Cuts.{HasLedger, many_of, spot_of}
use Rattle.law_threads.proofs.EventLaws.{carried}
use Rattle.law_threads.proofs.LeastStamp.{ordered}
use Rattle.law_threads.proofs.cuts.what_each_event_keeps_holds_at_the_end.Goals as goal

pub returns : goal.returns
returns g c = λ run.
    carried run.whole HasLedger run.heights run.rest (ordered spot_of (many_of run.whole) run.stamp run.rise run.heights run.rest run.cut run.turn) run.lasts run.cut run.parts run.stands
