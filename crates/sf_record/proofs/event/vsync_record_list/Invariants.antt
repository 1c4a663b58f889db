use Rattle.std.proofs.Common.{◌≡◌, ◌++◌, ◌∷◌, map}
use Rattle.sf_record.specs.declared.record.Record.TheVariants as rec
use Rattle.sf_record.specs.Events.{output_record}
use Rattle.sf_record.proofs.event.vsync_record_list.Given as goal

-- the records of what was gone over
abbrev pub invariant-loop-output : goal.invariant-loop-output
invariant-loop-output l =
    let report = l.fn.report in
    l.records.items ++ map (output_record l.number) l.output-iterator.rest.items
    ≡ rec.Vsyn (record { number = report.number; expected = report.expected; timelines = report.timelines }) ∷ (map rec.Comm report.commits ++ map (output_record report.number) report.shown)
