use Rattle.std.proofs.Common.{◌∷◌, ◌++◌, [], List, map, take, ap, sym, ◌∙◌}
use Rattle.std.proofs.lemmas.List.{map_more}
use Rattle.law_played.specs.sf_record.declared.record.ArrivalEntry.{ArrivalEntry}
use Rattle.law_played.specs.Telling.{arrival_recorded}
use Rattle.sf_play_report.proofs.closing.arrivals_record.Goals as goal

pub loop-entry-preserved : goal.loop-entry-preserved
loop-entry-preserved c =
    let i = c.loop-entry.entry-index in
    c.in_ok-push.ensures.items
    ∙ (ap (λ (made : List ArrivalEntry). made ++ c.arrival_of.result ∷ []) c.loop-entry.invariant
    ∙ (ap (λ (one : ArrivalEntry). map arrival_recorded (take i c.args.entries.now) ++ one ∷ []) c.arrival_of.ensures ∙ sym (map_more arrival_recorded c.args.entries.now i _ c.loop-entry-test.true)))
