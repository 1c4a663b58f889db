use Rattle.std.proofs.Common.{◌∷◌, ◌++◌, [], List, map, take, ap, sym, ◌∙◌}
use Rattle.std.proofs.lemmas.List.{map_more, take_all}
use Rattle.law_played.specs.sf_record.declared.record.HistoryEntry.{HistoryEntry}
use Rattle.law_played.specs.Telling.{call_recorded}
use Rattle.sf_play_report.proofs.closing.calls_of.Goals as goal

pub loop-entry-preserved : goal.loop-entry-preserved
loop-entry-preserved c =
    let i = c.loop-entry.entry-index in
    c.in_ok-push.ensures.items
    ∙ (ap (λ (made : List HistoryEntry). made ++ c.call_of.result ∷ []) c.loop-entry.invariant
    ∙ (ap (λ (one : HistoryEntry). map call_recorded (take i c.args.entries.now) ++ one ∷ []) c.call_of.ensures ∙ sym (map_more call_recorded c.args.entries.now i _ c.loop-entry-test.true)))

pub returns : goal.returns
returns c = c.loop-entry.invariant ∙ ap (map call_recorded) (take_all c.loop-entry.entry-index c.args.entries.now c.loop-entry-test.false)
