use Rattle.std.proofs.Common.{◌∷◌, ◌++◌, [], List, map, take, ap, sym, ◌∙◌}
use Rattle.std.proofs.lemmas.List.{map_more}
use Rattle.law_played.specs.sf_record.declared.record.HeldEntry.{HeldEntry}
use Rattle.law_played.specs.Progress.{held_shown}
use Rattle.sf_play_report.proofs.closing.held_record.Goals as goal

pub loop-entry-preserved : goal.loop-entry-preserved
loop-entry-preserved c =
    let i = c.loop-entry.entry-index in
    c.in_ok-push.ensures.items
    ∙ (ap (λ (made : List HeldEntry). made ++ c.held_of.result ∷ []) c.loop-entry.invariant
    ∙ (ap (λ (one : HeldEntry). map held_shown (take i c.args.held.now) ++ one ∷ []) c.held_of.ensures ∙ sym (map_more held_shown c.args.held.now i _ c.loop-entry-test.true)))
