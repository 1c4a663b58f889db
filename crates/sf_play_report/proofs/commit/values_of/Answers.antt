use Rattle.std.proofs.Common.{◌∷◌, ◌++◌, [], List, map, take, ap, sym, ◌∙◌}
use Rattle.std.proofs.lemmas.List.{map_more, take_all}
use Rattle.law_played.specs.sf_record.declared.record.TimelineValue.{TimelineValue}
use Rattle.law_played.specs.Seeing.{value_shown}
use Rattle.sf_play_report.proofs.commit.values_of.Goals as goal

pub loop-timeline-preserved : goal.loop-timeline-preserved
loop-timeline-preserved c =
    let i = c.loop-timeline.timeline-index in
    c.in_ok-push.ensures.items
    ∙ (ap (λ (made : List TimelineValue). made ++ c.value_of.result ∷ []) c.loop-timeline.invariant
    ∙ (ap (λ (one : TimelineValue). map (value_shown c.args.seen.now) (take i c.args.timelines.now) ++ one ∷ []) c.value_of.ensures ∙ sym (map_more (value_shown c.args.seen.now) c.args.timelines.now i _ c.loop-timeline-test.true)))

pub returns : goal.returns
returns c = c.loop-timeline.invariant ∙ ap (map (value_shown c.args.seen.now)) (take_all c.loop-timeline.timeline-index c.args.timelines.now c.loop-timeline-test.false)
