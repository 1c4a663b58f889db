use Rattle.sf_play_report.proofs.StageLemmas.{sources_more}
use Rattle.sf_play_report.proofs.sourcing.sources.Goals as goal

pub loop-one-preserved : goal.loop-one-preserved
loop-one-preserved g c =
    sources_more c.args.handler.now.on c.args.drawn.now c.loop-one.one-index _ c.loop-one.sources.items c.push.new.self.items c.source.result c.loop-one-test.true c.loop-one.invariant c.source.ensures c.in_ok-push.ensures.items
