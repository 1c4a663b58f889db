use Rattle.std.proofs.Common.{subst}
use Rattle.sf_play_report.specs.Stages.{ShowsOn}
use Rattle.sf_play_report.proofs.StageLemmas.{place_there}
use Rattle.sf_play_report.proofs.sourcing.source.Goals as goal

pub unwrap-requires : goal.unwrap-requires
unwrap-requires g c = place_there c.args.handler.now.on c.in-Buffer.shown c.source.result c.source.ensures.source (subst (ShowsOn c.args.handler.now.on) c.in-Buffer.is c.requires)
