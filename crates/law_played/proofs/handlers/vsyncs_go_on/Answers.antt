use Rattle.law_played.proofs.VsyncLemmas.{none_seen, seen_more, seen_silently, seen_too}
use Rattle.law_played.proofs.handlers.vsyncs_go_on.Goals as goal

pub returns-clause-none : goal.returns-clause-none
returns-clause-none c = none_seen

pub returns-clause-more : goal.returns-clause-more
returns-clause-more c = λ so report later has more. seen_more so.scene so.signals so.vsyncs so.number so.seen later report has more.greater more.rise more.tells

pub returns-clause-silent : goal.returns-clause-silent
returns-clause-silent c = λ so other later has above rise. seen_silently so.scene so.signals so.vsyncs so.number other so.seen later has above rise

pub returns-clause-signals : goal.returns-clause-signals
returns-clause-signals c = λ so others has among. seen_too so.scene so.signals others so.vsyncs so.number so.seen has among
