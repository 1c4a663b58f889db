use Rattle.law_played.proofs.ProgressLemmas.{goes_further}
use Rattle.law_played.proofs.handlers.a_vsync_is_told.Goals as goal

pub returns : goal.returns
returns g c = λ one wrote.
    goes_further g.L.Lease one.next.run.frame one.next.plain one.next.run.scene one.next.run.written one.next.run.arrivals one.next.run.vsyncs one.next.vsync.old one.next.vsync.new one.next.vsync.eye one.next.vsync.later one.next.vsync.arrived one.next.vsync.seen one.next.vsync.expected one.next.vsync.told one.next.come one.next.vsync.decides one.next.rises one.report one.says wrote
