use Rattle.law_played.proofs.ProgressLemmas.{goes_silently, releases_nothing, tells_no_more}
use Rattle.law_played.proofs.handlers.a_silent_vsync_is_told.Goals as goal

pub returns-clause-come : goal.returns-clause-come
returns-clause-come g c = λ next silent.
    goes_silently g.L.Lease next.run.frame next.plain next.run.scene next.run.written next.run.arrivals next.run.vsyncs next.vsync.old next.vsync.new next.vsync.eye next.vsync.later next.vsync.arrived next.vsync.seen next.vsync.expected next.vsync.told next.come next.vsync.decides next.rises silent

pub returns-clause-told : goal.returns-clause-told
returns-clause-told g c = λ next silent.
    tells_no_more g.L.Lease next.run.frame next.plain next.run.scene next.run.written next.run.arrivals next.run.vsyncs next.vsync.old next.vsync.new next.vsync.eye next.vsync.later next.vsync.arrived next.vsync.seen next.vsync.expected next.vsync.told next.come next.vsync.decides next.rises silent

pub returns-clause-releases : goal.returns-clause-releases
returns-clause-releases g c = λ next silent.
    releases_nothing g.L.Lease next.run.frame next.plain next.run.scene next.run.written next.run.arrivals next.run.vsyncs next.vsync.old next.vsync.new next.vsync.eye next.vsync.later next.vsync.arrived next.vsync.seen next.vsync.expected next.vsync.told next.come next.vsync.decides next.rises silent
