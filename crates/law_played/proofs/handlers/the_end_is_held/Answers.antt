use Rattle.law_played.proofs.ProgressLemmas.{end_is_held}
use Rattle.law_played.proofs.handlers.the_end_is_held.Goals as goal

pub returns : goal.returns
returns g c = λ last.
    end_is_held g.L.Lease last.next.run.frame last.next.plain last.next.run.scene last.next.run.written last.next.run.arrivals last.next.run.vsyncs last.next.vsync.old last.next.vsync.new last.next.vsync.eye last.next.vsync.later last.next.vsync.arrived last.next.vsync.seen last.next.vsync.expected last.next.vsync.told last.next.come last.next.vsync.decides last.next.rises last.silent last.no_time last.shows
