use Rattle.law_played.proofs.ProgressLemmas.{vsync_of_play}
use Rattle.law_played.proofs.plays.a_vsync_is_the_next_of_a_play.Goals as goal

pub returns : goal.returns
returns g c = λ v.
    vsync_of_play g.L.Lease v.frame v.plain v.scene v.run v.number v.arrivals v.vsyncs v.old v.new v.eye v.later v.arrived v.told v.played v.decides v.rises v.shows
