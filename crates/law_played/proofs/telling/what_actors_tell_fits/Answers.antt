use Rattle.law_played.proofs.ShownFits.{fits}
use Rattle.law_played.proofs.telling.what_actors_tell_fits.Goals as goal

pub returns : goal.returns
returns g c = λ told.
    let actors = told.actors in
    fits actors.scene actors.ofs actors.home actors.view told.shows told.limits actors.are told.signals told.calls told.arrivals told.tells
    told.draws told.vsyncs told.commits told.frames told.held told.stuck
