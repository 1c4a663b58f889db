use Rattle.law_played.proofs.ArrivedFrames.{show_as_queued}
use Rattle.law_played.proofs.actors.buffers_show_as_queued.Goals as goal

pub returns : goal.returns
returns g c = λ shown.
    let actors = shown.actors in
    show_as_queued actors.scene actors.ofs actors.home actors.view shown.histories shown.commits shown.tells shown.limits actors.are shown.calls shown.arrivals shown.traced shown.are shown.brought
