use Rattle.law_rights.proofs.FirstLemmas.{tells_first}
use Rattle.law_rights.proofs.firsts.an_older_draw_has_not_left.Goals as goal

pub returns : goal.returns
returns g c = λ alone.
    let run = alone.run in
    let standing = run.known.standing in
    tells_first run.scene standing.now.ofs standing.now.home standing.now.view run.actors standing.pictures standing.buffers standing.now.handler standing.stands standing.keep run.known.knows alone.makers
    alone.only_seat.first alone.only_seat.none_out
