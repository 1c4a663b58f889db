use Rattle.law_rights.proofs.InTurnDraws.{enters_in_turn}
use Rattle.law_rights.proofs.turns.a_draw_that_enters_is_in_turn.Goals as goal

pub returns : goal.returns
returns g c = λ draw.
    let alone = draw.alone in
    let run = alone.run in
    let standing = run.known.standing in
    enters_in_turn run.scene standing.now.ofs standing.now.home standing.now.view draw.limits run.actors standing.pictures standing.buffers standing.now.handler standing.stands standing.keep run.known.knows alone.makers
    draw.of draw.there draw.held draw.named draw.may draw.at draw.later alone.only_seat.first alone.only_seat.none_out draw.after draw.enters
