use Rattle.law_rights.proofs.WaitingDraws.{short_owed}
use Rattle.law_rights.proofs.laws.a_short_draw_waits_for_what_is_owed.Goals as goal

pub returns : goal.returns
returns g c = λ draw.
    let standing = draw.known.standing in
    short_owed standing.pictures standing.buffers standing.now.home standing.now.view standing.now.ofs standing.now.handler standing.stands standing.keep draw.of draw.held draw.after draw.there draw.named draw.may
    draw.alone.first draw.alone.none_out draw.known.knows draw.short
