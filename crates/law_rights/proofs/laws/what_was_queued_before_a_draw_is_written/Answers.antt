use Rattle.law_rights.proofs.EarlierWrites.{enters_last}
use Rattle.law_rights.proofs.laws.what_was_queued_before_a_draw_is_written.Goals as goal

pub returns : goal.returns
returns g c = λ draw.
    let standing = draw.known.standing in
    enters_last standing.pictures standing.buffers standing.now.home standing.now.view standing.now.ofs standing.now.handler standing.stands standing.keep draw.known.knows draw.of draw.there draw.place draw.entered
