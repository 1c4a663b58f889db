use Rattle.law_rights.proofs.OlderLemmas.{tells_older}
use Rattle.law_rights.proofs.older.an_earlier_turn_is_an_older_draw.Goals as goal

pub returns : goal.returns
returns g c = λ looked.
    let standing = looked.known.standing in
    tells_older standing.pictures standing.buffers standing.now.home standing.now.view standing.now.ofs standing.now.handler standing.stands standing.keep looked.known.knows looked.scene looked.home looked.view looked.actors looked.makers
    looked.alone.first looked.alone.none_out
