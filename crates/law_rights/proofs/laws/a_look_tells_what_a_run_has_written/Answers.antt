use Rattle.law_rights.proofs.WrittenFrames.{all_written_is, look_is_written}
use Rattle.law_rights.proofs.laws.a_look_tells_what_a_run_has_written.Goals as goal

pub returns-clause-same : goal.returns-clause-same
returns-clause-same g c = λ scene now limits actors. all_written_is scene now.home now.view now.ofs now.handler limits actors

pub returns-clause-tells : goal.returns-clause-tells
returns-clause-tells g c = λ run lease limits was.
    let standing = run.known.standing in
    look_is_written run.scene standing.pictures standing.buffers standing.now.home standing.now.view standing.now.ofs standing.now.handler limits run.actors standing.stands standing.keep run.known.knows lease was
