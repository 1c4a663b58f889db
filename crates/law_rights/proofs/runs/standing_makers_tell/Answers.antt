use Rattle.law_rights.proofs.MakersPlayed.{looked_older, looked_tell, standing_tell}
use Rattle.law_rights.proofs.runs.standing_makers_tell.Goals as goal

pub returns-clause-now : goal.returns-clause-now
returns-clause-now g c = λ run. standing_tell run.scene run.now.home run.now.ofs run.now.view run.now.handler run.buffers run.stands run.makers

pub returns-clause-looked : goal.returns-clause-looked
returns-clause-looked g c = λ run desk.
    looked_tell run.scene run.now.home run.now.ofs run.now.view run.now.handler run.buffers run.stands run.makers desk.home desk.view desk.marks desk.calls

pub returns-clause-older : goal.returns-clause-older
returns-clause-older g c = λ looked.
    let run = looked.made in
    looked_older run.scene run.now.home run.now.ofs run.now.view run.now.handler run.buffers run.stands run.makers looked.pictures looked.keep looked.knows
    looked.desk.home looked.desk.view looked.actors looked.desk.marks looked.desk.calls looked.alone.first looked.alone.none_out
