use Rattle.law_draws.proofs.JoinedDraws.{draws_stand}
use Rattle.law_draws.proofs.laws.rights_that_stand_in_the_end_tell.Goals as goal

pub returns-clause-makers : goal.returns-clause-makers
returns-clause-makers g c = λ scene now rights. rights.makers

pub returns-clause-draws : goal.returns-clause-draws
returns-clause-draws g c = λ run limits rights.
    let standing = run.known.standing in
    draws_stand run.scene standing.now.ofs standing.now.home standing.now.view limits run.actors standing.pictures standing.buffers standing.now.handler standing.stands standing.keep run.known.knows rights.placed
