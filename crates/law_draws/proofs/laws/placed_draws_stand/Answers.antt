use Rattle.law_draws.proofs.JoinedDraws.{draws_stand}
use Rattle.law_draws.proofs.laws.placed_draws_stand.Goals as goal

pub returns : goal.returns
returns g c = λ run limits placed.
    let standing = run.known.standing in
    draws_stand run.scene standing.now.ofs standing.now.home standing.now.view limits run.actors standing.pictures standing.buffers standing.now.handler standing.stands standing.keep run.known.knows placed
