use Rattle.law_threads.proofs.RightsOfEvents.{comes_rights}
use Rattle.law_threads.proofs.rights.a_done_try_leaves_rights_standing.Goals as goal

pub returns : goal.returns
returns g c = λ of.
    let done = of.done in
    let run = done.run in
    comes_rights of.scene run.whole of.declared run.pictures run.home run.marks run.apart of.legal run.absent done.was done.is done.s done.before done.after done.old done.new done.came_to
    done.tries of.begins done.begins
