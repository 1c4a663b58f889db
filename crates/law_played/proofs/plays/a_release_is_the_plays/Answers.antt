use Rattle.law_played.proofs.NextStep.{desk_release}
use Rattle.law_played.proofs.plays.a_release_is_the_plays.Goals as goal

pub returns : goal.returns
returns g c = λ given.
    desk_release given.scene given.ofs given.home given.before given.after given.marks given.queue given.vsync given.lease given.fence given.reply given.one
    given.exact given.declared given.own given.leased given.fenced given.made
