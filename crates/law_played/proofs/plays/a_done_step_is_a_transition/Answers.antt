use Rattle.law_played.proofs.NextStep.{desk_transition}
use Rattle.law_played.proofs.plays.a_done_step_is_a_transition.Goals as goal

pub returns : goal.returns
returns g c = λ done.
    desk_transition done.scene done.ofs done.home done.before done.after done.place done.old done.new done.reply done.reports done.vsyncs
    done.limits done.exact done.tells done.here done.does done.was done.is done.calls done.numbered done.first
