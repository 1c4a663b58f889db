use Rattle.std.proofs.Common.{rules, ◌≡◌, None}
use Rattle.sf_slots.specs.declared.calls.PlainCall.TheVariants as call
use Rattle.sf_slots.specs.Effects.{nobody}
use Rattle.sf_slots.specs.Queue.{told_of}
use Rattle.sf_slots.specs.Replies.{refusal_of}
use Rattle.sf_consume.proofs.HistoryLemmas.{abandon_done}
use Rattle.sf_consume.proofs.limits.abandon.Goals as goal

pub returns-clause-history : goal.returns-clause-history
returns-clause-history g c =
    let none : None ≡ refusal_of (told_of c.args.q.now) nobody call.Abandon = search rules in
    abandon_done c.args.q.now c.abandon.new.self c.settings.ensures.sound none c.abandon.ensures
