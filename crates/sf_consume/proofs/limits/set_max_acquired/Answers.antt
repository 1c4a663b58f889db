use Rattle.std.proofs.Common.{rules, ◌≡◌, None}
use Rattle.sf_slots.specs.declared.calls.PlainCall.TheVariants as call
use Rattle.sf_slots.specs.Effects.{nobody}
use Rattle.sf_slots.specs.Queue.{told_of, configured}
use Rattle.sf_slots.specs.Replies.{refusal_of}
use Rattle.sf_consume.proofs.HistoryLemmas.{max_acquired_done}
use Rattle.sf_consume.proofs.limits.set_max_acquired.Goals as goal

pub returns-clause-history : goal.returns-clause-history
returns-clause-history g c =
    let none : None ≡ refusal_of (told_of c.args.q.now) nobody (call.MaxAcquired c.args.n) = search rules in
    let left : c.configure.new.self ≡ configured c.args.q.now (record c.args.q.now.settings { max_acquired = c.args.n }) = search rules in
    max_acquired_done c.args.q.now c.configure.new.self c.args.n c.settings-settings.ensures.sound none left
