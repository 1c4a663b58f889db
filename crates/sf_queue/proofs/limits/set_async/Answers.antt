use Rattle.std.proofs.Common.{rules, ◌≡◌, None}
use Rattle.sf_slots.specs.declared.calls.PlainCall.TheVariants as call
use Rattle.sf_slots.specs.Effects.{nobody}
use Rattle.sf_slots.specs.Queue.{told_of, configured}
use Rattle.sf_slots.specs.Replies.{refusal_of}
use Rattle.sf_queue.proofs.HistoryLemmas.{async_done}
use Rattle.sf_queue.proofs.limits.set_async.Goals as goal

pub returns-clause-history : goal.returns-clause-history
returns-clause-history g c =
    let none : None ≡ refusal_of (told_of c.args.q.now) nobody (call.Async c.args.on) = search rules in
    let left : c.configure.new.self ≡ configured c.args.q.now (record c.args.q.now.settings { asynchronous = c.args.on }) = search rules in
    async_done c.args.q.now c.configure.new.self c.args.on c.settings-settings.ensures.sound none left
