use Rattle.std.proofs.Common.{rules, ◌≡◌, None}
use Rattle.sf_slots.specs.declared.calls.PlainCall.TheVariants as call
use Rattle.sf_slots.specs.Effects.{disconnected}
use Rattle.sf_slots.specs.Queue.{told_of}
use Rattle.sf_slots.specs.Replies.{refusal_of}
use Rattle.sf_queue.proofs.HistoryLemmas.{disconnect_done}
use Rattle.sf_queue.proofs.connection.disconnect.Goals as goal

pub returns-clause-history : goal.returns-clause-history
returns-clause-history g c =
    let none : None ≡ refusal_of (told_of c.args.q.now) c.args.by call.Disconnect = search rules in
    let left : c.configure.new.self ≡ disconnected c.args.q.now = search rules in
    disconnect_done c.args.q.now c.configure.new.self c.args.by c.disconnect_refusal.ensures.sound none left
