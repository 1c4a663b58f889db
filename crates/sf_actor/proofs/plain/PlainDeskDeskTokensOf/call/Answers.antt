use Rattle.std.proofs.Common.{true, ◌≡◌, subst, sym}
use Rattle.std.specs.Prelude.{IfOk}
use Rattle.sf_token.specs.sf_calls.Calling.{IfFaultNoMemory, IfFaultNotYet}
use Rattle.sf_actor.specs.Desks.{IsAsBefore, MadeCall, WaitsForCall, has_queue}
use Rattle.sf_actor.specs.Plain.{PlainOf, home_of, view_of}
use Rattle.sf_actor.proofs.PlainLemmas.{after_call, home_stays, if_made, if_no_memory, if_waits, no_queue, with_queue}
use Rattle.sf_actor.proofs.plain.PlainDeskDeskTokensOf.call.Goals as goal

pub unreachable-requires : goal.unreachable-requires
unreachable-requires g c =
    let desk : PlainOf g.row.B.Denot = record { queues = c.self.inside.queues.items; arrivals = c.self.inside.arrivals; times = c.self.inside.times; turns = c.self.inside.turns; tells = c.self.inside.tells } in
    let there : has_queue (home_of desk) c.args.queue.0 ≡ true = subst (λ (d : PlainOf g.row.B.Denot). has_queue (home_of d) c.args.queue.0 ≡ true) (sym c.self.view_is) c.requires.there in
    no_queue desk c.args.queue.0 c.deref.result.now c.index_of.result c.deref.ensures.value c.index_of.ensures c.in_default.is there

pub returns-clause-made : goal.returns-clause-made
returns-clause-made g c =
    let desk : PlainOf g.row.B.Denot = record { queues = c.self.inside.queues.items; arrivals = c.self.inside.arrivals; times = c.self.inside.times; turns = c.self.inside.turns; tells = c.self.inside.tells } in
    let one = c.index_mut.result.now in
    let next = c.call_on.new.object in
    let after = after_call desk c.args.queue.0 c.in-Some.place c.deref.result.now c.index_of.result one next c.deref.ensures.value c.index_of.ensures c.in-Some.is c.index_mut.ensures.value c.call_on.ensures.mark c.call_on.ensures.legal in
    subst (λ (d : PlainOf g.row.B.Denot). IfOk c.call_on.result (MadeCall (home_of d) (view_of d) (view_of (with_queue desk c.in-Some.place next)) c.args.by.0 c.args.queue.0 (c.args.step, c.args.call))) c.self.view_is
    (if_made desk c.args.by.0 c.args.queue.0 c.in-Some.place (c.args.step, c.args.call) c.call_on.result one next after c.call_on.ensures.made)

pub returns-clause-not_yet : goal.returns-clause-not_yet
returns-clause-not_yet g c =
    let desk : PlainOf g.row.B.Denot = record { queues = c.self.inside.queues.items; arrivals = c.self.inside.arrivals; times = c.self.inside.times; turns = c.self.inside.turns; tells = c.self.inside.tells } in
    let one = c.index_mut.result.now in
    let next = c.call_on.new.object in
    let after = after_call desk c.args.queue.0 c.in-Some.place c.deref.result.now c.index_of.result one next c.deref.ensures.value c.index_of.ensures c.in-Some.is c.index_mut.ensures.value c.call_on.ensures.mark c.call_on.ensures.legal in
    subst (λ (d : PlainOf g.row.B.Denot). IfFaultNotYet c.call_on.result (λ back. (back ≡ c.args.call) × WaitsForCall (home_of d) (view_of d) (view_of (with_queue desk c.in-Some.place next)) c.args.by.0 c.args.queue.0 (c.args.step, c.args.call))) c.self.view_is
    (if_waits desk c.args.by.0 c.args.queue.0 c.in-Some.place (c.args.step, c.args.call) c.call_on.result one next after c.call_on.ensures.not_yet)

pub returns-clause-no_memory : goal.returns-clause-no_memory
returns-clause-no_memory g c =
    let desk : PlainOf g.row.B.Denot = record { queues = c.self.inside.queues.items; arrivals = c.self.inside.arrivals; times = c.self.inside.times; turns = c.self.inside.turns; tells = c.self.inside.tells } in
    let one = c.index_mut.result.now in
    let next = c.call_on.new.object in
    let after = after_call desk c.args.queue.0 c.in-Some.place c.deref.result.now c.index_of.result one next c.deref.ensures.value c.index_of.ensures c.in-Some.is c.index_mut.ensures.value c.call_on.ensures.mark c.call_on.ensures.legal in
    subst (λ (d : PlainOf g.row.B.Denot). IfFaultNoMemory c.call_on.result (λ back. (back ≡ c.args.call) × IsAsBefore (view_of d) (view_of (with_queue desk c.in-Some.place next)))) c.self.view_is
    (if_no_memory desk c.args.queue.0 c.in-Some.place c.args.call c.call_on.result one next after c.call_on.ensures.no_memory)

pub returns-clause-home : goal.returns-clause-home
returns-clause-home g c =
    let desk : PlainOf g.row.B.Denot = record { queues = c.self.inside.queues.items; arrivals = c.self.inside.arrivals; times = c.self.inside.times; turns = c.self.inside.turns; tells = c.self.inside.tells } in
    let one = c.index_mut.result.now in
    let next = c.call_on.new.object in
    let after = after_call desk c.args.queue.0 c.in-Some.place c.deref.result.now c.index_of.result one next c.deref.ensures.value c.index_of.ensures c.in-Some.is c.index_mut.ensures.value c.call_on.ensures.mark c.call_on.ensures.legal in
    subst (λ (d : PlainOf g.row.B.Denot). home_of (with_queue desk c.in-Some.place next) ≡ home_of d) c.self.view_is (home_stays desk c.args.queue.0 c.in-Some.place one next after)
