use Rattle.std.proofs.Common.{◌≡◌, ◌==◌, ℕ, true, subst, sym}
use Rattle.std.proofs.lemmas.Bool.{eqb-true}
use Rattle.std.specs.Prelude.{IfOk}
use Rattle.sf_calls.specs.Calling.{IfFaultNoMemory, IfFaultNotYet}
use Rattle.sf_actor.specs.Desks.{IsAsBefore, MadeCall, WaitsForCall}
use Rattle.sf_live_seats.specs.Seats as seated
use Rattle.sf_live_seats.specs.Shared.{SharedOf, home_of, view_of}
use Rattle.sf_live_seats.proofs.shared.SharedDeskDeskTokensOf.call.Goals as goal

pub returns-clause-not_yet : goal.returns-clause-not_yet
returns-clause-not_yet g c =
    let seats = c.self.inside.seats in
    let desk : SharedOf g.row.B.Denot = record { locks = c.self.inside.locks.now; seats = seats } in
    let served : (c.args.by.0 == seats.by) ≡ true = subst (λ (d : SharedOf g.row.B.Denot). (home_of d).serves c.args.by.0 ≡ true) (sym c.self.view_is) c.requires.served in
    let by : c.args.by.0 ≡ seats.by = eqb-true c.args.by.0 seats.by served in
    subst (λ (d : SharedOf g.row.B.Denot). IfFaultNotYet c.call.result (λ back. (back ≡ c.args.call) × WaitsForCall (home_of d) (view_of d) (seated.view_of c.call.new.self) c.args.by.0 c.args.queue.0 (c.args.step, c.args.call))) c.self.view_is
    (subst (λ (b : ℕ). IfFaultNotYet c.call.result (λ back. (back ≡ c.args.call) × WaitsForCall (home_of desk) (view_of desk) (seated.view_of c.call.new.self) b c.args.queue.0 (c.args.step, c.args.call))) (sym by) c.call.ensures.not_yet)

pub returns-clause-no_memory : goal.returns-clause-no_memory
returns-clause-no_memory g c =
    subst (λ (d : SharedOf g.row.B.Denot). IfFaultNoMemory c.call.result (λ back. (back ≡ c.args.call) × IsAsBefore (view_of d) (seated.view_of c.call.new.self))) c.self.view_is c.call.ensures.no_memory

pub returns-clause-made : goal.returns-clause-made
returns-clause-made g c =
    let seats = c.self.inside.seats in
    let desk : SharedOf g.row.B.Denot = record { locks = c.self.inside.locks.now; seats = seats } in
    let served : (c.args.by.0 == seats.by) ≡ true = subst (λ (d : SharedOf g.row.B.Denot). (home_of d).serves c.args.by.0 ≡ true) (sym c.self.view_is) c.requires.served in
    let by : c.args.by.0 ≡ seats.by = eqb-true c.args.by.0 seats.by served in
    subst (λ (d : SharedOf g.row.B.Denot). IfOk c.call.result (MadeCall (home_of d) (view_of d) (seated.view_of c.call.new.self) c.args.by.0 c.args.queue.0 (c.args.step, c.args.call))) c.self.view_is
    (subst (λ (b : ℕ). IfOk c.call.result (MadeCall (home_of desk) (view_of desk) (seated.view_of c.call.new.self) b c.args.queue.0 (c.args.step, c.args.call))) (sym by) c.call.ensures.made)
