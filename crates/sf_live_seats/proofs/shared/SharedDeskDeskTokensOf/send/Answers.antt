use Rattle.std.proofs.Common.{◌≡◌, ◌==◌, ℕ, true, subst, sym}
use Rattle.std.specs.Prelude.{IfOk}
use Rattle.std.proofs.lemmas.Bool.{eqb-true}
use Rattle.sf_actor.specs.Desks.{MadeSend}
use Rattle.sf_live_seats.specs.Seats as seated
use Rattle.sf_live_seats.specs.Shared.{SharedOf, home_of, view_of}
use Rattle.sf_live_seats.proofs.shared.SharedDeskDeskTokensOf.send.Goals as goal

pub returns-clause-sent : goal.returns-clause-sent
returns-clause-sent g c =
    let seats = c.self.inside.seats in
    let desk : SharedOf g.row.B.Denot = record { locks = c.self.inside.locks.now; seats = seats } in
    let served : (c.args.by.0 == seats.by) ≡ true = subst (λ (d : SharedOf g.row.B.Denot). (home_of d).serves c.args.by.0 ≡ true) (sym c.self.view_is) c.requires.served in
    let by : c.args.by.0 ≡ seats.by = eqb-true c.args.by.0 seats.by served in
    subst (λ (d : SharedOf g.row.B.Denot). IfOk c.send.result (MadeSend (home_of d) (view_of d) (seated.view_of c.send.new.self) c.args.by.0 c.args.step c.args.txn)) c.self.view_is
    (subst (λ (b : ℕ). IfOk c.send.result (MadeSend (home_of desk) (view_of desk) (seated.view_of c.send.new.self) b c.args.step c.args.txn)) (sym by) c.send.ensures.sent)
