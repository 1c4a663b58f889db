use Rattle.std.proofs.Common.{◌≡◌, ◌+◌, Some, arith, ◌∙◌, ap, subst, sym}
use Rattle.std.specs.Prelude.{IfErr, IfOk}
use Rattle.sf_live_seats.specs.declared.seats.Seats.{Seats}
use Rattle.sf_live_seats.specs.Arriving.{ArrivalsPass}
use Rattle.sf_live_seats.specs.Calls.{TookOne}
use Rattle.sf_live_seats.proofs.ReunitedPass.{some_same}
use Rattle.sf_live_seats.proofs.PassTake.{PassTakes, as_before_on, brings_as_before, brings_change, brought_below, changes_on, if_both, if_not, if_refused, takes_on, there_first, waiting_changes, waiting_own, waiting_stays, waiting_took}
use Rattle.sf_live_seats.proofs.seats.Seats.take.Goals as goal

pub returns-in_err-bring_in-clause-changes : goal.returns-in_err-bring_in-clause-changes
returns-in_err-bring_in-clause-changes g c = brings_change c.args.self.now c.bring_in.new.self c.bring_in.ensures.brings

pub returns-in_err-bring_in-clause-stays : goal.returns-in_err-bring_in-clause-stays
returns-in_err-bring_in-clause-stays g c = if_refused c.from_residual.result (brings_as_before c.args.self.now c.bring_in.new.self c.bring_in.ensures.brings)

pub returns-clause-own : goal.returns-clause-own
returns-clause-own g c =
    let seats = c.bring_in.new.self in
    let first = ap (λ (s : Seats g.row.B.Denot). s.by) c.bring_in.ensures.brings.same ∙ c.requires.first in
    let is : c.in-Some.pass ≡ seats.arrivals = some_same (sym c.in-Some.is ∙ there_first g.B.TableName.table c.args.locks.now seats c.bring_in.ensures.own first) in
    let made = c.take_one-taken.ensures in
    let takes : PassTakes c.in-Some.pass c.take_one-taken.new.seat seats.last c.take_one-taken.new.last =
    record { same = made.same; turns = made.turns; begins = made.begins; step = made.step; stamp = made.stamp; sends = made.sends } in
    let here = subst (λ (p : ArrivalsPass). PassTakes p c.take_one-taken.new.seat seats.last c.take_one-taken.new.last) is takes in
    waiting_own g.B.TableName.table c.args.locks.now seats c.take_one-taken.new.seat c.of.result c.take_one-taken.new.last c.bring_in.ensures.own first here c.of.ensures

pub returns-clause-changes : goal.returns-clause-changes
returns-clause-changes g c =
    let seats = c.bring_in.new.self in
    let first = ap (λ (s : Seats g.row.B.Denot). s.by) c.bring_in.ensures.brings.same ∙ c.requires.first in
    let is : c.in-Some.pass ≡ seats.arrivals = some_same (sym c.in-Some.is ∙ there_first g.B.TableName.table c.args.locks.now seats c.bring_in.ensures.own first) in
    let made = c.take_one-taken.ensures in
    let takes : PassTakes c.in-Some.pass c.take_one-taken.new.seat seats.last c.take_one-taken.new.last =
    record { same = made.same; turns = made.turns; begins = made.begins; step = made.step; stamp = made.stamp; sends = made.sends } in
    let here = subst (λ (p : ArrivalsPass). PassTakes p c.take_one-taken.new.seat seats.last c.take_one-taken.new.last) is takes in
    changes_on c.args.self.now seats _ (brings_change c.args.self.now seats c.bring_in.ensures.brings)
    (waiting_changes g.B.TableName.table c.args.locks.now seats c.take_one-taken.new.seat c.of.result c.take_one-taken.new.last c.bring_in.ensures.own first here c.of.ensures)

pub returns-clause-took : goal.returns-clause-took
returns-clause-took g c =
    let seats = c.bring_in.new.self in
    let first = ap (λ (s : Seats g.row.B.Denot). s.by) c.bring_in.ensures.brings.same ∙ c.requires.first in
    let is : c.in-Some.pass ≡ seats.arrivals = some_same (sym c.in-Some.is ∙ there_first g.B.TableName.table c.args.locks.now seats c.bring_in.ensures.own first) in
    let made = c.take_one-taken.ensures in
    let takes : PassTakes c.in-Some.pass c.take_one-taken.new.seat seats.last c.take_one-taken.new.last =
    record { same = made.same; turns = made.turns; begins = made.begins; step = made.step; stamp = made.stamp; sends = made.sends } in
    let here = subst (λ (p : ArrivalsPass). PassTakes p c.take_one-taken.new.seat seats.last c.take_one-taken.new.last) is takes in
    if_both _ _ _ c.take_one-taken.result
    (λ list took newest. takes_on c.args.self.now seats _ list.items c.bring_in.ensures.brings
    (waiting_took g.B.TableName.table c.args.locks.now seats c.take_one-taken.new.seat c.of.result c.take_one-taken.new.last c.bring_in.ensures.own first here c.of.ensures list.items took newest))
    (subst (λ (p : ArrivalsPass). IfOk c.take_one-taken.result (λ list. TookOne p c.take_one-taken.new.seat list.items)) is made.took) made.newest

pub returns-clause-stays : goal.returns-clause-stays
returns-clause-stays g c =
    let seats = c.bring_in.new.self in
    let first = ap (λ (s : Seats g.row.B.Denot). s.by) c.bring_in.ensures.brings.same ∙ c.requires.first in
    let is : c.in-Some.pass ≡ seats.arrivals = some_same (sym c.in-Some.is ∙ there_first g.B.TableName.table c.args.locks.now seats c.bring_in.ensures.own first) in
    let made = c.take_one-taken.ensures in
    let takes : PassTakes c.in-Some.pass c.take_one-taken.new.seat seats.last c.take_one-taken.new.last =
    record { same = made.same; turns = made.turns; begins = made.begins; step = made.step; stamp = made.stamp; sends = made.sends } in
    let here = subst (λ (p : ArrivalsPass). PassTakes p c.take_one-taken.new.seat seats.last c.take_one-taken.new.last) is takes in
    if_not _ _ c.take_one-taken.result
    (λ fault stays. as_before_on c.args.self.now seats (record seats { arrivals = c.of.result; pass = Some c.take_one-taken.new.seat; last = c.take_one-taken.new.last }) c.bring_in.ensures.brings
    (waiting_stays g.B.TableName.table c.args.locks.now seats c.take_one-taken.new.seat c.of.result c.take_one-taken.new.last c.bring_in.ensures.own first here c.of.ensures stays))
    (subst (λ (p : ArrivalsPass). IfErr c.take_one-taken.result (λ fault. c.take_one-taken.new.seat ≡ p)) is made.stays)

pub returns-clause-brought : goal.returns-clause-brought
returns-clause-brought g c =
    let seats = c.bring_in.new.self in
    let after = c.take_one-taken.new.last.stamp in
    let newest = c.take_one-taken.ensures.newest in
    if_both _ _ _ c.take_one-taken.result
    (λ list rose also. brought_below (seats.last.stamp + 1) after c.args.self.now.intake seats.intake (let up = rose.1 in omega (arith, up)) c.in_ok-bring_in.ensures.brought) newest newest
