use Rattle.std.proofs.Common.{◌≡◌, ℕ, List, length, take, refl, ap, ◌∙◌, arith}
use Rattle.std.proofs.Math.Seq.{take-length}
use Rattle.sf_base.specs.Points.{points_from}
use Rattle.sf_times.specs.Views.{SeatView}
use Rattle.sf_times.proofs.Sweep.{starts, goes_on, after_loads}
use Rattle.sf_times.proofs.seat.TimeSeat.see_all.Goals as goal

pub loop-i-init : goal.loop-i-init
loop-i-init c = starts _ _ refl

pub seen-requires-clause-own : goal.seen-requires-clause-own
seen-requires-clause-own c = ap (λ (v : SeatView). v.table) c.loop-i.invariant.now ∙ c.requires.own

pub loop-i-preserved : goal.loop-i-preserved
loop-i-preserved c = let e = c.seen.ensures in goes_on _ _ _ _ _ _ c.loop-i.invariant c.loop-i-test.true e.shown e.known e.signalled e.exact e.told

pub returns-clause-shown : goal.returns-clause-shown
returns-clause-shown c = let so = c.loop-i.invariant in let wide = so.wide in let e : c.loop-i.i ≡ length c.loop-i.values = omega arith in
    so.now ∙ ap (λ (ns : List ℕ). after_loads c.args.self.now (points_from 1 ns)) (ap (λ (z : ℕ). take z c.loop-i.values) e ∙ take-length c.loop-i.values)

pub returns-clause-known : goal.returns-clause-known
returns-clause-known c = λ t a b. c.loop-i.invariant.known t a (omega arith)

pub returns-clause-signalled : goal.returns-clause-signalled
returns-clause-signalled c = λ t a b. c.loop-i.invariant.signalled t a (omega arith)

pub returns-clause-exact : goal.returns-clause-exact
returns-clause-exact c = λ alone t a b. c.loop-i.invariant.exact alone t a (omega arith)

pub returns-clause-told : goal.returns-clause-told
returns-clause-told c = c.loop-i.invariant.told (omega arith)
