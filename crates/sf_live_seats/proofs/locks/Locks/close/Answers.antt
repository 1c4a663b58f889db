use Rattle.std.proofs.Common.{◌≡◌, ◌∷◌, ◌∙◌, ap, subst, sym}
use Rattle.std.specs.Prelude.{Contains}
use Rattle.sf_actor.specs.Plain.{PlainOf}
use Rattle.sf_live_seats.specs.Arriving.{ArrivalsPass}
use Rattle.sf_live_seats.specs.Closing.{AreArrivalsClosed, AreClosed, Closes, IsLastAtArrivals, IsOrdered}
use Rattle.sf_live_seats.specs.First.{HasAll, IsFirst, gave_of}
use Rattle.sf_live_seats.specs.Seats.{whole_of}
use Rattle.sf_live_seats.specs.declared.first.FirstSeats.{FirstSeats}
use Rattle.sf_live_seats.specs.declared.seats.Seats.{Seats}
use Rattle.sf_live_seats.proofs.ClosedLocks.{IsLeft, all_last, closes, goes, last_arrivals, nobody, ordered, told_none}
use Rattle.sf_live_seats.proofs.ReunitedPass.{some_same}
use Rattle.sf_live_seats.proofs.PassTake.{there_first}
use Rattle.sf_live_seats.proofs.locks.Locks.close.Goals as goal

pub close_queues-requires : goal.close_queues-requires
close_queues-requires g c =
    let whole : Seats g.row.B.Denot = whole_of c.into_parts-passes.result in
    let first : FirstSeats g.row.B.Denot = record { seats = whole; took = c.args.first.took } in
    let same : c.args.first ≡ first = ap (λ (s : Seats g.row.B.Denot). let f : FirstSeats g.row.B.Denot = record { seats = s; took = c.args.first.took } in f) c.into_parts-passes.ensures in
    let is_first = subst (IsFirst g.B.TableName.table c.args.self) same c.requires.first in
    all_last g.B.TableName.table c.args.self first is_first (subst HasAll same c.requires.all)

pub unreachable-requires : goal.unreachable-requires
unreachable-requires g c =
    let whole : Seats g.row.B.Denot = whole_of c.into_parts-passes.result in
    let first : FirstSeats g.row.B.Denot = record { seats = whole; took = c.args.first.took } in
    let same : c.args.first ≡ first = ap (λ (s : Seats g.row.B.Denot). let f : FirstSeats g.row.B.Denot = record { seats = s; took = c.args.first.took } in f) c.into_parts-passes.ensures in
    let is_first = subst (IsFirst g.B.TableName.table c.args.self) same c.requires.first in
    (let f = sym c.in_default.is ∙ there_first g.B.TableName.table c.args.self whole is_first.own is_first.number in cc)

pub close_arrivals-arrivals-requires : goal.close_arrivals-arrivals-requires
close_arrivals-arrivals-requires g c =
    let whole : Seats g.row.B.Denot = whole_of c.into_parts-passes.result in
    let first : FirstSeats g.row.B.Denot = record { seats = whole; took = c.args.first.took } in
    let same : c.args.first ≡ first = ap (λ (s : Seats g.row.B.Denot). let f : FirstSeats g.row.B.Denot = record { seats = s; took = c.args.first.took } in f) c.into_parts-passes.ensures in
    let is_first = subst (IsFirst g.B.TableName.table c.args.self) same c.requires.first in
    let is : c.in-Some.pass ≡ whole.arrivals = some_same (sym c.in-Some.is ∙ there_first g.B.TableName.table c.args.self whole is_first.own is_first.number) in
    let last : IsLastAtArrivals c.args.self.arrivals whole.arrivals = record {
      own = is_first.own.own_arrivals;
      is_first = is_first.arrivals;
      took_all = last_arrivals g.B.TableName.table c.args.self first is_first (subst HasAll same c.requires.all);
    } in
    subst (λ (p : ArrivalsPass). IsLastAtArrivals c.args.self.arrivals p) (sym is) last

pub returns : goal.returns
returns g c =
    let whole : Seats g.row.B.Denot = whole_of c.into_parts-passes.result in
    let first : FirstSeats g.row.B.Denot = record { seats = whole; took = c.args.first.took } in
    let same : c.args.first ≡ first = ap (λ (s : Seats g.row.B.Denot). let f : FirstSeats g.row.B.Denot = record { seats = s; took = c.args.first.took } in f) c.into_parts-passes.ensures in
    let is_first = subst (IsFirst g.B.TableName.table c.args.self) same c.requires.first in
    let is : c.in-Some.pass ≡ whole.arrivals = some_same (sym c.in-Some.is ∙ there_first g.B.TableName.table c.args.self whole is_first.own is_first.number) in
    let closed = subst (λ (p : ArrivalsPass). AreArrivalsClosed p c.close_arrivals-arrivals.result) is c.close_arrivals-arrivals.ensures in
    let left : IsLeft c.args.self first c.new.result = record {
      queues = subst (λ (d : PlainOf g.row.B.Denot). AreClosed c.args.self.queues.items first.seats.queues.items d.queues) (sym c.new.ensures) c.in_ok-queues.ensures;
      arrivals = ap (λ (d : PlainOf g.row.B.Denot). d.arrivals) c.new.ensures ∙ closed.calls;
      rise = closed.rise;
      taken = closed.taken;
      callers = closed.callers;
      times = ap (λ (d : PlainOf g.row.B.Denot). d.times) c.new.ensures;
      turns = ap (λ (d : PlainOf g.row.B.Denot). d.turns) c.new.ensures;
      tells = ap (λ (d : PlainOf g.row.B.Denot). d.tells) c.new.ensures ∙ told_none _ _ c.is_none.ensures;
    } in
    record {
      closed = subst (λ (f : FirstSeats g.row.B.Denot). Closes c.args.self f c.new.result) (sym same) (closes g.B.TableName.table c.args.self first c.new.result is_first left);
      ordered = subst (λ (f : FirstSeats g.row.B.Denot). IsOrdered f) (sym same) (ordered g.B.TableName.table c.args.self first c.new.result is_first left);
      goes_on = goes g.B.TableName.table c.args.self first c.new.result is_first left;
      nobody = λ by not. nobody g.B.TableName.table c.args.self first c.new.result is_first left by
          (λ there. not (subst (λ (f : FirstSeats g.row.B.Denot). Contains (f.seats.by ∷ gave_of f) by) (sym same) there));
    }
