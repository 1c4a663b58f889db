use Rattle.std.proofs.Common.{◌≡◌, ℕ, ◌+◌, ◌*◌, ◌≤◌, ◌∙◌, ap, arith, refl, rules, subst, sym}
use Rattle.sf_live_threads.specs.sf_calls_stamped.Stamps.{unstamped}
use Rattle.sf_live_threads.specs.sf_surface.Tokens.{ReadLeaseOf}
use Rattle.sf_live_threads.specs.sf_commit.Handlers.{HandlerOf, last_of}
use Rattle.sf_live_threads.specs.sf_actor.Plain.{taken_in}
use Rattle.sf_play_write.specs.law_rights.Standing.{GiveAll}
use Rattle.sf_play_write.specs.sf_play.VsyncOver.{reported}
use Rattle.sf_live_threads.specs.sf_live_seats.declared.seats.Seats.{Seats}
use Rattle.sf_live_threads.specs.sf_live_seats.Arriving.{ArrivalsPass}
use Rattle.sf_live_threads.specs.sf_live_seats.Seats.{home_of, view_of}
use Rattle.sf_live_threads.proofs.sf_live_seats_lemmas.FirstSeatsKept.{stays_looked, stays_sent}
use Rattle.sf_live_threads.specs.sf_live_seats.Moves.{MadeLater}
use Rattle.sf_live_compositor.proofs.GivenBack.{makes_lent}
use Rattle.sf_live_compositor.proofs.SeatGrowth.{gave_all, stays_on}
use Rattle.sf_live_compositor.proofs.TakenNumbers.{take_rises}
use Rattle.sf_live_compositor.proofs.vsync.make_vsync.Goals as goal

pub vsync_over-requires : goal.vsync_over-requires
vsync_over-requires g c = record {
  stands = record { own = c.requires.own; first = c.requires.first };
  rising = λ looked seen sees took arrived takes.
      (take_rises c.args.handler.now.last looked.arrivals took.arrivals arrived takes.takes.took
      (subst (λ (p : ArrivalsPass). c.args.handler.now.last ≤ taken_in (unstamped p.seen)) (sym (ap (λ (s : Seats g.row.B.Denot). s.arrivals) sees.same)) c.requires.known)).rising;
  may = λ seen told after new decided n release low. tt;
}

pub returns-clause-makes : goal.returns-clause-makes
returns-clause-makes g c =
    let number = c.from.ensures in
    let made = c.in_ok-report.ensures.makes in
    let is_decided = made.decided in
    let by = is_decided.by in
    let looked = is_decided.looked in
    let took = by.took in
    let decided = made.mid in
    let after = c.vsync_over.new.desk in
    let gave = gave_all g.B.TableName.table c.args.locks.now (c.args.before + 1) made.told.releases decided after made.gives in
    let on =
    stays_on c.args.seats.now decided after
    (stays_on c.args.seats.now took decided (stays_on c.args.seats.now looked took is_decided.sees.stays (stays_sent looked took by.takes.changes))
    (stays_looked took decided by.same.same by.same.goes)) gave.stays in
    record {
      makes = λ was lent.
          makes_lent _ g.B.TableName.table c.args.locks.now c.args.period was (record { handler = c.args.handler.now; seats = c.args.seats.now; number = c.args.before })
          (record { handler = c.vsync_over.new.handler; seats = after; number = c.args.before + 1 }) _ lent (record {
            own = c.vsync_over.ensures.stands.own;
            caller = on.number;
            stays = on;
            counted = refl;
            seen = c.in_ok-report.field-0.report.seen;
            looked = looked;
            look = is_decided.sees.same;
            sees = is_decided.sees.sees;
            took = took;
            arrived = by.arrived;
            takes = by.takes.takes;
            changes = by.takes.changes;
            early = λ m there.
                let known = by.takes.own.in_order.step m there in
                let same = by.takes.takes.step in
                let looked_same = ap (λ (s : Seats g.row.B.Denot). s.last.step) is_decided.sees.same in
                omega (arith, known, same, looked_same, c.requires.early);
            arrivals = gave.arrivals ∙ ap (λ (s : Seats g.row.B.Denot). s.arrivals) by.same.same;
            expected = (c.args.before + 1) * c.args.period;
            due = refl;
            told = made.told;
            turns = decided.turns;
            decides = rw (← number) by.decides;
            gives =
                subst (λ (d : Seats g.row.B.Denot). GiveAll (home_of c.args.locks.now d) (c.args.before + 1) made.told.releases (view_of d) (view_of after)) by.same.same gave.gives;
            later = subst (λ (d : Seats g.row.B.Denot). MadeLater d after) by.same.same gave.later;
            last = subst (λ (d : Seats g.row.B.Denot). d.last.stamp ≤ after.last.stamp) by.same.same gave.last;
            same_turns = gave.turns;
            is = ap (λ (n : ℕ). reported (c.args.before + 1) (n * c.args.period) c.in_ok-report.field-0.report.seen made.told) (sym number) ∙ sym made.report;
          });
    }

pub returns-clause-known : goal.returns-clause-known
returns-clause-known g c =
    let made = c.in_ok-report.ensures.makes in
    let is_decided = made.decided in
    let by = is_decided.by in
    let gave = gave_all g.B.TableName.table c.args.locks.now (c.args.before + 1) made.told.releases made.mid c.vsync_over.new.desk made.gives in
    let rises =
    take_rises c.args.handler.now.last is_decided.looked.arrivals by.took.arrivals by.arrived by.takes.takes.took
    (subst (λ (p : ArrivalsPass). c.args.handler.now.last ≤ taken_in (unstamped p.seen)) (sym (ap (λ (s : Seats g.row.B.Denot). s.arrivals) is_decided.sees.same)) c.requires.known) in
    let arrivals : c.vsync_over.new.desk.arrivals ≡ by.took.arrivals = gave.arrivals ∙ ap (λ (s : Seats g.row.B.Denot). s.arrivals) by.same.same in
    let last : c.vsync_over.new.handler.last ≡ last_of c.args.handler.now.last by.arrived =
    ap (λ (h : HandlerOf ReadLeaseOf). h.last) by.decides.settled.state in
    subst (λ (p : ArrivalsPass). c.vsync_over.new.handler.last ≤ taken_in (unstamped p.seen)) (sym arrivals)
    (subst (λ (n : ℕ). n ≤ taken_in (unstamped by.took.arrivals.seen)) (sym last) rises.known)

pub returns-clause-early : goal.returns-clause-early
returns-clause-early g c =
    let made = c.in_ok-report.ensures.makes in
    let is_decided = made.decided in
    let by = is_decided.by in
    let gave = gave_all g.B.TableName.table c.args.locks.now (c.args.before + 1) made.told.releases made.mid c.vsync_over.new.desk made.gives in
    let same = by.takes.takes.step in
    let looked = ap (λ (s : Seats g.row.B.Denot). s.last.step) is_decided.sees.same in
    let decided = ap (λ (s : Seats g.row.B.Denot). s.last.step) by.same.same in
    gave.early (omega (arith, same, looked, decided, c.requires.early))

pub returns-clause-table : goal.returns-clause-table
returns-clause-table g c = c.vsync_over.ensures.stands.own.own_turns ∙ sym c.requires.own.own_turns

pub returns-in_err-report-clause-makes : goal.returns-in_err-report-clause-makes
returns-in_err-report-clause-makes g c = record { makes = λ was lent. search rules }

pub returns-in_err-report-clause-table : goal.returns-in_err-report-clause-table
returns-in_err-report-clause-table g c = c.vsync_over.ensures.stands.own.own_turns ∙ sym c.requires.own.own_turns
