use Rattle.std.proofs.Common.{◌≡◌, ℕ, ◌∷◌, List, Some, ◌∙◌, ap, arith, length, refl, subst, sym}
use Rattle.std.specs.Prelude.{map, Contains}
use Rattle.std.specs.List.{AllByRecursion, AllZip}
use Rattle.std.specs.Vec.{with_items}
use Rattle.std.proofs.lemmas.List.{length-map, with_items_is}
use Rattle.sf_calls.specs.Passes.{given, giving}
use Rattle.sf_live_seats.specs.declared.first.FirstSeats.{FirstSeats}
use Rattle.sf_live_seats.specs.declared.locks.QueueLock.{QueueLock}
use Rattle.sf_live_seats.specs.declared.seats.Seats.{Seats}
use Rattle.sf_live_seats.specs.Arriving.{ArrivalsPass}
use Rattle.sf_live_seats.specs.First.{HandsOut, gave_of}
use Rattle.sf_live_seats.specs.Passes.{IsAt, MayGive}
use Rattle.sf_live_seats.specs.Seats.{IsPassOf, QueuePass}
use Rattle.sf_live_seats.proofs.GivenSeats.{IsSplit, at_locks, first_after, given_is, gives_after, may_give, seats_given}
use Rattle.sf_live_seats.proofs.IntakeHands.{may_hand}
use Rattle.sf_live_seats.proofs.QueuePass.{as_long}
use Rattle.sf_live_seats.proofs.ReunitedPass.{some_same}
use Rattle.sf_live_seats.proofs.PassTake.{there_first}
use Rattle.sf_live_seats.proofs.first.FirstSeats.split.Goals as goal

pub split_passes-requires-clause-own : goal.split_passes-requires-clause-own
split_passes-requires-clause-own g c =
    let first = c.args.self.now in
    subst (λ (ls : List (QueueLock g.row.B.Denot)). AllZip IsAt ls c.deref_mut.result.now) (sym c.deref.ensures.value)
    (subst (λ (ps : List (QueuePass g.row.B.Denot)). AllZip IsAt c.args.locks.now.queues.items ps) (sym c.deref_mut.ensures.value)
    (at_locks first.seats.by c.args.locks.now.queues.items first.seats.queues.items c.requires.first.own.queues))

pub split_passes-requires-clause-long : goal.split_passes-requires-clause-long
split_passes-requires-clause-long g c =
    let first = c.args.self.now in
    ap (λ (ls : List (QueueLock g.row.B.Denot)). length ls) c.deref.ensures.value
    ∙ sym (as_long (IsPassOf first.seats.by) c.args.locks.now.queues.items first.seats.queues.items c.requires.first.own.queues)
    ∙ sym (ap (λ (ps : List (QueuePass g.row.B.Denot)). length ps) c.deref_mut.ensures.value)

pub split_passes-requires-clause-first : goal.split_passes-requires-clause-first
split_passes-requires-clause-first g c =
    subst (λ (ps : List (QueuePass g.row.B.Denot)). AllByRecursion (MayGive c.args.by) ps) (sym c.deref_mut.ensures.value)
    (may_give c.args.by g.B.TableName.table c.args.locks.now c.args.self.now c.requires.first c.requires.fresh)

pub unreachable-requires : goal.unreachable-requires
unreachable-requires g c =
    (let f = sym c.in_default.is ∙ there_first g.B.TableName.table c.args.locks.now c.args.self.now.seats c.requires.first.own c.requires.first.number in cc)

pub split-pass-requires : goal.split-pass-requires
split-pass-requires g c =
    let first = c.args.self.now in
    let is : c.in-Some.first_pass ≡ first.seats.arrivals = some_same (sym c.in-Some.is ∙ there_first g.B.TableName.table c.args.locks.now first.seats c.requires.first.own c.requires.first.number) in
    record {
      own = ap (λ (p : ArrivalsPass). p.table) is ∙ c.requires.first.own.own_arrivals;
      first = ap (λ (p : ArrivalsPass). p.is_first) is ∙ c.requires.first.arrivals;
      fresh = λ there. c.requires.fresh (subst (λ (n : ℕ). Contains (n ∷ gave_of first) c.args.by) c.requires.first.own.number (subst (λ (p : ArrivalsPass). Contains (p.by ∷ p.gave) c.args.by) is there));
    }

pub hand_out-requires : goal.hand_out-requires
hand_out-requires g c =
    let seats = c.args.self.now.seats in
    record { may = may_hand c.args.locks.now seats.by c.args.by seats.arrivals.gave seats.last seats.intake c.requires.first.number c.requires.unused.unfinished c.requires.fresh c.requires.first.own.way }

pub returns : goal.returns
returns g c =
    let new : FirstSeats g.row.B.Denot = record {
      seats = record {
        by = c.args.self.now.seats.by;
        last = c.args.self.now.seats.last;
        queues = with_items c.args.self.now.seats.queues c.split_passes.new.firsts;
        arrivals = c.of.result;
        pass = Some c.split-pass.new.self;
        intake = c.hand_out.new.first;
        times = c.split-2.new.self;
        turns = c.split.new.self;
      };
      took = c.args.self.now.took;
    } in
    let seats : Seats g.row.B.Denot = record {
      by = c.args.by;
      last = record { step = 0; stamp = c.args.self.now.seats.last.stamp };
      queues = c.in_ok-queues.queues;
      arrivals = c.of-arrivals.result;
      pass = c.in_ok-pass.pass;
      intake = c.in_ok-pass.intake;
      times = c.split-2.result;
      turns = c.in_ok-turns.turns;
    } in
    let old = c.args.self.now in
    let is : c.in-Some.first_pass ≡ old.seats.arrivals = some_same (sym c.in-Some.is ∙ there_first g.B.TableName.table c.args.locks.now old.seats c.requires.first.own c.requires.first.number) in
    let gives = c.in_ok-queues.ensures.gives ∙ ap (map (giving c.args.by)) c.deref_mut.ensures.value in
    let many = old.seats.queues.ok.0 in
    let long = ap (λ (ps : List (QueuePass g.row.B.Denot)). length ps) gives ∙ length-map old.seats.queues.items (giving c.args.by) in
    let whole = with_items_is old.seats.queues c.split_passes.new.firsts (omega (arith, many, long)) in
    let s : IsSplit c.args.by old new seats = record {
      took = refl;
      number = refl;
      last = refl;
      queues = whole ∙ gives;
      arrivals = c.of.ensures ∙ c.split-pass.ensures.kept ∙ ap (λ (p : ArrivalsPass). giving c.args.by p) is;
      pass = ap (λ (p : ArrivalsPass). Some p) (sym c.of.ensures);
      hands =
          subst (λ (p : ArrivalsPass). HandsOut c.args.by p old.seats.intake new.seats.intake seats.pass seats.intake) (sym c.of-arrivals.ensures)
          c.in_ok-pass.ensures;
      times = c.split-2.ensures.kept;
      turns = c.in_ok-turns.ensures.ok.0;
      given_number = refl;
      given_queues = c.in_ok-queues.ensures.given ∙ ap (map (given c.args.by)) c.deref_mut.ensures.value;
      given_arrivals = c.of-arrivals.ensures ∙ c.split-pass.ensures.given ∙ ap (λ (p : ArrivalsPass). given c.args.by p) is;
      given_times = c.split-2.ensures.given;
      given_turns = c.in_ok-turns.ensures.ok.1;
    } in
    record {
      first = first_after c.args.by g.B.TableName.table c.args.locks.now old new seats c.requires.first c.requires.fresh c.requires.unused s;
      gives = gives_after c.args.by g.B.TableName.table c.args.locks.now old new seats c.requires.first c.requires.fresh c.requires.unused s;
      seats = seats_given c.args.by g.B.TableName.table c.args.locks.now old new seats c.requires.first c.requires.fresh c.requires.unused s;
      given = given_is c.args.by g.B.TableName.table c.args.locks.now old new seats c.requires.first c.requires.fresh c.requires.unused s;
    }
