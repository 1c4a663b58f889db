use Rattle.std.proofs.Common.{◌≡◌, ◌∙◌, List, Some, ap, ap₂, arith, length, refl, subst, sym}
use Rattle.std.specs.List.{AllByRecursion, AllZip}
use Rattle.std.specs.Vec.{with_items}
use Rattle.std.proofs.Math.Nat.{le-max_left}
use Rattle.std.proofs.lemmas.List.{with_items_is}
use Rattle.sf_live_seats.specs.declared.first.FirstSeats.{FirstSeats}
use Rattle.sf_live_seats.specs.declared.locks.QueueLock.{QueueLock}
use Rattle.sf_live_seats.specs.First.{Meets, gave_of}
use Rattle.sf_calls.specs.Histories.{GoesOnWithout}
use Rattle.sf_calls.specs.Passes.{met}
use Rattle.sf_live_seats.specs.Arriving.{ArrivalsPass}
use Rattle.sf_live_seats.specs.Passes.{IsAt, IsFirstPass, KeepsOwn, all_met}
use Rattle.sf_live_seats.specs.Seats.{AreWhole, IsPassOf, QueuePass, whole_of}
use Rattle.sf_live_seats.specs.declared.seats.Seats.{Seats}
use Rattle.sf_live_seats.proofs.GivenSeats.{at_locks}
use Rattle.sf_live_seats.proofs.SeatsTakenIn.{IsMet, first_after, first_passes, meets_after, met_long, one_longer, took_one}
use Rattle.sf_live_seats.proofs.QueuePass.{as_long}
use Rattle.sf_live_seats.proofs.ReunitedPass.{some_same}
use Rattle.sf_live_seats.proofs.PassTake.{there_first}
use Rattle.sf_live_seats.proofs.first.FirstSeats.meet.Goals as goal

pub meet_passes-requires-clause-own : goal.meet_passes-requires-clause-own
meet_passes-requires-clause-own g c =
    let first = c.args.self.now in
    subst (λ (ls : List (QueueLock g.row.B.Denot)). AllZip IsAt ls c.deref_mut.result.now) (sym c.deref.ensures.value)
    (subst (λ (ps : List (QueuePass g.row.B.Denot)). AllZip IsAt c.args.locks.now.queues.items ps) (sym c.deref_mut.ensures.value)
    (at_locks first.seats.by c.args.locks.now.queues.items first.seats.queues.items c.requires.first.own.queues))

pub meet_passes-requires-clause-theirs : goal.meet_passes-requires-clause-theirs
meet_passes-requires-clause-theirs g c =
    let seats : Seats g.row.B.Denot = whole_of c.into_parts-queues.result in
    let theirs = subst (AreWhole g.B.TableName.table c.args.locks.now) c.into_parts-queues.ensures c.requires.theirs in
    subst (λ (ls : List (QueueLock g.row.B.Denot)). AllZip IsAt ls seats.queues.items) (sym c.deref.ensures.value)
    (at_locks seats.by c.args.locks.now.queues.items seats.queues.items theirs.queues)

pub meet_passes-requires-clause-long : goal.meet_passes-requires-clause-long
meet_passes-requires-clause-long g c =
    let first = c.args.self.now in
    let seats : Seats g.row.B.Denot = whole_of c.into_parts-queues.result in
    let theirs = subst (AreWhole g.B.TableName.table c.args.locks.now) c.into_parts-queues.ensures c.requires.theirs in
    let a = ap (λ (ls : List (QueueLock g.row.B.Denot)). length ls) c.deref.ensures.value in
    let b = as_long (IsPassOf first.seats.by) c.args.locks.now.queues.items first.seats.queues.items c.requires.first.own.queues in
    let d = ap (λ (ps : List (QueuePass g.row.B.Denot)). length ps) c.deref_mut.ensures.value in
    let e = as_long (IsPassOf seats.by) c.args.locks.now.queues.items seats.queues.items theirs.queues in
    let many = seats.queues.ok.0 in
    (omega (arith, a, b, d), omega (arith, many, b, d, e))

pub meet_passes-requires-clause-first : goal.meet_passes-requires-clause-first
meet_passes-requires-clause-first g c =
    let first = c.args.self.now in
    subst (λ (ps : List (QueuePass g.row.B.Denot)). AllByRecursion IsFirstPass ps) (sym c.deref_mut.ensures.value)
    (first_passes (gave_of first) first.seats.queues.items c.requires.first.queues)

pub unreachable-requires : goal.unreachable-requires
unreachable-requires g c =
    let theirs = subst (AreWhole g.B.TableName.table c.args.locks.now) c.into_parts-queues.ensures c.requires.theirs in
    (let f = sym c.in_default.is ∙ theirs.pass in cc)

pub unreachable-requires-in_default-pass : goal.unreachable-requires-in_default-pass
unreachable-requires-in_default-pass g c =
    (let f = sym c.in_default-pass.is ∙ there_first g.B.TableName.table c.args.locks.now c.args.self.now.seats c.requires.first.own c.requires.first.number in cc)

pub meet-requires : goal.meet-requires
meet-requires g c =
    let old = c.args.self.now in
    let seats : Seats g.row.B.Denot = whole_of c.into_parts-queues.result in
    let theirs = subst (AreWhole g.B.TableName.table c.args.locks.now) c.into_parts-queues.ensures c.requires.theirs in
    let is : c.in-Some-pass.first_pass ≡ old.seats.arrivals = some_same (sym c.in-Some-pass.is ∙ there_first g.B.TableName.table c.args.locks.now old.seats c.requires.first.own c.requires.first.number) in
    let theirs_is : c.in-Some.pass ≡ seats.arrivals = some_same (sym c.in-Some.is ∙ theirs.pass) in
    record {
      own = ap (λ (p : ArrivalsPass). p.table) is ∙ c.requires.first.own.own_arrivals;
      theirs = ap (λ (p : ArrivalsPass). p.table) theirs_is ∙ theirs.own_arrivals;
      first = ap (λ (p : ArrivalsPass). p.is_first) is ∙ c.requires.first.arrivals;
    }

pub returns : goal.returns
returns g c =
    let old = c.args.self.now in
    let seats : Seats g.row.B.Denot = whole_of c.into_parts-queues.result in
    let theirs = subst (AreWhole g.B.TableName.table c.args.locks.now) c.into_parts-queues.ensures c.requires.theirs in
    let is : c.in-Some-pass.first_pass ≡ old.seats.arrivals = some_same (sym c.in-Some-pass.is ∙ there_first g.B.TableName.table c.args.locks.now old.seats c.requires.first.own c.requires.first.number) in
    let theirs_is : c.in-Some.pass ≡ seats.arrivals = some_same (sym c.in-Some.is ∙ theirs.pass) in
    let new : FirstSeats g.row.B.Denot = record {
      seats = record {
        by = old.seats.by;
        last = record { step = old.seats.last.step; stamp = c.max-first.result };
        queues = with_items old.seats.queues c.meet_passes.new.firsts;
        arrivals = c.of.result;
        pass = Some c.meet.new.self;
        intake = old.seats.intake;
        times = c.join.new.self;
        turns = c.join-2.new.self;
      };
      took = c.push.new.self;
    } in
    let passes_met = c.meet_passes.ensures.met ∙ ap (λ (ps : List (QueuePass g.row.B.Denot)). all_met ps seats.queues.items) c.deref_mut.ensures.value in
    let many = old.seats.queues.ok.0 in
    let long = ap (λ (ps : List (QueuePass g.row.B.Denot)). length ps) passes_met ∙ met_long old.seats.queues.items seats.queues.items in
    let whole = with_items_is old.seats.queues c.meet_passes.new.firsts (omega (arith, many, long)) in
    let own = subst (λ (ps : List (QueuePass g.row.B.Denot)). AllZip KeepsOwn ps c.meet_passes.new.firsts) c.deref_mut.ensures.value c.meet_passes.ensures.own_calls in
    let pushed = c.in_ok-push.ensures.items in
    let m : IsMet seats old new = record {
      took = took_one old.took.items c.push.new.self.items c.of-kept.result seats pushed (c.of-kept.ensures ∙ c.into_parts-queues.ensures);
      many = one_longer old.took.items c.push.new.self.items c.of-kept.result pushed;
      number = refl;
      step = refl;
      stamp = (let a = c.max-first.ensures in let b = le-max_left old.seats.last.stamp seats.last.stamp in omega (arith, a, b));
      queues = whole ∙ passes_met;
      own_calls = subst (λ (ps : List (QueuePass g.row.B.Denot)). AllZip KeepsOwn old.seats.queues.items ps) (sym whole) own;
      arrivals = c.of.ensures ∙ c.meet.ensures.both ∙ ap₂ (λ (p q : ArrivalsPass). met p q) is theirs_is;
      own_arrivals =
          subst (λ (p : ArrivalsPass). GoesOnWithout old.seats.arrivals.by old.seats.arrivals.seen p.seen) (sym c.of.ensures)
          (subst (λ (p : ArrivalsPass). GoesOnWithout p.by p.seen c.meet.new.self.seen) is (record { begins = c.meet.ensures.begins; calls = c.meet.ensures.own_calls }));
      pass = ap (λ (p : ArrivalsPass). Some p) (sym c.of.ensures);
      intake = refl;
      times = c.join.ensures.both;
      turns = c.join-2.ensures.both;
    } in
    record {
      first = first_after g.B.TableName.table c.args.locks.now seats old new c.requires.first theirs m c.requires.out;
      meets = subst (λ (s : Seats g.row.B.Denot). Meets s old new) (sym c.into_parts-queues.ensures) (meets_after g.B.TableName.table c.args.locks.now seats old new c.requires.first theirs m);
    }
