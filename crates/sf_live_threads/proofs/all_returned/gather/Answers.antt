use Rattle.std.proofs.Common.{◌+◌, ◌≤◌, ◌∙◌, List, ap, arith, length, subst, sym}
use Rattle.std.specs.List.{AllByRecursion, AllZip}
use Rattle.std.proofs.lemmas.List.{length-map, with_items_is}
use Rattle.sf_live_seats.specs.declared.seats.Seats.{Seats}
use Rattle.sf_live_seats.specs.First.{gave_of}
use Rattle.sf_live_seats.specs.Reuniting.{Reunites}
use Rattle.sf_live_seats.specs.Seats.{AreWhole, MaySend}
use Rattle.sf_live_threads.specs.Meeting.{MeetsEach, seats_of}
use Rattle.sf_live_threads.proofs.MeetLemmas.{still_room}
use Rattle.sf_live_threads.proofs.Zips.{zip_long}
use Rattle.sf_live_threads.proofs.all_returned.gather.Goals as goal

pub finish-requires-clause-theirs : goal.finish-requires-clause-theirs
finish-requires-clause-theirs g c =
    subst (λ (ends : List (Seats g.row.B.Denot)). AllByRecursion (MaySend g.B.TableName.table c.args.locks.now) ends) (sym (c.deref_mut.ensures.value ∙ c.in_ok-returned.ensures.ends)) c.requires.theirs

pub meet_each-requires-clause-theirs : goal.meet_each-requires-clause-theirs
meet_each-requires-clause-theirs g c =
    let long = zip_long (Reunites c.args.locks.now) c.deref_mut.result.now c.finish.new.ends c.in_ok-finish.ensures.reunites in
    let same = ap (λ (ends : List (Seats g.row.B.Denot)). length ends) c.deref_mut.ensures.value in
    let whole = with_items_is c.in_ok-returned.ends c.finish.new.ends (let many = c.in_ok-returned.ends.ok.0 in omega (arith, many, long, same)) in
    subst (λ (ends : List (Seats g.row.B.Denot)). AllByRecursion (AreWhole g.B.TableName.table c.args.locks.now) ends) (sym whole) c.in_ok-finish.ensures.whole

pub meet_each-requires-clause-out : goal.meet_each-requires-clause-out
meet_each-requires-clause-out g c =
    let long = zip_long (Reunites c.args.locks.now) c.deref_mut.result.now c.finish.new.ends c.in_ok-finish.ensures.reunites in
    let same = ap (λ (ends : List (Seats g.row.B.Denot)). length ends) c.deref_mut.ensures.value in
    let whole = with_items_is c.in_ok-returned.ends c.finish.new.ends (let many = c.in_ok-returned.ends.ok.0 in omega (arith, many, long, same)) in
    let all = ap (λ (ends : List (Seats g.row.B.Denot)). length ends) c.in_ok-returned.ensures.ends in
    let each = length-map c.args.seated_actors.items seats_of in
    subst (λ (ends : List (Seats g.row.B.Denot)). length c.finish.new.self.took.items + length ends ≤ length (gave_of c.finish.new.self)) (sym whole)
    (still_room c.args.locks.now c.args.first c.finish.new.self c.deref_mut.result.now c.finish.new.ends c.in_ok-finish.ensures.finishes c.in_ok-finish.ensures.reunites (omega (arith, same, all, each, c.requires.out)))

pub returns-clause-met : goal.returns-clause-met
returns-clause-met g c =
    let long = zip_long (Reunites c.args.locks.now) c.deref_mut.result.now c.finish.new.ends c.in_ok-finish.ensures.reunites in
    let same = ap (λ (ends : List (Seats g.row.B.Denot)). length ends) c.deref_mut.ensures.value in
    let whole = with_items_is c.in_ok-returned.ends c.finish.new.ends (let many = c.in_ok-returned.ends.ok.0 in omega (arith, many, long, same)) in
    record {
      finished = c.finish.new.self;
      finishes = c.in_ok-finish.ensures.finishes;
      reunited = c.finish.new.ends;
      reunites = subst (λ (ends : List (Seats g.row.B.Denot)). AllZip (Reunites c.args.locks.now) ends c.finish.new.ends) (c.deref_mut.ensures.value ∙ c.in_ok-returned.ensures.ends) c.in_ok-finish.ensures.reunites;
      met = subst (λ (ends : List (Seats g.row.B.Denot)). MeetsEach c.finish.new.self ends c.in_ok-first.first) whole c.in_ok-first.ensures.met;
    }
