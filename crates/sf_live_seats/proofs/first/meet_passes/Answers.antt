use Rattle.std.proofs.Common.{◌≡◌, ◌<◌, ◌≤◌, length, ap, ◌∙◌, sym, arith, rules}
use Rattle.std.proofs.lemmas.List.{nil_from_length}
use Rattle.std.specs.Vec.Iter.{into_iter_items}
use Rattle.sf_live_seats.specs.declared.locks.QueueLock.{QueueLock}
use Rattle.sf_live_seats.specs.Passes.{IsAt, IsFirstPass}
use Rattle.sf_live_seats.specs.Seats.{QueuePass}
use Rattle.sf_live_seats.proofs.SeatsTakenIn.{meet_ends, meet_goes_on, meet_more, meet_starts, met_there, note_own}
use Rattle.sf_live_seats.proofs.QueuePass.{zip_at}
use Rattle.sf_live_seats.proofs.GivenPasses.{by_place}
use Rattle.sf_live_seats.proofs.first.meet_passes.Goals as goal

pub loop-place-init : goal.loop-place-init
loop-place-init g c = meet_starts c.args.firsts.now c.args.passes.items _ c.into_iter-passes.ensures.rest

pub unreachable-requires : goal.unreachable-requires
unreachable-requires g c =
    let at = c.loop-place in
    let many = c.args.passes.ok.0 in
    let same = c.requires.long.1 in
    let long : length c.args.passes.items ≡ length c.args.firsts.now = omega arith in
    let none = nil_from_length (into_iter_items at.passes) (let cases = c.in_default.ensures.cases in search rules) in
    meet_more c.args.firsts.now at.firsts c.args.passes.items (into_iter_items at.passes) at.place at.invariant long c.loop-place-test.true none

pub meet-requires-clause-own : goal.meet-requires-clause-own
meet-requires-clause-own g c =
    let at = c.loop-place in
    let test = c.loop-place-test.true in
    let long = c.requires.long.0 in
    let low : at.place < length c.args.locks.now = omega arith in
    ap (λ (p : QueuePass g.row.B.Denot). p.table) (met_there c.args.firsts.now at.firsts c.args.passes.items _ at.place c.index-firsts-place.result at.invariant)
    ∙ (zip_at IsAt c.args.locks.now c.args.firsts.now at.place c.index-locks-place.result c.index-firsts-place.result c.requires.own low
    ∙ ap (λ (l : QueueLock g.row.B.Denot). l.lock) (sym c.index-locks-place.is))

pub meet-requires-clause-theirs : goal.meet-requires-clause-theirs
meet-requires-clause-theirs g c =
    let at = c.loop-place in
    let test = c.loop-place-test.true in
    let long = c.requires.long.0 in
    let low : at.place < length c.args.locks.now = omega arith in
    note_own c.args.locks.now c.args.firsts.now at.firsts c.args.passes.items (into_iter_items at.passes) (into_iter_items c.next.new.self) at.place c.in-Some.pass c.index-locks-place.result
    at.invariant c.in-Some.ensures.items c.requires.theirs low
    ∙ ap (λ (l : QueueLock g.row.B.Denot). l.lock) (sym c.index-locks-place.is)

pub meet-requires-clause-first : goal.meet-requires-clause-first
meet-requires-clause-first g c =
    let at = c.loop-place in
    let test = c.loop-place-test.true in
    let low : at.place < length c.args.firsts.now = omega arith in
    ap (λ (p : QueuePass g.row.B.Denot). p.is_first) (met_there c.args.firsts.now at.firsts c.args.passes.items _ at.place c.index-firsts-place.result at.invariant)
    ∙ by_place IsFirstPass c.args.firsts.now at.place c.index-firsts-place.result c.requires.first low

pub loop-place-preserved : goal.loop-place-preserved
loop-place-preserved g c =
    let at = c.loop-place in
    meet_goes_on c.args.firsts.now at.firsts c.args.passes.items (into_iter_items at.passes) (into_iter_items c.next.new.self) at.place c.in-Some.pass c.index-firsts-place.result c.meet.new.self
    at.invariant c.in-Some.ensures.items c.loop-place-test.true c.meet.ensures.both (record { begins = c.meet.ensures.begins; calls = c.meet.ensures.own_calls })

pub returns-clause-met : goal.returns-clause-met
returns-clause-met g c =
    let at = c.loop-place in
    let test = c.loop-place-test.false in
    let many = c.args.passes.ok.0 in
    let same = c.requires.long.1 in
    let long : length c.args.passes.items ≡ length c.args.firsts.now = omega arith in
    let high : length c.args.firsts.now ≤ at.place = omega arith in
    meet_ends c.args.firsts.now at.firsts c.args.passes.items _ at.place at.invariant long high

pub returns-clause-own_calls : goal.returns-clause-own_calls
returns-clause-own_calls g c = c.loop-place.invariant.own_calls
