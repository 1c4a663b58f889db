use Rattle.std.proofs.Common.{◌<◌, ◌≤◌, ◌∷◌, length, ap, ◌∙◌, sym, subst, arith}
use Rattle.std.specs.Prelude.{Contains}
use Rattle.sf_calls.specs.Passes.{given, giving}
use Rattle.sf_live_seats.specs.declared.locks.QueueLock.{QueueLock}
use Rattle.sf_live_seats.specs.Passes.{IsAt, MayGive}
use Rattle.sf_live_seats.specs.Seats.{QueuePass}
use Rattle.sf_live_seats.proofs.QueuePass.{zip_at}
use Rattle.sf_live_seats.proofs.GivenPasses.{by_place, ends, goes_on, same_there, starts}
use Rattle.sf_live_seats.proofs.first.split_passes.Goals as goal

pub loop-place-init : goal.loop-place-init
loop-place-init g c = starts (giving c.args.by) (given c.args.by) c.args.firsts.now _ c.new-passes.ensures.items

pub split-pass-requires-clause-own : goal.split-pass-requires-clause-own
split-pass-requires-clause-own g c =
    let at = c.loop-place in
    let test = c.loop-place-test.true in
    let long = c.requires.long in
    let low : at.place < length c.args.locks.now = omega arith in
    let same = same_there (giving c.args.by) (given c.args.by) c.args.firsts.now at.firsts at.passes.items at.place c.index-firsts-place.result at.invariant in
    ap (λ (p : QueuePass g.row.B.Denot). p.table) same
    ∙ (zip_at IsAt c.args.locks.now c.args.firsts.now at.place c.index-locks-place.result c.index-firsts-place.result c.requires.own low
    ∙ ap (λ (l : QueueLock g.row.B.Denot). l.lock) (sym c.index-locks-place.is))

pub split-pass-requires-clause-first : goal.split-pass-requires-clause-first
split-pass-requires-clause-first g c =
    let at = c.loop-place in
    let test = c.loop-place-test.true in
    let low : at.place < length c.args.firsts.now = omega arith in
    let same = same_there (giving c.args.by) (given c.args.by) c.args.firsts.now at.firsts at.passes.items at.place c.index-firsts-place.result at.invariant in
    ap (λ (p : QueuePass g.row.B.Denot). p.is_first) same ∙ (by_place (MayGive c.args.by) c.args.firsts.now at.place c.index-firsts-place.result c.requires.first low).is_first

pub split-pass-requires-clause-fresh : goal.split-pass-requires-clause-fresh
split-pass-requires-clause-fresh g c =
    let at = c.loop-place in
    let test = c.loop-place-test.true in
    let low : at.place < length c.args.firsts.now = omega arith in
    let same = same_there (giving c.args.by) (given c.args.by) c.args.firsts.now at.firsts at.passes.items at.place c.index-firsts-place.result at.invariant in
    subst (λ (p : QueuePass g.row.B.Denot). Contains (p.by ∷ p.gave) c.args.by → ⊥) (sym same)
    (by_place (MayGive c.args.by) c.args.firsts.now at.place c.index-firsts-place.result c.requires.first low).fresh

pub loop-place-preserved : goal.loop-place-preserved
loop-place-preserved g c =
    let at = c.loop-place in
    let test = c.loop-place-test.true in
    let low : at.place < length c.args.firsts.now = omega arith in
    goes_on (giving c.args.by) (given c.args.by) c.args.firsts.now at.firsts at.passes.items at.place c.index-firsts-place.result c.split-pass.new.self c.split-pass.result c.push.new.self.items
    at.invariant low c.split-pass.ensures.kept c.split-pass.ensures.given c.in_ok-push.ensures.items

pub returns-clause-gives : goal.returns-clause-gives
returns-clause-gives g c =
    let at = c.loop-place in
    let test = c.loop-place-test.false in
    let high : length c.args.firsts.now ≤ at.place = omega arith in
    (ends (giving c.args.by) (given c.args.by) c.args.firsts.now at.firsts at.passes.items at.place at.invariant high).0

pub returns-clause-given : goal.returns-clause-given
returns-clause-given g c =
    let at = c.loop-place in
    let test = c.loop-place-test.false in
    let high : length c.args.firsts.now ≤ at.place = omega arith in
    (ends (giving c.args.by) (given c.args.by) c.args.firsts.now at.firsts at.passes.items at.place at.invariant high).1
