use Rattle.std.proofs.Common.{◌+◌, ◌-◌, ◌*◌, ◌≤◌, length, arith}
use Rattle.sf_rows.proofs.PickLemmas.{back_low, back_high, picked_back}
use Rattle.sf_rows.proofs.pick.pick_back.Goals as goal

pub overflow_sub-from : goal.overflow_sub-from
overflow_sub-from c =
    let low = back_low c.args.src.now c.args.first c.loop-dst.at 16 (length c.args.dst.now) c.requires.whole_source c.loop-dst.invariant.0 (omega arith) (omega (arith, c.loop-dst-test.true, c.loop-dst.auto.dst)) c.requires.inside in
    omega (arith, low)

pub overflow_sub-from-in-loop-dst : goal.overflow_sub-from-in-loop-dst
overflow_sub-from-in-loop-dst c =
    let low = back_low c.args.src.now c.args.first c.loop-dst.at 16 (length c.args.dst.now) c.requires.whole_source c.loop-dst.invariant.0 (omega arith) (omega (arith, c.loop-dst-test.true, c.loop-dst.auto.dst)) c.requires.inside in
    omega (arith, low, c.loop-dst.invariant.0)

pub bounds-src-from : goal.bounds-src-from
bounds-src-from c =
    let high = back_high c.args.src.now c.args.first c.loop-dst.at (length c.args.dst.now) c.requires.whole_source c.loop-dst.invariant.0 (omega (arith, c.loop-dst-test.true, c.loop-dst.auto.dst)) c.requires.inside in
    let low = back_low c.args.src.now c.args.first c.loop-dst.at 16 (length c.args.dst.now) c.requires.whole_source c.loop-dst.invariant.0 (omega arith) (omega (arith, c.loop-dst-test.true, c.loop-dst.auto.dst)) c.requires.inside in
    omega (arith, low, high)

pub loop-dst-preserved : goal.loop-dst-preserved
loop-dst-preserved c =
    let room : c.loop-dst.at + 64 ≤ length c.args.dst.now = omega (arith, c.loop-dst-test.true, c.loop-dst.auto.dst) in
    let low = back_low c.args.src.now c.args.first c.loop-dst.at 16 (length c.args.dst.now) c.requires.whole_source c.loop-dst.invariant.0 (omega arith) room c.requires.inside in (
      omega (arith, c.loop-dst.invariant.0),
      room,
      picked_back c.args.src.now c.loop-dst.dst c.sixteen_back.result c.args.first c.loop-dst.at (4 * c.args.first - 60 - c.loop-dst.at) c.loop-dst.invariant.0
          (omega (arith, room, c.loop-dst.auto.dst)) (omega (arith, low, c.loop-dst.invariant.0)) c.sixteen_back.ensures.len c.sixteen_back.ensures.each c.loop-dst.invariant.2,
    )
