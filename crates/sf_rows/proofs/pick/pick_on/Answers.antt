use Rattle.std.proofs.Common.{◌<◌, ◌/◌, ◌-◌, length, arith}
use Rattle.sf_rows.proofs.PickLemmas.{on_room, picked_on}
use Rattle.sf_rows.proofs.pick.pick_on.Goals as goal

pub slice_bounds-copy_from_slice-end : goal.slice_bounds-copy_from_slice-end
slice_bounds-copy_from_slice-end c =
    let n = length c.args.dst.now in
    let some : 0 < n = grind (arith, c.if-is_empty.ensures) in
    let room = on_room c.args.src.now c.args.first n c.requires.whole_source c.requires.whole some (c.requires.inside (n / 4 - 1) (omega (arith, some))) in
    search (arith, room)

pub returns-clause-picked : goal.returns-clause-picked
returns-clause-picked c =
    rw c.copy_from_slice.ensures.len (picked_on c.args.src.now c.copy_from_slice.new.self c.args.first (length c.args.dst.now) c.requires.whole c.copy_from_slice.ensures.after)
