use Rattle.std.proofs.Common.{◌-◌, ◌%◌, arith}
use Rattle.sf_compose.proofs.FourRowLemmas.{in_box, Paints-beside, Paints-lower}
use Rattle.sf_compose.proofs.oriented_moving.move_sideways.Goals as goal

pub move_fours-requires-clause-inside : goal.move_fours-requires-clause-inside
move_fours-requires-clause-inside c = λ x y t.
    c.requires.inside x y (in_box c.args.area.left c.args.area.right c.args.area.top c.args.area.bottom c.args.area.left (c.args.area.right - (c.args.area.right - c.args.area.left) % 4) c.args.area.top (c.args.area.bottom - (c.args.area.bottom - c.args.area.top) % 4) x y (omega arith) (omega arith) (omega arith) (omega arith) t)

pub move_oriented_rows-requires-clause-inside : goal.move_oriented_rows-requires-clause-inside
move_oriented_rows-requires-clause-inside c = λ x y t.
    c.requires.inside x y (in_box c.args.area.left c.args.area.right c.args.area.top c.args.area.bottom (c.args.area.right - (c.args.area.right - c.args.area.left) % 4) c.args.area.right c.args.area.top (c.args.area.bottom - (c.args.area.bottom - c.args.area.top) % 4) x y (omega (arith, c.requires.across)) (omega arith) (omega arith) (omega arith) t)

pub move_oriented_rows-requires-2-clause-inside : goal.move_oriented_rows-requires-2-clause-inside
move_oriented_rows-requires-2-clause-inside c = λ x y t.
    c.requires.inside x y (in_box c.args.area.left c.args.area.right c.args.area.top c.args.area.bottom c.args.area.left c.args.area.right (c.args.area.bottom - (c.args.area.bottom - c.args.area.top) % 4) c.args.area.bottom x y (omega arith) (omega arith) (omega (arith, c.requires.down)) (omega arith) t)

pub returns : goal.returns
returns c = λ opaque below.
    Paints-lower _ _ c.args.area.left c.args.area.right c.args.area.top (c.args.area.bottom - (c.args.area.bottom - c.args.area.top) % 4) c.args.area.bottom _ _ _ _ (omega (arith, c.requires.down)) (omega arith)
    (Paints-beside _ _ c.args.area.left (c.args.area.right - (c.args.area.right - c.args.area.left) % 4) c.args.area.right c.args.area.top (c.args.area.bottom - (c.args.area.bottom - c.args.area.top) % 4) _ _ _ _ (omega (arith, c.requires.across)) (omega arith) (c.move_fours.ensures opaque below) (c.move_oriented_rows.ensures opaque below))
    (c.move_oriented_rows-2.ensures opaque below)
