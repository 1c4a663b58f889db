use Rattle.std.proofs.Common.{rules}
use Rattle.std.proofs.lemmas.Int.{to_z-of_z}
use mir.Syntax.{w32}
use mir.Val.{SFits}
use Rattle.sf_damage.proofs.CutLemmas.{rows}
use Rattle.sf_damage.proofs.cuts.at_row.Goals as goal

pub returns : goal.returns
returns c =
    let x_fits : SFits w32 c.args.window.now.x = search rules in
    let y_fits : SFits w32 c.args.window.now.y = search rules in
    let start_fits : SFits w32 c.behind-start.result = search rules in
    let is = rw (to_z-of_z w32 _ y_fits) at c.behind-start.ensures in
    rw (to_z-of_z w32 _ x_fits, to_z-of_z w32 _ y_fits, to_z-of_z w32 _ start_fits) (rows c.args.window.now c.behind-start.result c.args.row c.requires.near c.requires.inside is)
