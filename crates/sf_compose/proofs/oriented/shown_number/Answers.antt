use Rattle.std.proofs.Common.{arith, pos}
use Rattle.sf_compose.proofs.OrientationLemmas.{number_is, number_small}
use Rattle.sf_compose.proofs.oriented.shown_number.Goals as goal

pub overflow_mul-result : goal.overflow_mul-result
overflow_mul-result c =
    let small = number_small c.args.oriented.crop c.args.oriented.orient c.args.oriented.place (pos c.args.x) (pos c.args.y) c.args.picture.now.width c.args.picture.now.height c.shown_point-column.result.0 c.shown_point-column.result.1 c.requires.orient c.requires.crop c.requires.inside c.shown_point-column.ensures.column c.shown_point-column.ensures.row c.requires.size.narrow c.requires.size.low in
    omega (arith, small)

pub overflow_add-result : goal.overflow_add-result
overflow_add-result c =
    let small = number_small c.args.oriented.crop c.args.oriented.orient c.args.oriented.place (pos c.args.x) (pos c.args.y) c.args.picture.now.width c.args.picture.now.height c.shown_point-column.result.0 c.shown_point-column.result.1 c.requires.orient c.requires.crop c.requires.inside c.shown_point-column.ensures.column c.shown_point-column.ensures.row c.requires.size.narrow c.requires.size.low in
    omega (arith, small)

pub returns : goal.returns
returns c = number_is c.args.oriented.crop c.args.oriented.orient c.args.oriented.place (pos c.args.x) (pos c.args.y) c.args.picture.now.width c.args.picture.now.height c.shown_point-column.result.0 c.shown_point-column.result.1 c.requires.orient c.requires.crop c.requires.inside c.shown_point-column.ensures.column c.shown_point-column.ensures.row
