use Rattle.std.proofs.Common.{arith, rules, refl}
use Rattle.std.proofs.lemmas.Int.{ints}
use mir.Syntax.{w32}
use mir.Val.{SFits}
use Rattle.sf_region.specs.Points.{moved}
use Rattle.test_layers.proofs.regions.stays_in_bounds.Goals as goal

pub returns-then-is_span_in_bounds : goal.returns-then-is_span_in_bounds
unfolding moved
returns-then-is_span_in_bounds c = λ t.
    let x_fits : SFits w32 c.args.rect.now.x = search rules in
    let y_fits : SFits w32 c.args.rect.now.y = search rules in
    let across = c.if-is_span_in_bounds.ensures refl in
    let down = c.is_span_in_bounds-then-is_span_in_bounds.ensures t in
    record {
      left = omega (arith, ints, across.0, c.from.ensures, c.from-2.ensures, x_fits, c.ranges.dx);
      right = omega (arith, ints, across.1, c.from.ensures, c.from-2.ensures, x_fits, c.ranges.dx);
      top = omega (arith, ints, down.0, c.from-then-is_span_in_bounds.ensures, c.from-then-is_span_in_bounds-2.ensures, y_fits, c.ranges.dy);
      bottom = omega (arith, ints, down.1, c.from-then-is_span_in_bounds.ensures, c.from-then-is_span_in_bounds-2.ensures, y_fits, c.ranges.dy);
    }
