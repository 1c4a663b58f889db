use Rattle.std.proofs.Common.{rules}
use Rattle.std.proofs.lemmas.Int.{to_z-of_z}
use mir.Syntax.{w32}
use mir.Val.{SFits}
use Rattle.sf_damage.proofs.BoundsLemmas.{covers_more, covers_none}
use Rattle.sf_damage.proofs.bounds.rect_of_both.Goals as goal

pub returns-then-one-eq0-clause-one : goal.returns-then-one-eq0-clause-one
returns-then-one-eq0-clause-one c = λ x y t. absurd (covers_none c.args.one.now x y c.if-one-eq0.true t)

pub returns-clause-one : goal.returns-clause-one
returns-clause-one c =
    let x_fits : SFits w32 c.args.one.now.x = search rules in
    let y_fits : SFits w32 c.args.one.now.y = search rules in
    let x_too : SFits w32 c.span_of_both-x.result.0 = search rules in
    let y_too : SFits w32 c.span_of_both-y.result.0 = search rules in
    rw (to_z-of_z w32 _ x_too, to_z-of_z w32 _ y_too) (covers_more c.args.one.now _ (simp to_z-of_z at c.span_of_both-x.ensures.one) (simp to_z-of_z at c.span_of_both-y.ensures.one))

pub returns-clause-other : goal.returns-clause-other
returns-clause-other c =
    let x_fits : SFits w32 c.args.other.now.x = search rules in
    let y_fits : SFits w32 c.args.other.now.y = search rules in
    let x_too : SFits w32 c.span_of_both-x.result.0 = search rules in
    let y_too : SFits w32 c.span_of_both-y.result.0 = search rules in
    rw (to_z-of_z w32 _ x_too, to_z-of_z w32 _ y_too) (covers_more c.args.other.now _ (simp to_z-of_z at c.span_of_both-x.ensures.other) (simp to_z-of_z at c.span_of_both-y.ensures.other))
