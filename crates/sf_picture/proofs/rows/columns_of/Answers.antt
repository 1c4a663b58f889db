use Rattle.std.proofs.Common.{◌≡◌, pos, nat_le, nat_lt, ◌&&◌, rules, ◌∙◌, sym}
use Rattle.std.proofs.lemmas.Int.{to_z-of_z}
use mir.Syntax.{w32}
use mir.Val.{SFits}
use Rattle.sf_base.specs.Geometry.{is_within}
use Rattle.sf_picture.proofs.LeapLemmas.{covers_none, covers_row}
use Rattle.sf_picture.proofs.rows.columns_of.Goals as goal

pub returns-then-has_row-clause-covers : goal.returns-then-has_row-clause-covers
returns-then-has_row-clause-covers c = λ x in_row.
    let x_fits : SFits w32 c.args.fill.now.rect.x = search rules in
    let across : is_within c.args.fill.now.rect.x c.args.fill.now.rect.width (pos x) ≡ (nat_le c.clipped.result.0 x && nat_lt x c.clipped.result.1) = simp to_z-of_z at (c.clipped.ensures.same x in_row) in
    covers_row c.args.fill.now.rect x c.args.y _ across (sym c.has_row.ensures ∙ c.if-has_row.true)

pub returns-else-has_row-clause-covers : goal.returns-else-has_row-clause-covers
returns-else-has_row-clause-covers c = λ x in_row. covers_none c.args.fill.now.rect x c.args.y (sym c.has_row.ensures ∙ c.if-has_row.false)
