use Rattle.std.proofs.Common.{◌≡◌, ℕ, ◌<◌, pos, true, rules}
use Rattle.std.proofs.lemmas.Int.{to_z-of_z}
use mir.Syntax.{w32}
use mir.Val.{SFits}
use Rattle.sf_base.specs.Geometry.{is_within}
use Rattle.sf_picture.proofs.SpanLemmas.{CoversAll-within}
use Rattle.sf_picture.proofs.spans.covers_all.Goals as goal

pub returns-then-spans_all : goal.returns-then-spans_all
returns-then-spans_all c = λ down.
    let x_fits : SFits w32 c.args.fill.now.rect.x = search rules in
    let y_fits : SFits w32 c.args.fill.now.rect.y = search rules in
    let columns : (x : ℕ) → x < c.args.width → is_within c.args.fill.now.rect.x c.args.fill.now.rect.width (pos x) ≡ true = λ x in_row. simp to_z-of_z at (c.spans_all.ensures c.if-spans_all.true x in_row) in
    let rows : (y : ℕ) → y < c.args.height → is_within c.args.fill.now.rect.y c.args.fill.now.rect.height (pos y) ≡ true = λ y in_column. simp to_z-of_z at (c.spans_all-then-spans_all.ensures down y in_column) in
    CoversAll-within c.args.fill.now.rect c.args.width c.args.height columns rows
