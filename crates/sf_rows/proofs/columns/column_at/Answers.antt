use Rattle.std.proofs.Common.{◌≡◌, arith, subst, rules, pos, to_z, of_z, w32, ℤ}
use Rattle.sf_rows.specs.Pixels.{picked}
use Rattle.sf_rows.proofs.ColumnLemmas.{column_pixels, column_room}
use Rattle.sf_rows.proofs.columns.column_at.Goals as goal

pub bounds-src-from : goal.bounds-src-from
bounds-src-from c =
    let fits : to_z w32 (of_z w32 c.args.step) ≡ c.args.step = search rules in
    let room = column_room c.args.src.now c.args.first c.number_at-from.result c.args.k c.args.step c.requires.whole (subst (λ (z : ℤ). pos c.number_at-from.result ≡ picked c.args.first z c.args.k) fits c.number_at-from.ensures) c.requires.high in
    omega (arith, room)

pub returns : goal.returns
returns c =
    let fits : to_z w32 (of_z w32 c.args.step) ≡ c.args.step = search rules in
    λ r j h is.
    column_pixels c.args.src.now c.args.first c.number_at-from.result c.args.k c.args.step (subst (λ (z : ℤ). pos c.number_at-from.result ≡ picked c.args.first z c.args.k) fits c.number_at-from.ensures) r j h is
