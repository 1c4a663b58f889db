use Rattle.std.proofs.Common.{◌≡◌, ◌-◌, if◌then◌else◌, refl}
use Rattle.sf_rows.specs.declared.columns.Pairs.{Pairs}
use Rattle.sf_rows.specs.inner.Pairs.{row_of}
use Rattle.sf_rows.proofs.ColumnLemmas.{below_four}
use Rattle.sf_rows.proofs.columns.ordered.Goals as goal

pub returns-then-back : goal.returns-then-back
returns-then-back c =
    let back : Pairs = record { first = c.args.pairs.fourth; second = c.args.pairs.third; third = c.args.pairs.second; fourth = c.args.pairs.first } in
    below_four (λ row. row_of back row ≡ row_of c.args.pairs (if c.args.back then 3 - row else row)) (rw c.if-back.true refl) (rw c.if-back.true refl) (rw c.if-back.true refl) (rw c.if-back.true refl)

pub returns-else-back : goal.returns-else-back
returns-else-back c = λ row h. rw c.if-back.false refl
