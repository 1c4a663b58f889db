use Rattle.std.proofs.Common.{◌∙◌, arith}
use Rattle.sf_rows.specs.declared.columns.Pairs.{Pairs}
use Rattle.sf_rows.specs.inner.Pairs.{HasPair, row_of}
use Rattle.sf_rows.proofs.ColumnLemmas.{below_four}
use Rattle.sf_rows.proofs.columns.pairs_of.Goals as goal

pub returns : goal.returns
returns c =
    let pairs : Pairs = record { first = c.first_half-first.result; second = c.last_half-second.result; third = c.first_half-third.result; fourth = c.last_half-fourth.result } in
    below_four (λ row. HasPair c.args.left c.args.right row (row_of pairs row))
    (record {
      first = c.first_half-first.ensures 0 (omega arith) ∙ c.first_pairs-upper.ensures.left 0 (omega arith);
      second = c.first_half-first.ensures 1 (omega arith) ∙ c.first_pairs-upper.ensures.right 0 (omega arith);
    })
    (record {
      first = c.last_half-second.ensures 0 (omega arith) ∙ c.first_pairs-upper.ensures.left 1 (omega arith);
      second = c.last_half-second.ensures 1 (omega arith) ∙ c.first_pairs-upper.ensures.right 1 (omega arith);
    })
    (record {
      first = c.first_half-third.ensures 0 (omega arith) ∙ c.last_pairs-lower.ensures.left 0 (omega arith);
      second = c.first_half-third.ensures 1 (omega arith) ∙ c.last_pairs-lower.ensures.right 0 (omega arith);
    })
    (record {
      first = c.last_half-fourth.ensures 0 (omega arith) ∙ c.last_pairs-lower.ensures.left 1 (omega arith);
      second = c.last_half-fourth.ensures 1 (omega arith) ∙ c.last_pairs-lower.ensures.right 1 (omega arith);
    })
