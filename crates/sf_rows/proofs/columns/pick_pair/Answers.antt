use Rattle.std.proofs.Common.{rules, ◌≡◌, ◌+◌, ◌-◌, ◌∙◌, if◌then◌else◌, List, ℕ, ℤ, ap, subst, to_z, of_z, w32}
use Rattle.sf_base.specs.Bytes.{pixel_in}
use Rattle.sf_rows.specs.Pixels.{column_pixel, PicksColumns}
use Rattle.sf_rows.specs.inner.Pairs.{row_of}
use Rattle.sf_rows.proofs.ColumnLemmas.{row_within, two_of}
use Rattle.sf_rows.proofs.columns.pick_pair.Goals as goal

pub returns : goal.returns
returns c =
    let fits : to_z w32 (of_z w32 c.args.columns.step) ≡ c.args.columns.step = search rules in
    let picks : PicksColumns (c.args.rows.start + c.args.k) c.args.rows.apart c.args.src.now (column_pixel c.args.columns.first (to_z w32 (of_z w32 c.args.columns.step)) c.args.columns.back c.args.k) 2 c.args.dst.now c.put_pairs.new.dst = record {
      size = c.put_pairs.ensures.size;
      each = λ row j m h low is.
          let from : ℕ = if c.args.columns.back then 3 - row else row in
          let within = row_within c.args.columns.back row h in
          let pair = c.pairs_of.ensures from within in
          c.put_pairs.ensures.pixels row j h low
          ∙ (ap (λ (two : List ℕ). pixel_in two j) (c.ordered-pairs.ensures row h)
          ∙ two_of c.args.src.now (row_of c.pairs_of.result from) c.column_at-left.result c.column_at-right.result c.args.columns.first from c.args.k (to_z w32 (of_z w32 c.args.columns.step)) within pair.first pair.second
          c.column_at-left.ensures c.column_at-right.ensures j m low is);
      rest = c.put_pairs.ensures.rest;
    } in
    subst (λ (z : ℤ). PicksColumns (c.args.rows.start + c.args.k) c.args.rows.apart c.args.src.now (column_pixel c.args.columns.first z c.args.columns.back c.args.k) 2 c.args.dst.now c.put_pairs.new.dst) fits picks
