use Rattle.std.proofs.Common.{◌≡◌, ◌+◌, ◌*◌, ◌∙◌, ℕ, arith, subst}
use Rattle.sf_base.specs.Bytes.{pixel_in}
use Rattle.sf_rows.specs.inner.Pairs.{row_of}
use Rattle.sf_rows.proofs.ColumnLemmas.{below_four, beside_two}
use Rattle.sf_rows.proofs.columns.put_pairs.Goals as goal

pub returns-clause-pixels : goal.returns-clause-pixels
returns-clause-pixels c = λ row j h low.
    below_four (λ row. pixel_in c.put_two-4.new.dst (c.args.at + row * c.args.apart + j) ≡ pixel_in (row_of c.args.pairs row) j)
    (let index : c.args.at + j ≡ c.args.at + 0 * c.args.apart + j = omega arith in
    subst (λ (n : ℕ). pixel_in c.put_two-4.new.dst n ≡ pixel_in c.args.pairs.first j) index
    (c.put_two-4.ensures.below (c.args.at + j) (omega (arith, low, c.requires.apart))
    ∙ (c.put_two-3.ensures.below (c.args.at + j) (omega (arith, low, c.requires.apart))
    ∙ (c.put_two-2.ensures.below (c.args.at + j) (omega (arith, low, c.requires.apart))
    ∙ c.put_two.ensures.pixels j low))))
    (let index : c.args.at + c.args.apart + j ≡ c.args.at + 1 * c.args.apart + j = omega arith in
    subst (λ (n : ℕ). pixel_in c.put_two-4.new.dst n ≡ pixel_in c.args.pairs.second j) index
    (c.put_two-4.ensures.below (c.args.at + c.args.apart + j) (omega (arith, low, c.requires.apart))
    ∙ (c.put_two-3.ensures.below (c.args.at + c.args.apart + j) (omega (arith, low, c.requires.apart))
    ∙ c.put_two-2.ensures.pixels j low)))
    (c.put_two-4.ensures.below (c.args.at + 2 * c.args.apart + j) (omega (arith, low, c.requires.apart))
    ∙ c.put_two-3.ensures.pixels j low)
    (c.put_two-4.ensures.pixels j low)
    row h

pub returns-clause-rest : goal.returns-clause-rest
returns-clause-rest c = λ i beside.
    beside_two _ _ (c.args.at + 3 * c.args.apart) i c.put_two-4.ensures.below c.put_two-4.ensures.above (λ k h is. beside 3 k (omega arith) h is)
    ∙ (beside_two _ _ (c.args.at + 2 * c.args.apart) i c.put_two-3.ensures.below c.put_two-3.ensures.above (λ k h is. beside 2 k (omega arith) h is)
    ∙ (beside_two _ _ (c.args.at + c.args.apart) i c.put_two-2.ensures.below c.put_two-2.ensures.above (λ k h is. beside 1 k (omega arith) h (omega (arith, is)))
    ∙ beside_two _ _ c.args.at i c.put_two.ensures.below c.put_two.ensures.above (λ k h is. beside 0 k (omega arith) h (omega (arith, is)))))
