use Rattle.std.proofs.Common.{◌≡◌, ℕ, ◌<◌, ◌≤◌, ◌-◌, ◌+◌, ◌*◌, ◌%◌, ◌++◌, slice_index, subst, arith}
use Rattle.sf_rows.specs.inner.Channels.{alpha_index}
use Rattle.sf_rows.proofs.RowLemmas.{below_eight}
use Rattle.sf_rows.proofs.ByteWords.{left_one, small_at}
use Rattle.sf_rows.proofs.lanes.left_by_alphas.Goals as goal

pub returns-clause-each : goal.returns-clause-each
unfolding alpha_index
returns-clause-each c =
    let r = c.odd_channels.result in
    let e = c.odd_channels.ensures in
    let one : (i : ℕ) → i < 8 → (255 + (65536 - slice_index (r ++ r) i)) % 65536 ≡ 255 - slice_index c.args.a (2 * i + 1) = λ i h.
    left_one r c.args.a i (slice_index c.args.a (2 * i + 1)) e.len h (subst (λ x. x ≤ 255) (e.each i h) (small_at r i e.len h e.small)) (e.each i h) in
    below_eight _ (one 1 (omega arith)) (one 1 (omega arith)) (one 3 (omega arith)) (one 3 (omega arith)) (one 5 (omega arith)) (one 5 (omega arith)) (one 7 (omega arith)) (one 7 (omega arith))
