use Rattle.std.proofs.Common.{arith, ◌≡◌, ◌≤◌, ◌+◌, ℕ, subst}
use Rattle.sf_rows.specs.Pixels.{column_pixel, PicksColumns}
use Rattle.sf_rows.proofs.ColumnLemmas.{more_columns, no_columns}
use Rattle.sf_rows.proofs.columns.pick_columns.Goals as goal

pub loop-k-init : goal.loop-k-init
loop-k-init c = (omega arith, omega arith, no_columns _ _ _ _ _)

pub loop-k-preserved : goal.loop-k-preserved
loop-k-preserved c =
    let room : c.loop-k.k + 4 ≤ c.args.rows.length = omega (arith, c.loop-k.invariant.0, c.loop-k-test.true, c.requires.fours) in
    let two : PicksColumns c.args.rows.start c.args.rows.apart c.args.src.now (column_pixel c.args.columns.first c.args.columns.step c.args.columns.back 0) (c.loop-k.k + 2) c.args.dst.now c.pick_pair.new.dst =
    more_columns c.args.rows.start c.args.rows.apart c.loop-k.k c.args.src.now c.args.dst.now c.loop-k.dst c.pick_pair.new.dst c.args.columns.first c.args.columns.step c.args.columns.back
    (omega (arith, room, c.requires.apart)) c.loop-k.invariant.2 c.pick_pair.ensures in
    let four : PicksColumns c.args.rows.start c.args.rows.apart c.args.src.now (column_pixel c.args.columns.first c.args.columns.step c.args.columns.back 0) (c.loop-k.k + 2 + 2) c.args.dst.now c.pick_pair-in-loop-k.new.dst =
    more_columns c.args.rows.start c.args.rows.apart (c.loop-k.k + 2) c.args.src.now c.args.dst.now c.pick_pair.new.dst c.pick_pair-in-loop-k.new.dst c.args.columns.first c.args.columns.step c.args.columns.back
    (omega (arith, room, c.requires.apart)) two c.pick_pair-in-loop-k.ensures in
    let count : c.loop-k.k + 2 + 2 ≡ c.loop-k.k + 4 = omega arith in (
      omega (arith, c.loop-k.invariant.0),
      room,
      subst (λ (n : ℕ). PicksColumns c.args.rows.start c.args.rows.apart c.args.src.now (column_pixel c.args.columns.first c.args.columns.step c.args.columns.back 0) n c.args.dst.now c.pick_pair-in-loop-k.new.dst) count four,
    )

pub returns : goal.returns
returns c =
    let all : c.loop-k.k ≡ c.args.rows.length = omega (arith, c.loop-k.invariant.1, c.loop-k-test.false) in
    subst (λ (n : ℕ). PicksColumns c.args.rows.start c.args.rows.apart c.args.src.now (column_pixel c.args.columns.first c.args.columns.step c.args.columns.back 0) n c.args.dst.now c.loop-k.dst) all c.loop-k.invariant.2
