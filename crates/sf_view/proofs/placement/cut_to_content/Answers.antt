use Rattle.std.proofs.Common.{◌≡◌, ◌≤◌, Bool, true, false, ℕ, rules, to_z, of_z, w32, arith}
use Rattle.std.specs.Prelude.{if◌then◌else◌}
use Rattle.std.proofs.lemmas.Int.{ints}
use Rattle.sf_base.specs.Geometry.{covers}
use Rattle.sf_view.specs.Boxes.{is_sideways}
use Rattle.sf_view.specs.inner.Intervals.{is_in_interval}
use Rattle.sf_view.specs.Placements.{HasSmallCrop}
use Rattle.sf_view.specs.declared.content.Content.TheVariants as content
use Rattle.sf_view.proofs.IntervalLemmas.{swapped}
use Rattle.sf_view.proofs.placement.cut_to_content.Goals as goal

-- the side of a box is one of the crop's
small_side : (side n m : ℕ) (b : Bool) → side ≡ (if b then n else m) → n ≤ 512 → m ≤ 512 → side ≤ 512
small_side side n m true e p q = rw e p
small_side side n m false e p q = rw e q

pub cut-requires-clause-extent : goal.cut-requires-clause-extent
cut-requires-clause-extent c =
    let small : HasSmallCrop (content.Buffer c.in-Buffer.shown) = rw c.in-Buffer.is at c.requires.size in
    let side : c.box_size-width.result.0 ≤ 512 = small_side _ _ _ (is_sideways c.args.orient) (c.box_size-width.ensures (c.args.at.x, c.args.at.y)).0 small.1 small.0 in
    omega arith

pub cut-requires-clause-end : goal.cut-requires-clause-end
cut-requires-clause-end c =
    let small : HasSmallCrop (content.Buffer c.in-Buffer.shown) = rw c.in-Buffer.is at c.requires.size in
    let side : c.box_size-width.result.0 ≤ 512 = small_side _ _ _ (is_sideways c.args.orient) (c.box_size-width.ensures (c.args.at.x, c.args.at.y)).0 small.1 small.0 in
    omega (arith, ints, c.requires.near.0.high, side)

pub cut-requires-in-Buffer-clause-extent : goal.cut-requires-in-Buffer-clause-extent
cut-requires-in-Buffer-clause-extent c =
    let small : HasSmallCrop (content.Buffer c.in-Buffer.shown) = rw c.in-Buffer.is at c.requires.size in
    let side : c.box_size-width.result.1 ≤ 512 = small_side _ _ _ (is_sideways c.args.orient) (c.box_size-width.ensures (c.args.at.x, c.args.at.y)).1 small.0 small.1 in
    omega arith

pub cut-requires-in-Buffer-clause-end : goal.cut-requires-in-Buffer-clause-end
cut-requires-in-Buffer-clause-end c =
    let small : HasSmallCrop (content.Buffer c.in-Buffer.shown) = rw c.in-Buffer.is at c.requires.size in
    let side : c.box_size-width.result.1 ≤ 512 = small_side _ _ _ (is_sideways c.args.orient) (c.box_size-width.ensures (c.args.at.x, c.args.at.y)).1 small.0 small.1 in
    omega (arith, ints, c.requires.near.1.high, side)

pub returns-in-Buffer-clause-bounds : goal.returns-in-Buffer-clause-bounds
unfolding covers
returns-in-Buffer-clause-bounds c x y =
    let fit_x : to_z w32 (of_z w32 c.args.at.x) ≡ c.args.at.x = search rules in
    let fit_y : to_z w32 (of_z w32 c.args.at.y) ≡ c.args.at.y = search rules in
    let size = c.box_size-width.ensures (c.args.at.x, c.args.at.y) in
    rw (c.in-Buffer.is, c.cut.ensures.points x, c.cut-in-Buffer.ensures.points y, fit_x, fit_y, size.0, size.1) (swapped (is_in_interval c.args.at.across x) _ (is_in_interval c.args.at.down y) _)
