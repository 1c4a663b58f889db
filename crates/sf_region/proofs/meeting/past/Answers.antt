use Rattle.std.proofs.Common.{ℕ, ◌+◌, ◌-◌, ◌<◌, ◌≤◌, ◌/◌, length, subst, arith, pos}
use Rattle.std.specs.Prelude.{slice_index_or}
use Rattle.sf_base.specs.declared.geometry.Rect.{Rect}
use Rattle.sf_region.specs.inner.Bands.{EndsBefore}
use Rattle.sf_region.proofs.MeetingLemmas.{ends_early, full_at, nowhere, same_at}
use Rattle.sf_region.proofs.meeting.past.Goals as goal

pub ends_before-requires : goal.ends_before-requires
ends_before-requires c =
    let middle = c.loop-first.first + (c.loop-first.last - c.loop-first.first) / 2 in
    (full_at c.args.rects.now middle nowhere c.requires.banded (omega (arith, c.loop-first-test.true, c.loop-first.invariant.within))).near

pub loop-first-preserved-then-ends_before : goal.loop-first-preserved-then-ends_before
loop-first-preserved-then-ends_before c =
    let rects = c.args.rects.now in
    let middle = c.loop-first.first + (c.loop-first.last - c.loop-first.first) / 2 in
    let inside : middle < length rects = omega (arith, c.loop-first-test.true, c.loop-first.invariant.within) in
    record {
      from = omega (arith, c.loop-first.invariant.from);
      ordered = omega (arith, c.loop-first-test.true);
      within = c.loop-first.invariant.within;
      before = λ k d low high.
          ends_early rects k middle d c.args.low c.args.column c.requires.banded (omega (arith, high)) inside
          (subst (λ (r : Rect). EndsBefore c.args.low c.args.column r) (same_at rects middle nowhere d inside) (c.ends_before.ensures c.if-ends_before.true));
    }
