use Rattle.std.proofs.Common.{◌≡◌, ◌∙◌, sym, ap}
use Rattle.sf_base.specs.Fences.{fence_from, merged}
use Rattle.sf_base.specs.Kept.{fence_of}
use Rattle.sf_base.specs.declared.fences.Points.{Points}
use Rattle.sf_base.proofs.NoPoints.{merge_kept, merged-none_first, merged-none_last, signalled_merge}
use Rattle.sf_base.proofs.fences.Fence.merge.Goals.{in-Some-1, in-None-1}
use Rattle.sf_base.proofs.fences.Fence.merge.Goals as goal

pub returns-in-Some-points-clause-exact : goal.returns-in-Some-points-clause-exact
returns-in-Some-points-clause-exact c = merge_kept c.in-Some-points.own.value c.as_mut.result.now c.in-Some.points.value c.as_ref.result.now c.raise_all.new.points.values _ _ (sym c.self.view_is ∙ ap fence_of c.in-Some-points.is) (sym c.other.view_is ∙ ap fence_of c.in-Some.is) c.as_mut.ensures.value c.as_ref.ensures c.raise_all.ensures.raised

pub returns-in-Some-points-clause-signalled : goal.returns-in-Some-points-clause-signalled
returns-in-Some-points-clause-signalled c =
    signalled_merge _ c.args.self.now c.args.other.now
    (merge_kept c.in-Some-points.own.value c.as_mut.result.now c.in-Some.points.value c.as_ref.result.now c.raise_all.new.points.values _ _ (sym c.self.view_is ∙ ap fence_of c.in-Some-points.is) (sym c.other.view_is ∙ ap fence_of c.in-Some.is) c.as_mut.ensures.value c.as_ref.ensures c.raise_all.ensures.raised)
    (rw (← c.self.view_is, ← c.other.view_is) (c.self.invariant.places ∙ sym c.other.invariant.places))

pub returns-in_default-clause-exact : goal.returns-in_default-clause-exact
returns-in_default-clause-exact c =
    sym (merged-none_last c.args.self.now c.args.other.now (sym c.other.view_is ∙ ap fence_of c.in_default.is) (rw (← c.self.view_is) c.self.invariant.places))

pub returns-in_default-clause-signalled : goal.returns-in_default-clause-signalled
returns-in_default-clause-signalled c =
    signalled_merge c.args.self.now c.args.self.now c.args.other.now
    (sym (merged-none_last c.args.self.now c.args.other.now (sym c.other.view_is ∙ ap fence_of c.in_default.is) (rw (← c.self.view_is) c.self.invariant.places)))
    (rw (← c.self.view_is, ← c.other.view_is) (c.self.invariant.places ∙ sym c.other.invariant.places))

first : (c : goal.Joined-self-2) → c.match-self-2.self ≡ merged c.args.self.now c.args.other.now
first c =
    let kept = ap (λ (z : Points). fence_from z.values) (c.in_ok-new-in-None.ensures.ok ∙ c.as_ref-in-None.ensures)
    ∙ (sym (sym c.other.view_is ∙ ap fence_of c.in-Some.is)
    ∙ sym (merged-none_first c.args.self.now c.args.other.now (sym c.self.view_is ∙ ap fence_of c.in-None.is) (rw (← c.other.view_is) c.other.invariant.places))) in
    elim c.match-self-2.branch [ in-Some-1 w ↦ w.self-is ∙ kept | in-None-1 w ↦ w.self-is ∙ kept ]

pub returns-in_ok-new-in-None-clause-exact : goal.returns-in_ok-new-in-None-clause-exact
returns-in_ok-new-in-None-clause-exact c = first c

pub returns-in_ok-new-in-None-clause-signalled : goal.returns-in_ok-new-in-None-clause-signalled
returns-in_ok-new-in-None-clause-signalled c =
    signalled_merge c.match-self-2.self c.args.self.now c.args.other.now (first c) (rw (← c.self.view_is, ← c.other.view_is) (c.self.invariant.places ∙ sym c.other.invariant.places))
