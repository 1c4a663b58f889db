use Rattle.std.proofs.Common.{◌≡◌, ◌∙◌, sym, ap, refl, replicate}
use Rattle.sf_base.specs.Fences.{fence_from, with_point}
use Rattle.sf_base.specs.Kept.{fence_of}
use Rattle.sf_base.specs.declared.fences.Points.{Points}
use Rattle.sf_base.proofs.NoPoints.{none_from, point_kept, point_nothing, signalled_point}
use Rattle.sf_base.proofs.fences.Fence.add.Goals.{in-Some-1, in-None-self-2}
use Rattle.sf_base.proofs.fences.Fence.add.Goals as goal

pub returns-in-Some-clause-exact : goal.returns-in-Some-clause-exact
returns-in-Some-clause-exact c = point_kept c.in-Some.points.value c.as_mut.result.now c.raise.new.points.values c.args.self.now c.args.t.0 c.args.v (sym c.self.view_is ∙ ap fence_of c.in-Some.is) c.as_mut.ensures.value c.raise.ensures.raised

pub returns-in-None-clause-exact : goal.returns-in-None-clause-exact
returns-in-None-clause-exact c = c.self.view_is ∙ sym (point_nothing c.args.self.now c.args.t.0 c.args.v c.if-v-eq0.true)

pub returns-in-Some-clause-signalled : goal.returns-in-Some-clause-signalled
returns-in-Some-clause-signalled c = signalled_point _ c.args.self.now c.args.t.0 c.args.v (point_kept c.in-Some.points.value c.as_mut.result.now c.raise.new.points.values c.args.self.now c.args.t.0 c.args.v (sym c.self.view_is ∙ ap fence_of c.in-Some.is) c.as_mut.ensures.value c.raise.ensures.raised) (rw (← c.self.view_is) c.self.invariant.places) c.requires.0 c.requires.1

first : (c : goal.Joined-self-2) → c.match-self-2.self ≡ with_point c.args.self.now c.args.t.0 c.args.v
first c =
    let none = none_from c.args.self.now (sym c.self.view_is ∙ ap fence_of c.in-None.is) in
    let kept = ap (λ (z : Points). fence_from z.values) c.in_ok-new-in-None-2.ensures.ok
    ∙ point_kept (record { values = replicate 64 0 }) (record { values = replicate 64 0 }) c.raise-in-None-2.new.points.values c.args.self.now c.args.t.0 c.args.v none refl c.raise-in-None-2.ensures.raised in
    elim c.match-self-2.branch [ in-Some-1 w ↦ w.self-is ∙ kept | in-None-self-2 w ↦ w.self-is ∙ kept ]

pub returns-in_ok-new-in-None-2-clause-exact : goal.returns-in_ok-new-in-None-2-clause-exact
returns-in_ok-new-in-None-2-clause-exact c = first c

pub returns-in_ok-new-in-None-2-clause-signalled : goal.returns-in_ok-new-in-None-2-clause-signalled
returns-in_ok-new-in-None-2-clause-signalled c = signalled_point c.match-self-2.self c.args.self.now c.args.t.0 c.args.v (first c) (rw (← c.self.view_is) c.self.invariant.places) c.requires.0 c.requires.1
