use Rattle.std.proofs.Common.{inl, inr, subst, sym}
use Rattle.std.proofs.lemmas.Bool.{cases_Bool}
use Rattle.sf_surface.specs.declared.call.QCall.{QCall}
use Rattle.sf_surface.specs.Inside.{HasRoomFor}
use Rattle.sf_surface.proofs.object.may_tell_points.Goals as goal

pub returns-in-Dequeue : goal.returns-in-Dequeue
returns-in-Dequeue g c = λ n room.
    subst (λ (asked : QCall g.row.B.Denot). HasRoomFor c.args.slots.now asked n) (sym c.in-Dequeue.is)
    (λ s next some. elim (cases_Bool c.next_may_have_points.result) [
      | inl met ↦ room met
      | inr unmet ↦ absurd (some (c.next_may_have_points.ensures unmet s next))
    ])

pub returns-in-Acquire : goal.returns-in-Acquire
returns-in-Acquire g c = λ n room.
    subst (λ (asked : QCall g.row.B.Denot). HasRoomFor c.args.slots.now asked n) (sym c.in-Acquire.is)
    (λ k d low some. elim (cases_Bool c.has_points.result) [
      | inl met ↦ room met
      | inr unmet ↦ absurd (some (c.has_points.ensures unmet k d low))
    ])
