use Rattle.std.proofs.Common.{Some, sym, ap, ◌∙◌, refl}
use Rattle.atomic_table.specs.Table.{Me}
use Rattle.sf_turns.specs.declared.protocol.Knows.{Knows}
use Rattle.sf_turns.specs.declared.protocol.Home.{Home}
use Rattle.sf_turns.specs.declared.protocol.Stage.TheVariants as stage
use Rattle.sf_turns.specs.Views.{IssuedView}
use Rattle.sf_turns.specs.Rule.{at_stage}
use Rattle.sf_turns.proofs.busy.Busy.leave.Goals as goal

pub finish-requires-clause-token : goal.finish-requires-clause-token
finish-requires-clause-token g c = (
  _,
  c.self.invariant.0.2,
  refl,
  (let e = c.deref-3.ensures in cc),
  c.self.invariant.1 ∙ ap Some (ap (λ (v : IssuedView g.row.P-Stamp.Denot). v.promises) c.self.view_is ∙ sym c.requires.promised),
)

pub take_leave-requires-clause-token : goal.take_leave-requires-clause-token
take_leave-requires-clause-token g c = let M : Type 0 = Me (Home g.row.P.Denot g.row.P-Stamp.Denot) (Knows g.row.P-Stamp.Denot) in
    (_, _, ap (λ (m : M). m.0.token) c.finish.ensures.done ∙ ap (at_stage stage.Done) c.self.invariant.0.2, refl, (let e = c.deref-4.ensures in cc), c.self.invariant.1)
