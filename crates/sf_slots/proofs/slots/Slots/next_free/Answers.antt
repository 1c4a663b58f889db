use Rattle.std.proofs.Common.{ap, ◌∙◌}
use Rattle.std.specs.Prelude.{is_some}
use Rattle.sf_slots.proofs.FreeSlots.{slot_for-has_free}
use Rattle.sf_slots.proofs.slots.Slots.next_free.Goals as goal

pub returns-in-Some-clause-exact : goal.returns-in-Some-clause-exact
returns-in-Some-clause-exact g c = ap is_some c.in-Some.ensures.value ∙ slot_for-has_free _ c.in-Some.ensures.sound c.args.with_buffer

pub returns-in-None-clause-exact : goal.returns-in-None-clause-exact
returns-in-None-clause-exact g c = ap is_some c.in-None.ensures.value ∙ slot_for-has_free _ c.in-None.ensures.sound c.args.with_buffer
