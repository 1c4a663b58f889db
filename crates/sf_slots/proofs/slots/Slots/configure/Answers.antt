use Rattle.std.proofs.Common.{◌∙◌}
use Rattle.sf_slots.proofs.SettingsKept.{allows, IsSound-configured}
use Rattle.sf_slots.proofs.slots.Slots.configure.Goals as goal

pub invariant_of-self : goal.invariant_of-self
invariant_of-self g c =
    let before = c.settings-before.ensures.sound in
    let is = c.self.view_is ∙ rw (c.usable.ensures, c.usable-2.ensures, c.settings-before.ensures.same) at c.retire_between.ensures in
    record {
      for_freed = c.self.invariant.for_freed;
      for_items = c.self.invariant.for_items;
      sound = IsSound-configured c.args.self.now _ c.args.settings before (allows c.args.self.now _ before.sized c.requires.allowed) is c.self.invariant.sound;
    }
