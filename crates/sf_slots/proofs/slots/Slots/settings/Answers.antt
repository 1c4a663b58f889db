use Rattle.sf_slots.proofs.SettingsKept.{allowed-own}
use Rattle.sf_slots.proofs.slots.Slots.settings.Goals as goal

pub returns-clause-allowed : goal.returns-clause-allowed
returns-clause-allowed g c = rw (← c.self.view_is) (allowed-own _ c.self.invariant.sound)
