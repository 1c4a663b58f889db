use Rattle.sf_play.proofs.actor_desk.ActorSetCompositorDeskUnitReleaseReadLease.see.Goals as goal

pub returns-clause-sees : goal.returns-clause-sees
returns-clause-sees g c = record { sees = c.see.ensures.sees; times = c.see.ensures.times; only = c.see.ensures.only }
