use Rattle.std.proofs.Common.{◌≡◌, true, subst, sym}
use Rattle.sf_play_report.specs.sf_actor.Desks.{DeskHome, has_queue}
use Rattle.sf_play.proofs.VsyncParts.{gives_back}
use Rattle.sf_play.proofs.actor_desk.ActorSetCompositorDeskUnitReleaseReadLease.give_back.Goals as goal

pub returns-clause-gives : goal.returns-clause-gives
returns-clause-gives g c = gives_back g.B.TableName.table c.args.number c.args.frame c.args.self.now c.release.new.self c.release.result c.release.ensures.released c.release.ensures.only

pub returns-clause-others : goal.returns-clause-others
returns-clause-others g c = λ other has. subst (λ (h : DeskHome). has_queue h other.queue.0 ≡ true) (sym c.release.ensures.only.home) has
