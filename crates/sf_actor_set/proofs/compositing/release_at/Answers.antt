use Rattle.std.proofs.Common.{subst}
use Rattle.std.specs.Prelude.{IfOk}
use Rattle.sf_commit.specs.Releases.{ReleaseOf}
use Rattle.sf_actor_steps.specs.sf_surface.declared.call.QReply.{QReply}
use Rattle.sf_actor_steps.specs.sf_surface.Tokens.{ReadLeaseOf}
use Rattle.sf_actor_set.proofs.CompositingLemmas.{Released, outcome_ends, outcome_goes, outcome_never, outcome_released, outcome_stays}
use Rattle.sf_actor_set.proofs.compositing.release_at.Goals as goal

pub settle-requires-clause-ends : goal.settle-requires-clause-ends
settle-requires-clause-ends g c = outcome_ends c.args.desk.now c.call.new.self c.release.inside.queue.0 c.args.vsync c.release.inside.lease c.release.inside.fence c.call.result c.call.ensures.made

pub settle-requires-clause-never : goal.settle-requires-clause-never
settle-requires-clause-never g c = outcome_never c.args.desk.now c.call.new.self c.release.inside.queue.0 c.args.vsync c.release.inside.lease c.release.inside.fence c.call.result c.call.ensures.not_yet

pub returns-clause-released : goal.returns-clause-released
returns-clause-released g c =
    subst (λ (r : ReleaseOf ReadLeaseOf). IfOk c.settle.result (λ done. (reply : QReply g.row.B.Denot) × Released c.args.desk.now c.call.new.self r.queue.0 c.args.vsync r.lease r.fence reply)) c.release.view_is
    (outcome_released c.args.desk.now c.call.new.self c.release.inside.queue.0 c.args.vsync c.release.inside.lease c.release.inside.fence c.call.result c.settle.result c.settle.ensures c.call.ensures.made)

pub returns-clause-as_before : goal.returns-clause-as_before
returns-clause-as_before g c =
    outcome_stays c.args.desk.now c.call.new.self c.release.inside.queue.0 c.args.vsync c.release.inside.lease c.release.inside.fence c.call.result c.settle.result c.settle.ensures c.call.ensures.not_yet c.call.ensures.no_memory

pub returns-clause-goes : goal.returns-clause-goes
returns-clause-goes g c =
    outcome_goes c.args.desk.now c.call.new.self c.release.inside.queue.0 c.args.vsync c.release.inside.lease c.release.inside.fence c.call.result c.call.ensures.home c.call.ensures.made c.call.ensures.not_yet c.call.ensures.no_memory
