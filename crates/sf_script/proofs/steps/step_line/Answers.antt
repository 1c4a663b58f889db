use Rattle.std.proofs.Common.{IfOk, subst}
use Rattle.sf_script_words.specs.Text.{words_of}
use Rattle.sf_script_words.specs.Reading.{Gives}
use Rattle.sf_script_scene.specs.Limits.{StepFits}
use Rattle.sf_script_scene.specs.Scene.{SceneValue}
use Rattle.sf_script_scene.specs.declared.step.Step.{Step}
use Rattle.sf_script.specs.Steps.{async_at, draw_at, most_at, on_point_at, on_queue_at, request_at, step_at}
use Rattle.sf_script.specs.Transactions.{apply_at, barrier_at, buffer_at, desire_at, merge_at, set_at, tx_at}
use Rattle.sf_script.proofs.steps.step_line.Goals as goal

pub returns-in-OnQueue-clause-given : goal.returns-in-OnQueue-clause-given
unfolding step_at
returns-in-OnQueue-clause-given c = rw c.in-OnQueue.is (c.unnamed_if_read.ensures.given (on_queue_at c.args.draft.now.scene c.in-OnQueue.form (words_of c.args.line.now)) (subst (λ (s : SceneValue). Gives {X = Step} {Y = Step} (λ x. x) c.on_queue.result (on_queue_at s c.in-OnQueue.form (words_of c.args.line.now))) c.scene.ensures c.on_queue.ensures.given))

pub returns-in-OnQueue-clause-fits : goal.returns-in-OnQueue-clause-fits
returns-in-OnQueue-clause-fits c = c.unnamed_if_read.ensures.fits c.args.draft.now (subst (λ (s : SceneValue). IfOk c.on_queue.result (StepFits s)) c.scene.ensures c.on_queue.ensures.fits)

pub returns-in-Most-clause-given : goal.returns-in-Most-clause-given
unfolding step_at
returns-in-Most-clause-given c = rw c.in-Most.is (c.unnamed_if_read-in-Most.ensures.given (most_at c.args.draft.now.scene c.in-Most.side (words_of c.args.line.now)) (subst (λ (s : SceneValue). Gives {X = Step} {Y = Step} (λ x. x) c.most.result (most_at s c.in-Most.side (words_of c.args.line.now))) c.scene-in-Most.ensures c.most.ensures.given))

pub returns-in-Most-clause-fits : goal.returns-in-Most-clause-fits
returns-in-Most-clause-fits c = c.unnamed_if_read-in-Most.ensures.fits c.args.draft.now (subst (λ (s : SceneValue). IfOk c.most.result (StepFits s)) c.scene-in-Most.ensures c.most.ensures.fits)

pub returns-in-Async-clause-given : goal.returns-in-Async-clause-given
unfolding step_at
returns-in-Async-clause-given c = rw c.in-Async.is (c.unnamed_if_read-in-Async.ensures.given (async_at c.args.draft.now.scene (words_of c.args.line.now)) (subst (λ (s : SceneValue). Gives {X = Step} {Y = Step} (λ x. x) c.asynchronous.result (async_at s (words_of c.args.line.now))) c.scene-in-Async.ensures c.asynchronous.ensures.given))

pub returns-in-Async-clause-fits : goal.returns-in-Async-clause-fits
returns-in-Async-clause-fits c = c.unnamed_if_read-in-Async.ensures.fits c.args.draft.now (subst (λ (s : SceneValue). IfOk c.asynchronous.result (StepFits s)) c.scene-in-Async.ensures c.asynchronous.ensures.fits)

pub returns-in-Request-clause-given : goal.returns-in-Request-clause-given
unfolding step_at
returns-in-Request-clause-given c = rw c.in-Request.is (c.unnamed_if_read-in-Request.ensures.given (request_at c.args.draft.now (words_of c.args.line.now)) c.request.ensures.given)

pub returns-in-Request-clause-fits : goal.returns-in-Request-clause-fits
returns-in-Request-clause-fits c = c.unnamed_if_read-in-Request.ensures.fits c.args.draft.now c.request.ensures.fits

pub returns-in-Draw-clause-given : goal.returns-in-Draw-clause-given
unfolding step_at
returns-in-Draw-clause-given c = rw c.in-Draw.is (c.unnamed_if_read-in-Draw.ensures.given (draw_at c.args.draft.now (words_of c.args.line.now)) c.draw.ensures.given)

pub returns-in-Draw-clause-fits : goal.returns-in-Draw-clause-fits
returns-in-Draw-clause-fits c = c.unnamed_if_read-in-Draw.ensures.fits c.args.draft.now c.draw.ensures.fits

pub returns-in-OnPoint-clause-given : goal.returns-in-OnPoint-clause-given
unfolding step_at
returns-in-OnPoint-clause-given c = rw c.in-OnPoint.is (c.unnamed_if_read-in-OnPoint.ensures.given (on_point_at c.args.draft.now.scene c.in-OnPoint.form (words_of c.args.line.now)) (subst (λ (s : SceneValue). Gives {X = Step} {Y = Step} (λ x. x) c.on_point.result (on_point_at s c.in-OnPoint.form (words_of c.args.line.now))) c.scene-in-OnPoint.ensures c.on_point.ensures.given))

pub returns-in-OnPoint-clause-fits : goal.returns-in-OnPoint-clause-fits
returns-in-OnPoint-clause-fits c = c.unnamed_if_read-in-OnPoint.ensures.fits c.args.draft.now (subst (λ (s : SceneValue). IfOk c.on_point.result (StepFits s)) c.scene-in-OnPoint.ensures c.on_point.ensures.fits)

pub returns-in-Tx-clause-given : goal.returns-in-Tx-clause-given
unfolding step_at
returns-in-Tx-clause-given c = rw c.in-Tx.is (c.unnamed_if_read-in-Tx.ensures.given (tx_at (words_of c.args.line.now)) c.tx.ensures.given)

pub returns-in-Tx-clause-fits : goal.returns-in-Tx-clause-fits
returns-in-Tx-clause-fits c = c.unnamed_if_read-in-Tx.ensures.fits c.args.draft.now (c.tx.ensures.fits c.args.draft.now.scene)

pub returns-in-Desire-clause-given : goal.returns-in-Desire-clause-given
unfolding step_at
returns-in-Desire-clause-given c = rw c.in-Desire.is (c.unnamed_if_read-in-Desire.ensures.given (desire_at (words_of c.args.line.now)) c.desire.ensures.given)

pub returns-in-Desire-clause-fits : goal.returns-in-Desire-clause-fits
returns-in-Desire-clause-fits c = c.unnamed_if_read-in-Desire.ensures.fits c.args.draft.now (c.desire.ensures.fits c.args.draft.now.scene)

pub returns-in-Buffer-clause-given : goal.returns-in-Buffer-clause-given
unfolding step_at
returns-in-Buffer-clause-given c = rw c.in-Buffer.is (c.unnamed_if_read-in-Buffer.ensures.given (buffer_at c.args.draft.now.names (words_of c.args.line.now)) c.buffer.ensures.given)

pub returns-in-Buffer-clause-fits : goal.returns-in-Buffer-clause-fits
returns-in-Buffer-clause-fits c = c.unnamed_if_read-in-Buffer.ensures.fits c.args.draft.now (c.buffer.ensures.fits c.args.draft.now.scene)

pub returns-in-Barrier-clause-given : goal.returns-in-Barrier-clause-given
unfolding step_at
returns-in-Barrier-clause-given c = rw c.in-Barrier.is (c.unnamed_if_read-in-Barrier.ensures.given (barrier_at (words_of c.args.line.now)) c.barrier.ensures.given)

pub returns-in-Barrier-clause-fits : goal.returns-in-Barrier-clause-fits
returns-in-Barrier-clause-fits c = c.unnamed_if_read-in-Barrier.ensures.fits c.args.draft.now (c.barrier.ensures.fits c.args.draft.now.scene)

pub returns-in-Merge-clause-given : goal.returns-in-Merge-clause-given
unfolding step_at
returns-in-Merge-clause-given c = rw c.in-Merge.is (c.unnamed_if_read-in-Merge.ensures.given (merge_at (words_of c.args.line.now)) c.merge.ensures.given)

pub returns-in-Merge-clause-fits : goal.returns-in-Merge-clause-fits
returns-in-Merge-clause-fits c = c.unnamed_if_read-in-Merge.ensures.fits c.args.draft.now (c.merge.ensures.fits c.args.draft.now.scene)

pub returns-in-Apply-clause-given : goal.returns-in-Apply-clause-given
unfolding step_at
returns-in-Apply-clause-given c = rw c.in-Apply.is (c.unnamed_if_read-in-Apply.ensures.given (apply_at (words_of c.args.line.now)) c.apply.ensures.given)

pub returns-in-Apply-clause-fits : goal.returns-in-Apply-clause-fits
returns-in-Apply-clause-fits c = c.unnamed_if_read-in-Apply.ensures.fits c.args.draft.now (c.apply.ensures.fits c.args.draft.now.scene)

pub returns-in-Set-clause-given : goal.returns-in-Set-clause-given
unfolding step_at
returns-in-Set-clause-given c = rw c.in-Set.is (c.unnamed_if_read-in-Set.ensures.given (set_at (words_of c.args.line.now)) c.set.ensures.given)

pub returns-in-Set-clause-fits : goal.returns-in-Set-clause-fits
returns-in-Set-clause-fits c = c.unnamed_if_read-in-Set.ensures.fits c.args.draft.now (c.set.ensures.fits c.args.draft.now.scene)
