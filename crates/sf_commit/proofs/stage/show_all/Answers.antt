use Rattle.std.proofs.Common.{◌∙◌, ◌∷◌, ap, sym, arith}
use Rattle.sf_commit.proofs.ListLemmas.{empty_of}
use Rattle.sf_commit.proofs.ShownLemmas.{rest_all, rest_destroyed, rest_first, rest_none, rest_passed, rest_shown}
use Rattle.sf_commit.proofs.stage.show_all.Goals as goal
use Rattle.sf_commit.proofs.stage.show_all.Goals.{in-Show+in-Some+in_ok-show-in-Show, in-Show+in_default-next, in-Destroy+in_ok-leave-in-Destroy, in_default}

pub loop-layer-init : goal.loop-layer-init
loop-layer-init g c = rest_first c.args.ops.now c.args.buffers.items c.into_iter-waiting.result.rest.items c.args.on.now.items c.args.gone.now.items c.into_iter-waiting.ensures.rest

pub loop-layer-preserved : goal.loop-layer-preserved
loop-layer-preserved g c =
    let on = c.loop-layer.on.items in
    let gone = c.loop-layer.gone.items in
    let waiting = c.loop-layer.waiting.rest in
    elim c.match-op.branch [
      | in-Show+in-Some+in_ok-show-in-Show w ↦ rest_shown _ _ c.args.ops.now c.loop-layer.layer-index _ w.in-Show.field-0 w.in-Some.buffer waiting.items c.match-op.waiting.rest.items
          on c.match-op.on.items gone c.match-op.gone.items c.loop-layer-test.true w.in-Show.is
          (w.in-Some.ensures.items ∙ ap (λ v. w.in-Some.buffer ∷ v.rest.items) (sym w.waiting-is))
          (ap (λ v. v.items) w.on-is ∙ w.in_ok-show-in-Show.ensures.on) (ap (λ v. v.items) w.gone-is ∙ w.in_ok-show-in-Show.ensures.gone) c.loop-layer.invariant
      | in-Show+in_default-next w ↦
          let none = empty_of waiting.items (omega (arith, waiting.ok.0, w.in_default-next.ensures.cases.0)) in
          rest_none _ _ c.args.ops.now c.loop-layer.layer-index _ w.in-Show.field-0 waiting.items c.match-op.waiting.rest.items
          on c.match-op.on.items gone c.match-op.gone.items c.loop-layer-test.true w.in-Show.is none
          (ap (λ v. v.rest.items) w.waiting-is ∙ (sym w.in_default-next.ensures.items ∙ none)) (ap (λ v. v.items) w.on-is) (ap (λ v. v.items) w.gone-is) c.loop-layer.invariant
      | in-Destroy+in_ok-leave-in-Destroy w ↦ rest_destroyed _ _ c.args.ops.now c.loop-layer.layer-index _ waiting.items c.match-op.waiting.rest.items
          on c.match-op.on.items gone c.match-op.gone.items c.loop-layer-test.true w.in-Destroy.is (ap (λ v. v.rest.items) w.waiting-is)
          (ap (λ v. v.items) w.on-is ∙ w.in_ok-leave-in-Destroy.ensures.on) (ap (λ v. v.items) w.gone-is ∙ w.in_ok-leave-in-Destroy.ensures.gone) c.loop-layer.invariant
      | in_default w ↦ rest_passed _ _ c.args.ops.now c.loop-layer.layer-index _ waiting.items c.match-op.waiting.rest.items
          on c.match-op.on.items gone c.match-op.gone.items c.loop-layer-test.true w.in_default.not-Show w.in_default.not-Destroy (ap (λ v. v.rest.items) w.waiting-is)
          (ap (λ v. v.items) w.on-is) (ap (λ v. v.items) w.gone-is) c.loop-layer.invariant
    ]

pub returns-clause-on : goal.returns-clause-on
returns-clause-on g c = (rest_all _ _ c.args.ops.now c.loop-layer.layer-index c.loop-layer.waiting.rest.items c.loop-layer.on.items c.loop-layer.gone.items c.loop-layer-test.false c.loop-layer.invariant).0

pub returns-clause-gone : goal.returns-clause-gone
returns-clause-gone g c = (rest_all _ _ c.args.ops.now c.loop-layer.layer-index c.loop-layer.waiting.rest.items c.loop-layer.on.items c.loop-layer.gone.items c.loop-layer-test.false c.loop-layer.invariant).1
