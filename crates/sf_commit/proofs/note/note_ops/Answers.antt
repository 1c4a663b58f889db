use Rattle.std.proofs.Common.{◌∙◌, ap}
use Rattle.sf_commit_next.specs.sf_ready.Facts.{FactsOf}
use Rattle.sf_commit.proofs.PressedLemmas.{comes_all, comes_on}
use Rattle.sf_commit.proofs.note.note_ops.Goals as goal

pub loop-layer-preserved : goal.loop-layer-preserved
loop-layer-preserved c =
    let frames = ap (λ (f : FactsOf). f.frames) c.in_ok-note_op.ensures.rest ∙ ap (λ (f : FactsOf). f.frames) c.loop-layer.invariant.0 in
    let fresh = ap (λ (f : FactsOf). f.fresh) c.in_ok-note_op.ensures.rest ∙ ap (λ (f : FactsOf). f.fresh) c.loop-layer.invariant.0 in (
      λ i. record { frames = frames i; fresh = fresh i; pressed = c.note_op.new.facts.pressed },
      comes_on c.args.ops.now c.loop-layer.layer-index _ c.args.facts.now.pressed c.loop-layer.facts.pressed c.note_op.new.facts.pressed c.loop-layer-test.true c.loop-layer.invariant.1 c.in_ok-note_op.ensures.pressed,
    )

pub returns : goal.returns
returns c = record {
  rest = c.loop-layer.invariant.0;
  pressed = comes_all c.args.ops.now c.loop-layer.layer-index c.args.facts.now.pressed c.loop-layer.facts.pressed c.loop-layer-test.false c.loop-layer.invariant.1;
}
