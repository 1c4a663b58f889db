use Rattle.std.proofs.Common.{◌<◌, ℕ, arith, ap, ◌∙◌, length}
use Rattle.circular_buffer.specs.Buffer.{Buffer, buffer}
use Rattle.sf_slots.specs.Queue.{rotated}
use Rattle.sf_slots.proofs.Lists.{rotated-step, rotated-all, length-rotated}
use Rattle.sf_slots.proofs.rings.remove.Goals as goal

pub loop-preserved : goal.loop-preserved
loop-preserved c =
    let more : c.loop.counter < length c.args.list.now.items = omega arith in
    record {
      rotated = c.rotate.ensures
          ∙ ap (λ (b : Buffer ℕ). buffer (rotated c.args.number b.items) b.capacity) c.loop.invariant.rotated
          ∙ ap (λ xs. buffer xs c.args.list.now.capacity) (rotated-step c.args.list.now.items c.args.number c.loop.counter more);
      room = rw c.rotate.ensures (omega (arith, length-rotated c.loop.list.items c.args.number));
    }

pub returns : goal.returns
returns c = c.loop.invariant.rotated ∙ ap (λ xs. buffer xs c.args.list.now.capacity) (rotated-all c.args.list.now.items c.args.number c.loop.counter (omega arith))
