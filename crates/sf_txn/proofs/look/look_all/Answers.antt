use Rattle.std.proofs.Common.{◌≡◌, ◌+◌, ◌++◌, ◌≤◌, ◌<◌, ◌∷◌, [], ◌∙◌, Bool, List, length, ap, arith, append_assoc, vec_capacity, vec_len}
use Rattle.std.proofs.lemmas.Grind.{common_steps}
use Rattle.sf_txn.proofs.BufferLooks.{LookedBelow-more, next-fits}
use Rattle.sf_txn.proofs.look.look_all.Goals as goal

pub look-is_drawn-requires : goal.look-is_drawn-requires
look-is_drawn-requires g c =
    next-fits g.L.Lease c.args.eye.now c.loop-index.eye c.args.buffers.now c.loop-index.buffers c.loop-index.invariant.below.0 c.loop-index.index c.index-buffers-index.result c.loop-index-test.true c.loop-index.auto.buffers c.loop-index.invariant.below.2 c.requires.fits

pub loop-index-preserved : goal.loop-index-preserved
loop-index-preserved g c =
    let below = c.loop-index.invariant.below in
    let inside : c.loop-index.index < length c.args.buffers.now = omega (arith, c.loop-index-test.true, c.loop-index.auto.buffers) in
    let free : vec_len c.loop-index.drawn < vec_capacity c.loop-index.drawn = omega (arith, c.loop-index.invariant.room) in
    let pushed : c.push.new.self.items ≡ c.loop-index.drawn.items ++ c.look-is_drawn.result ∷ [] = grind (arith, common_steps) in
    let len : vec_len c.push.new.self ≤ vec_len c.loop-index.drawn + 1 = grind (arith, common_steps) in
    let capacity : vec_capacity c.loop-index.drawn ≤ vec_capacity c.push.new.self = grind (arith, common_steps) in
    record {
      inside = omega arith;
      below = (
        below.0 ++ g.L.Lease.shown c.look-is_drawn.new.self.lease ∷ [],
        rw c.look-is_drawn.ensures.shown (pushed ∙ (ap (λ (xs : List Bool). xs ++ c.look-is_drawn.result ∷ []) below.1 ∙ append_assoc c.args.drawn.now.items below.0 (c.look-is_drawn.result ∷ []))),
        LookedBelow-more g.L.Lease c.args.eye.now c.loop-index.eye c.look-is_drawn.new.eye c.args.buffers.now c.loop-index.buffers below.0 c.loop-index.index c.index-buffers-index.result c.look-is_drawn.new.self c.loop-index-test.true c.loop-index.auto.buffers c.look-is_drawn.ensures.looked c.look-is_drawn.ensures.told c.look-is_drawn.ensures.eye below.2,
      );
      room = omega (arith, len, capacity, c.loop-index.invariant.room);
      capacity = omega (arith, capacity, c.loop-index.invariant.capacity);
    }
