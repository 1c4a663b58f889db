use Rattle.std.proofs.Common.{◌≡◌, ◌-◌, ◌<◌, true, false, arith, rules, length, to_z, of_z, w32}
use Rattle.sf_tree.specs.inner.Known.{showing}
use Rattle.sf_tree.proofs.SortedLayers.{rising_all, rising_more, rising_same}
use Rattle.sf_tree.proofs.ShowLemmas.{layer_at}
use Rattle.sf_tree.proofs.ZOrder.{flag_is}
use Rattle.sf_tree.proofs.order.by_creation.Goals as goal

pub loop-place-preserved-then-not-flags-place : goal.loop-place-preserved-then-not-flags-place
loop-place-preserved-then-not-flags-place c =
    let inside : c.loop-place.place - 1 < length c.args.layers.now = omega (arith, c.loop-place.invariant.inside, c.loop-place-test.true) in
    let at = layer_at c.args.layers.now (c.loop-place.place - 1) inside in
    record {
      inside = omega (arith, c.loop-place.invariant.inside);
      rising = rising_same c.args.layers.now c.loop-place.place at.0 (to_z w32 c.loop-place.above-bits) c.loop-place.list.items c.loop-place-test.true at.1 (flag_is c.args.layers.now c.args.flags.now (c.loop-place.place - 1) _ false at.0 c.requires at.1 c.if-not-flags-place.true) c.loop-place.invariant.rising;
    }

pub loop-place-preserved : goal.loop-place-preserved
loop-place-preserved c =
    let fit : to_z w32 (of_z w32 c.at-z.result.z) ≡ c.at-z.result.z = search rules in
    record {
      inside = omega (arith, c.loop-place.invariant.inside);
      rising = rw fit (rising_more c.args.layers.now c.loop-place.place c.at-z.result (to_z w32 c.loop-place.above-bits) c.loop-place.list.items c.push.new.self.items c.loop-place-test.true c.at-z.ensures (flag_is c.args.layers.now c.args.flags.now (c.loop-place.place - 1) _ true c.at-z.result c.requires c.at-z.ensures c.if-not-flags-place.false) (rw fit at c.if-z-above.false) c.in_ok-push.ensures.items c.loop-place.invariant.rising);
    }

pub returns : goal.returns
unfolding showing
returns c = rising_all c.args.layers.now c.loop-place.place (to_z w32 c.loop-place.above-bits) c.loop-place.list.items c.reverse.new.self.items (omega (arith, c.loop-place-test.false)) c.reverse.ensures.items c.loop-place.invariant.rising
