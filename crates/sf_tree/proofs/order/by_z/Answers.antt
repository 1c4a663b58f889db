use Rattle.std.proofs.Common.{◌≡◌, ◌-◌, ◌<◌, true, false, arith, rules, length, to_z, of_z, w32}
use Rattle.sf_tree.specs.inner.Known.{showing}
use Rattle.sf_tree.proofs.ShowLemmas.{layer_at}
use Rattle.sf_tree.proofs.ZOrder.{flag_is, sorted_more, sorted_same, all_sorted, ok_weaker}
use Rattle.sf_tree.proofs.order.by_z.Goals as goal

pub loop-place-preserved-in_ok-insert : goal.loop-place-preserved-in_ok-insert
loop-place-preserved-in_ok-insert c =
    let fit : to_z w32 (of_z w32 c.at.result.z) ≡ c.at.result.z = search rules in
    record {
      inside = omega (arith, c.loop-place.invariant.inside);
      sorted = sorted_more c.args.layers.now c.loop-place.place c.at.result c.loop-place.sorted.entries c.insert.new.self.entries c.loop-place-test.true c.at.ensures (flag_is c.args.layers.now c.args.flags.now (c.loop-place.place - 1) _ true c.at.result c.requires c.at.ensures c.if-flags-place.true) (rw fit at c.in_ok-insert.ensures.entries) c.loop-place.invariant.sorted;
    }

pub loop-place-preserved : goal.loop-place-preserved
loop-place-preserved c =
    let inside : c.loop-place.place - 1 < length c.args.layers.now = omega (arith, c.loop-place.invariant.inside, c.loop-place-test.true) in
    let at = layer_at c.args.layers.now (c.loop-place.place - 1) inside in
    record {
      inside = omega (arith, c.loop-place.invariant.inside);
      sorted = sorted_same c.args.layers.now c.loop-place.place at.0 c.loop-place.sorted.entries c.loop-place-test.true at.1 (flag_is c.args.layers.now c.args.flags.now (c.loop-place.place - 1) _ false at.0 c.requires at.1 c.if-flags-place.false) c.loop-place.invariant.sorted;
    }

pub returns : goal.returns
unfolding showing
returns c = ok_weaker _ _ c.places.result (λ list is. rw is (all_sorted c.args.layers.now c.loop-place.place c.loop-place.sorted.entries (omega (arith, c.loop-place-test.false)) c.loop-place.invariant.sorted)) c.places.ensures
