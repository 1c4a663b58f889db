use Rattle.std.proofs.Common.{◌<◌, ◌+◌, length, sym, ◌∙◌, refl, arith}
use Rattle.sf_tree.proofs.ShowLemmas.{Outranks-le, Outranks-tree, written_back, layer_at, map-take-more}
use Rattle.sf_tree.specs.Showing.{shows}
use Rattle.sf_tree.proofs.showing.showing.Goals as goal

pub show-requires-clause-steps : goal.show-requires-clause-steps
show-requires-clause-steps c layer at =
    Outranks-le c.args.layers.now layer _ (c.len-in-loop-place.result + 1) (Outranks-tree c.args.layers.now c.loop-place.place layer c.requires.distinct c.requires.tied c.requires.no_cycle at) (omega (arith, c.len-in-loop-place.ensures))

pub loop-place-preserved : goal.loop-place-preserved
loop-place-preserved c =
    let inside : c.loop-place.place < length c.args.layers.now = omega (arith, c.loop-place-test.true, c.len-place-end.ensures) in
    let at = layer_at c.args.layers.now c.loop-place.place inside in
    record {
      known = rw (written_back c.show.new.known c.loop-place.known.items c.loop-place.known.len (c.show.ensures.known.size ∙ sym c.loop-place.invariant.known.size) c.loop-place.known.ok.0) c.show.ensures.known;
      shown = c.in_ok-push.ensures.items ∙ (rw (map-take-more (shows c.args.layers.now) c.args.layers.now c.loop-place.place at.0 inside at.1, c.loop-place.invariant.shown, c.show.ensures.shown at.0 at.1) refl);
    }
