use Rattle.std.proofs.Common.{◌≡◌, ◌+◌, ◌<◌, false, List, [], ◌∷◌, length, ap, sym, subst, arith, length-append, length-drop}
use Rattle.std.specs.List.{All}
use Rattle.std.proofs.lemmas.List.Elements.{All-push}
use Rattle.sf_base.specs.declared.ids.LayerId.{LayerId}
use Rattle.sf_output_shown.specs.Copies.{IsLeastFree, is_free}
use Rattle.sf_mirror.specs.inner.Marks.{AreMarks}
use Rattle.sf_mirror.proofs.NamingLemmas.{named_all, named_one, still_taken}
use Rattle.sf_mirror.proofs.naming.name_all.Goals as goal

pub loop-layer-preserved : goal.loop-layer-preserved
loop-layer-preserved c =
    let least : IsLeastFree c.loop-layer.taken.items c.least_free-number.result = subst (λ (l : List LayerId). IsLeastFree l c.least_free-number.result) c.deref-in-loop-layer.ensures.value c.least_free-number.ensures in
    let grown = ap length c.in_ok-push-2.ensures.items in
    let inside = c.loop-layer-test.true in
    let few = c.loop-layer.invariant.few in
    record {
      low = omega arith;
      below = λ k low high. subst (λ (l : List LayerId). is_free l k ≡ false) (sym c.in_ok-push-2.ensures.items) (still_taken c.loop-layer.taken.items c.least_free-number.result least.below k low high);
      marked = subst (λ (l : List LayerId). AreMarks l c.mark.new.marks.items) (sym c.in_ok-push-2.ensures.items) (c.mark.ensures c.loop-layer.taken.items c.loop-layer.invariant.marked);
      few = omega (arith, grown, length-append c.loop-layer.taken.items (record { 0 = c.least_free-number.result } ∷ []), length-drop c.loop-layer.layer-index c.args.layers.now, length-drop (c.loop-layer.layer-index + 1) c.args.layers.now, inside, few);
      value = rw (c.in_ok-push.ensures.items, c.in_ok-push-2.ensures.items)
          (named_one c.loop-layer.names.items c.loop-layer.taken.items c.args.layers.now c.loop-layer.layer-index (c.loop-layer.layer-index + 1) c.least_free-number.result _ _ (omega arith) inside least c.loop-layer.invariant.value);
      positive = subst (λ (l : List (LayerId × LayerId)). All (λ (n : LayerId × LayerId). 0 < n.1.0) l) (sym c.in_ok-push.ensures.items)
          (All-push (λ (n : LayerId × LayerId). 0 < n.1.0) c.loop-layer.names.items _ c.loop-layer.invariant.positive least.low);
    }

pub returns-clause-value : goal.returns-clause-value
returns-clause-value c = named_all c.loop-layer.names.items c.loop-layer.taken.items c.args.layers.now c.loop-layer.layer-index _ c.loop-layer-test.false c.loop-layer.invariant.value
