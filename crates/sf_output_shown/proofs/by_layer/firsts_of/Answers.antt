use Rattle.std.proofs.Common.{◌≡◌, ◌-◌, Some, arith, cond, subst}
use Rattle.std.specs.BTreeMap.{get, is_at}
use Rattle.std.specs.Ordering.{nat_cmp}
use Rattle.sf_base.specs.declared.ids.LayerId.{LayerId}
use Rattle.sf_output_shown.proofs.ByLayerLemmas.{IsIndex-all, IsIndex-more, IsIndex-none}
use Rattle.sf_output_shown.proofs.by_layer.firsts_of.Goals as goal

pub loop-index-init : goal.loop-index-init
loop-index-init g c = record { inside = omega arith; found = IsIndex-none c.args.notes.now c.new-firsts.result c.new-firsts.ensures.empty }

pub loop-index-preserved : goal.loop-index-preserved
loop-index-preserved g c =
    let i = c.loop-index.index - 1 in
    let inside = c.loop-index.invariant.inside in
    let some = c.loop-index-test.true in
    let note = c.index-notes-index.result in
    record {
      inside = omega (arith, inside);
      found = IsIndex-more c.args.notes.now i c.loop-index.index note c.loop-index.firsts c.insert.new.self (omega (arith, some)) (omega (arith, inside, some)) c.loop-index.invariant.found (λ q.
          subst (λ (n : LayerId × g.row.T.Denot). get nat_cmp c.insert.new.self q ≡ cond (is_at (nat_cmp n.0.0) q) (Some n.1) (get nat_cmp c.loop-index.firsts q)) c.index-notes-index.is (c.in_ok-insert.ensures.updates.0 q));
    }

pub returns : goal.returns
returns g c = IsIndex-all c.args.notes.now c.loop-index.index c.loop-index.firsts c.loop-index-test.false c.loop-index.invariant.found
