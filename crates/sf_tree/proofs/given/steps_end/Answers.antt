use Rattle.std.proofs.Common.{◌≡◌, ◌∙◌, sym, ◌<◌, length, true, arith}
use Rattle.std.proofs.lemmas.List.{length-replicate}
use Rattle.sf_tree.specs.inner.Ranking.{rank_by, AllLeadLower}
use Rattle.sf_tree.proofs.RankingLemmas.{IsFoundUpTo, found_at_place, found_more, none_found}
use Rattle.sf_tree.proofs.Ranks.{bounded_rank}
use Rattle.sf_tree.proofs.ShowLemmas.{inside_from_slice_get, layer_at, written_back}
use Rattle.sf_tree.proofs.given.steps_end.Goals as goal

pub loop-place-init : goal.loop-place-init
loop-place-init c =
    rw (c.in_ok-ranks.ensures.items_if_clones_equal (λ y e. e)) record {
      size = length-replicate c.len.result 0 ∙ c.len.ensures;
      found = λ ranking bounded tied. none_found c.args.layers.now ranking c.len.result bounded tied c.len.ensures;
    }

pub loop-place-preserved : goal.loop-place-preserved
loop-place-preserved c =
    let inside : c.loop-place.place < length c.args.layers.now = omega (arith, c.loop-place-test.true, c.len-place-end.ensures) in
    let at = layer_at c.args.layers.now c.loop-place.place inside in
    let here : length c.rank.new.ranks ≡ length c.loop-place.ranks.items = c.rank.ensures.size ∙ sym c.loop-place.invariant.size in
    rw (written_back c.rank.new.ranks c.loop-place.ranks.items c.loop-place.ranks.len here c.loop-place.ranks.ok.0) record {
      size = c.rank.ensures.size;
      found = λ ranking bounded tied.
          let up : IsFoundUpTo c.args.layers.now ranking c.deref_mut.result.now c.loop-place.place = rw c.deref_mut.ensures.value (c.loop-place.invariant.found ranking bounded tied) in
          found_more c.args.layers.now ranking c.deref_mut.result.now c.rank.new.ranks c.loop-place.place c.rank.result up c.rank.ensures.kept
          (c.rank.ensures.found ranking at.0 up.sound at.1 (omega (arith, bounded.bounded at.0.number at.0 (found_at_place c.args.layers.now c.requires.distinct c.loop-place.place at.0 at.1), c.len-in-loop-place.ensures)))
          c.rank.ensures.at;
    }

pub returns-clause-no_cycle : goal.returns-clause-no_cycle
returns-clause-no_cycle c = λ t.
    let all : c.all_lead_lower.result ≡ true = cc in
    record { rank = rank_by c.args.layers.now c.deref.result.now; ranked = c.all_lead_lower.ensures.ranked all }

pub returns-clause-no : goal.returns-clause-no
returns-clause-no c = λ f tied no_cycle.
    let low = bounded_rank c.args.layers.now tied no_cycle in
    let up = c.loop-place.invariant.found low.0 low.1 tied in
    let all : AllLeadLower c.args.layers.now c.loop-place.ranks.items = λ place layer at. up.sound.lower place layer at (up.noted place (omega (arith, inside_from_slice_get c.args.layers.now place layer at, c.loop-place-test.false, c.len-place-end.ensures))) in
    let yes : c.all_lead_lower.result ≡ true = c.all_lead_lower.ensures.yes (rw c.deref.ensures.value all) in cc
