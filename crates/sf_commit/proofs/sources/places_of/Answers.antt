use Rattle.std.proofs.Common.{◌-◌, ◌∙◌, ap, arith}
use Rattle.sf_commit.proofs.PlaceLemmas.{places_all, places_more, places_none}
use Rattle.sf_commit.specs.OnLayers.{OnLayer}
use Rattle.sf_commit.proofs.sources.places_of.Goals as goal

pub loop-place-init : goal.loop-place-init
loop-place-init g c = record { inside = omega arith; found = places_none c.args.on.now c.new-places.result c.new-places.ensures.empty }

pub loop-place-preserved : goal.loop-place-preserved
loop-place-preserved g c =
    let i = c.loop-place.place - 1 in
    let inside = c.loop-place.invariant.inside in
    let some = c.loop-place-test.true in
    let number = ap (λ (x : OnLayer g.row.L.Denot). x.layer.0) (c.one.view_is ∙ c.index-on-place.is) in
    record {
      inside = omega (arith, inside);
      found = places_more c.args.on.now i c.loop-place.place c.index-on-place.result c.one.inside.layer.0 c.loop-place.places c.insert.new.self (omega (arith, some)) (omega (arith, inside, some)) c.loop-place.invariant.found number (λ q. c.in_ok-insert.ensures.updates.0 q);
    }

pub returns : goal.returns
returns g c = places_all c.args.on.now c.loop-place.place c.loop-place.places c.loop-place-test.false c.loop-place.invariant.found
