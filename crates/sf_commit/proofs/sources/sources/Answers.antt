use Rattle.std.proofs.Common.{◌∙◌, ap, map}
use Rattle.std.specs.Option.{unwrap_or}
use Rattle.std.proofs.lemmas.List.{take_all}
use Rattle.sf_commit.proofs.ListLemmas.{map_more}
use Rattle.sf_commit.specs.Handlers.{source_of}
use Rattle.sf_commit.proofs.sources.sources.Goals as goal

pub loop-one-preserved : goal.loop-one-preserved
loop-one-preserved g c =
    let found = c.place_of.ensures in
    c.in_ok-push.ensures.items ∙ map_more (source_of c.args.on.now) c.args.drawn.now c.loop-one.sources.items c.loop-one.one-index _ c.in_ok-source_at.field-0 c.loop-one-test.true c.loop-one.invariant (c.in_ok-source_at.ensures ∙ ap (λ o. unwrap_or o 0) found)

pub returns : goal.returns
returns g c = c.loop-one.invariant ∙ ap (map (source_of c.args.on.now)) (take_all c.loop-one.one-index c.args.drawn.now c.loop-one-test.false)
