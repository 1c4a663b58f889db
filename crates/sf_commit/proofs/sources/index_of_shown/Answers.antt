use Rattle.std.proofs.Common.{List, ◌∙◌, ap, get_or, subst, sym, take}
use Rattle.std.specs.Prelude.{◌≢◌}
use Rattle.std.proofs.lemmas.Bool.{false≢true}
use Rattle.std.proofs.lemmas.List.{get_or_default, take_all, take_more}
use Rattle.std.proofs.lemmas.List.Elements.{All-push}
use Rattle.sf_commit.specs.OnLayers.{AreOthers, OnLayer}
use Rattle.sf_commit.proofs.sources.index_of_shown.Goals as goal

pub loop-place-preserved : goal.loop-place-preserved
loop-place-preserved g c =
    let on : List (OnLayer g.row.L.Denot) = c.args.on.now in
    let one : OnLayer g.row.L.Denot = c.index-on-place.result in
    let shown = c.args.shown.now in
    let other : (get_or on c.loop-place.place one).shown ≢ shown = λ same.
    false≢true (sym c.if-is_shown.false ∙ c.is_shown.ensures.1 (ap (λ (x : OnLayer g.row.L.Denot). x.shown) c.index-on-place.is ∙ same)) in
    subst (AreOthers shown) (sym (take_more on c.loop-place.place one c.loop-place-test.true))
    (All-push (λ (x : OnLayer g.row.L.Denot). x.shown ≢ shown) (take c.loop-place.place on) (get_or on c.loop-place.place one) c.loop-place.invariant other)

pub returns-then-is_shown : goal.returns-then-is_shown
returns-then-is_shown g c =
    let one : OnLayer g.row.L.Denot = c.index-on-place.result in (
      c.loop-place-test.true,
      (λ d. ap (λ (x : OnLayer g.row.L.Denot). x.shown) (get_or_default c.args.on.now c.loop-place.place d one c.loop-place-test.true ∙ sym c.index-on-place.is) ∙ c.is_shown.ensures.0 c.if-is_shown.true),
      c.loop-place.invariant,
    )

pub returns : goal.returns
returns g c = subst (AreOthers c.args.shown.now) (take_all c.loop-place.place c.args.on.now c.loop-place-test.false) c.loop-place.invariant
