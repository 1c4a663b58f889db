use Rattle.std.proofs.Common.{◌≡◌, ◌∙◌, ap, sym, subst}
use Rattle.std.specs.List.{filter}
use Rattle.std.proofs.lemmas.List.{take_all}
use Rattle.std.proofs.lemmas.List.Elements.{All-filter}
use Rattle.sf_region.specs.Points.{IsInBounds}
use Rattle.sf_view.specs.declared.drawn.Drawn.{Drawn}
use Rattle.sf_damage.specs.Damage.{AreNear, meets_clip}
use Rattle.sf_damage.proofs.windows.layers_in.Goals as goal

pub returns-clause-near : goal.returns-clause-near
returns-clause-near c =
    let p = meets_clip c.args.window.now in
    let all : c.loop-drawn.kept.items ≡ filter p c.args.layers.now = c.loop-drawn.invariant ∙ ap (filter p) (take_all c.loop-drawn.drawn-index c.args.layers.now c.loop-drawn-test.false) in
    subst AreNear (sym all) (All-filter p (λ (d : Drawn). IsInBounds d.clip) c.args.layers.now c.requires)
