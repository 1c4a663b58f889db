use Rattle.std.proofs.Common.{◌≡◌, ◌∙◌, List, ap, subst, reverse}
use Rattle.sf_base.specs.Geometry.{covers}
use Rattle.sf_region.specs.Points.{has}
use Rattle.sf_view.specs.Views.{ViewOf}
use Rattle.sf_view.specs.declared.drawn.Drawn.{Drawn}
use Rattle.sf_damage.specs.Visible.{AreVisibleAt, AreWithin}
use Rattle.sf_damage.proofs.VisibleLemmas.{AreVisibleAt-within}
use Rattle.sf_damage.proofs.shown.visible.Goals as goal

pub returns-clause-visible : goal.returns-clause-visible
returns-clause-visible c =
    let layers : c.as_slice.result.now ≡ c.args.view.now.drawn = c.as_slice.ensures ∙ ap (λ (v : ViewOf). v.drawn) c.view.view_is in
    rw c.reverse.ensures.items (AreVisibleAt-within (covers c.bounds-window.result) (has c.args.part.now) c.args.view.now.drawn (reverse c.in_ok-shown.shown.items) c.bounds-window.ensures.points
    (subst (λ (drawn : List Drawn). AreVisibleAt (covers c.bounds-window.result) drawn (reverse c.in_ok-shown.shown.items)) layers c.in_ok-shown.ensures.visible))

pub returns-clause-within : goal.returns-clause-within
returns-clause-within c =
    let layers : c.as_slice.result.now ≡ c.args.view.now.drawn = c.as_slice.ensures ∙ ap (λ (v : ViewOf). v.drawn) c.view.view_is in
    rw c.reverse.ensures.items (subst (λ (drawn : List Drawn). AreWithin drawn (reverse c.in_ok-shown.shown.items)) layers c.in_ok-shown.ensures.within)
