use Rattle.std.proofs.Common.{◌≡◌, ◌∙◌, ℤ, List, ap}
use Rattle.std.proofs.lemmas.Result.{IfOk-weaker}
use Rattle.sf_base.specs.declared.geometry.Rect.{Rect}
use Rattle.sf_region.specs.Points.{has}
use Rattle.sf_damage.specs.Damage.{DamagesLists}
use Rattle.sf_damage.proofs.WindowLemmas.{Damages-everywhere}
use Rattle.sf_damage.proofs.windows.differing_by_windows.Goals as goal

pub returns : goal.returns
returns c =
    IfOk-weaker c.region_of.result (λ region. (x y : ℤ) → has region x y ≡ has c.deref.result.now x y) (DamagesLists c.args.olds.now c.args.news.now)
    (λ region same.
    Damages-everywhere c.args.olds.now c.args.news.now c.in_ok-rects.rects.items region c.requires.olds c.requires.news c.in_ok-rects.ensures
    (λ x y. same x y ∙ ap (λ (rects : List Rect). has rects x y) c.deref.ensures.value))
    c.region_of.ensures
