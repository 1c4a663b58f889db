use Rattle.std.proofs.Common.{◌≡◌, ℤ, List}
use Rattle.std.proofs.lemmas.Result.{IfOk-weaker}
use Rattle.sf_base.specs.declared.geometry.Rect.{Rect}
use Rattle.sf_region.specs.Points.{has}
use Rattle.sf_damage.proofs.DiffersLemmas.{IsJoin}
use Rattle.sf_damage.proofs.GatheredLemmas.{halves-behind, pair-points}
use Rattle.sf_damage.proofs.gathered.+region_of.Goals as goal

pub returns-in_ok-other-in_default : goal.returns-in_ok-other-in_default
returns-in_ok-other-in_default t c =
    IfOk-weaker c.join.result (IsJoin c.in_ok-one-in_default.one c.in_ok-other-in_default.other) (λ (region : List Rect). (x y : ℤ) → has region x y ≡ has c.args.rects.now x y)
    (λ region joined. halves-behind c.args.rects.now c.in_ok-one-in_default.one c.in_ok-other-in_default.other region _ c.in_ok-one-in_default.ensures c.in_ok-other-in_default.ensures joined)
    c.join.ensures

pub returns-in_ok-rect-in-len2 : goal.returns-in_ok-rect-in-len2
returns-in_ok-rect-in-len2 t c =
    pair-points c.args.rects.now _ _ c.in_ok-rect-in-len2.field-0 c.in-len2.len_at_least c.in-len2.len_below (c.are_same.ensures.0 c.if-are_same.true) c.in_ok-rect-in-len2.ensures
