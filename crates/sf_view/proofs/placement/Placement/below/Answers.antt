use Rattle.std.proofs.Common.{◌≡◌, ◌&&◌, sym, ap, ◌∙◌, arith, rules, to_z, of_z, w32, ℤ, ◌+ℤ◌, length, ℕ}
use Rattle.std.proofs.lemmas.Int.{ints}
use Rattle.sf_base.specs.Blend.{product}
use Rattle.sf_tree.specs.sf_layer.Ranges.{IsCrop}
use Rattle.sf_view.specs.Ancestry.{is_in_crops, place_of}
use Rattle.sf_view.specs.Placements.{is_in_display}
use Rattle.sf_view.specs.inner.Intervals.{is_in_interval}
use Rattle.sf_view.proofs.PlacementLemmas.{and_true, IsInReach-step, regroup}
use Rattle.sf_view.proofs.placement.Placement.below.Goals as goal

pub cut-requires-clause-end : goal.cut-requires-clause-end
cut-requires-clause-end c =
    let crop : IsCrop c.in-Some.crop = rw c.in-Some.is at c.requires.in_range.crop in
    omega (arith, ints, c.moved.ensures, c.moved-x.ensures, crop.left.high, crop.width, c.requires.near.0.high, c.requires.in_range.x.high)

pub cut-requires-in-Some-clause-end : goal.cut-requires-in-Some-clause-end
cut-requires-in-Some-clause-end c =
    let crop : IsCrop c.in-Some.crop = rw c.in-Some.is at c.requires.in_range.crop in
    omega (arith, ints, c.moved-in-Some.ensures, c.moved-y.ensures, crop.top.high, crop.height, c.requires.near.1.high, c.requires.in_range.y.high)

pub returns-in-Some : goal.returns-in-Some
returns-in-Some c width height above p =
    let fit_x : to_z w32 (of_z w32 c.moved-x.result) ≡ c.moved-x.result = search rules in
    let fit_y : to_z w32 (of_z w32 c.moved-y.result) ≡ c.moved-y.result = search rules in
    let self_x : to_z w32 (of_z w32 c.args.self.x) ≡ c.args.self.x = search rules in
    let self_y : to_z w32 (of_z w32 c.args.self.y) ≡ c.args.self.y = search rules in
    let by_x : to_z w32 (of_z w32 c.args.layer.now.position.0) ≡ c.args.layer.now.position.0 = search rules in
    let by_y : to_z w32 (of_z w32 c.args.layer.now.position.1) ≡ c.args.layer.now.position.1 = search rules in
    let crop_x : to_z w32 (of_z w32 c.in-Some.crop.x) ≡ c.in-Some.crop.x = search rules in
    let crop_y : to_z w32 (of_z w32 c.in-Some.crop.y) ≡ c.in-Some.crop.y = search rules in
    let fit_left : to_z w32 (of_z w32 c.moved.result) ≡ c.moved.result = search rules in
    let fit_top : to_z w32 (of_z w32 c.moved-in-Some.result) ≡ c.moved-in-Some.result = search rules in
    let moved_x : c.moved-x.result ≡ c.args.self.x +ℤ c.args.layer.now.position.0 = rw (self_x, by_x) at c.moved-x.ensures in
    let moved_y : c.moved-y.result ≡ c.args.self.y +ℤ c.args.layer.now.position.1 = rw (self_y, by_y) at c.moved-y.ensures in
    let place_x : c.moved-x.result ≡ (place_of above).0 +ℤ c.args.layer.now.position.0 = moved_x ∙ ap (λ (z : ℤ). z +ℤ c.args.layer.now.position.0) p.x in
    let place_y : c.moved-y.result ≡ (place_of above).1 +ℤ c.args.layer.now.position.1 = moved_y ∙ ap (λ (z : ℤ). z +ℤ c.args.layer.now.position.1) p.y in
    let left : c.moved.result ≡ c.moved-x.result +ℤ c.in-Some.crop.x = rw (fit_x, crop_x) at c.moved.ensures in
    let top : c.moved-in-Some.result ≡ c.moved-y.result +ℤ c.in-Some.crop.y = rw (fit_y, crop_y) at c.moved-in-Some.ensures in
    record {
      x = fit_x ∙ place_x;
      y = fit_y ∙ place_y;
      alpha = c.mul-alpha.ensures ∙ ap (λ (a : ℕ). product a c.args.layer.now.alpha) p.alpha;
      bounds = λ x y. rw (c.in-Some.is, c.cut.ensures.points x, c.cut-in-Some.ensures.points y, fit_left, fit_top, left, top, place_x, place_y) (regroup (is_in_interval c.args.self.across x) (is_in_interval c.args.self.down y) _ _ (is_in_display width height x y) (is_in_crops above x y) (p.bounds x y));
      on_display = record {
        left = omega (arith, ints, p.on_display.left, c.cut.ensures.from);
        right = omega (arith, ints, p.on_display.right, c.cut.ensures.to);
        top = omega (arith, ints, p.on_display.top, c.cut-in-Some.ensures.from);
        bottom = omega (arith, ints, p.on_display.bottom, c.cut-in-Some.ensures.to);
      };
      near_x = rw (fit_x, moved_x) (IsInReach-step (length above) c.args.self.x c.args.layer.now.position.0 p.near_x c.requires.in_range.x);
      near_y = rw (fit_y, moved_y) (IsInReach-step (length above) c.args.self.y c.args.layer.now.position.1 p.near_y c.requires.in_range.y);
    }

pub returns-in-None : goal.returns-in-None
returns-in-None c width height above p =
    let fit_x : to_z w32 (of_z w32 c.moved-x.result) ≡ c.moved-x.result = search rules in
    let fit_y : to_z w32 (of_z w32 c.moved-y.result) ≡ c.moved-y.result = search rules in
    let self_x : to_z w32 (of_z w32 c.args.self.x) ≡ c.args.self.x = search rules in
    let self_y : to_z w32 (of_z w32 c.args.self.y) ≡ c.args.self.y = search rules in
    let by_x : to_z w32 (of_z w32 c.args.layer.now.position.0) ≡ c.args.layer.now.position.0 = search rules in
    let by_y : to_z w32 (of_z w32 c.args.layer.now.position.1) ≡ c.args.layer.now.position.1 = search rules in
    let moved_x : c.moved-x.result ≡ c.args.self.x +ℤ c.args.layer.now.position.0 = rw (self_x, by_x) at c.moved-x.ensures in
    let moved_y : c.moved-y.result ≡ c.args.self.y +ℤ c.args.layer.now.position.1 = rw (self_y, by_y) at c.moved-y.ensures in
    record {
      x = fit_x ∙ (moved_x ∙ ap (λ (z : ℤ). z +ℤ c.args.layer.now.position.0) p.x);
      y = fit_y ∙ (moved_y ∙ ap (λ (z : ℤ). z +ℤ c.args.layer.now.position.1) p.y);
      alpha = c.mul-alpha.ensures ∙ ap (λ (a : ℕ). product a c.args.layer.now.alpha) p.alpha;
      bounds = λ x y. rw c.in-None.is (p.bounds x y ∙ ap (λ b. is_in_display width height x y && b) (sym (and_true (is_in_crops above x y))));
      on_display = record { left = p.on_display.left; right = p.on_display.right; top = p.on_display.top; bottom = p.on_display.bottom };
      near_x = rw (fit_x, moved_x) (IsInReach-step (length above) c.args.self.x c.args.layer.now.position.0 p.near_x c.requires.in_range.x);
      near_y = rw (fit_y, moved_y) (IsInReach-step (length above) c.args.self.y c.args.layer.now.position.1 p.near_y c.requires.in_range.y);
    }
