use Rattle.std.proofs.Common.{◌≡◌, ◌≤◌, sym, ◌∙◌, refl, arith, rules, to_z, of_z, w32, length, pos, inl, inr}
use Rattle.std.proofs.lemmas.Int.{ints}
use Rattle.sf_view.specs.Placements.{IsOnDisplay, is_in_bounds}
use Rattle.sf_view.proofs.PlacementLemmas.{IsInReach-le, is_in_display-inside, small_crop}
use Rattle.sf_view.proofs.IntervalLemmas.{and_right}
use Rattle.sf_view.proofs.view.draw_layer.Goals as goal

pub cut_to_content-shown-requires-clause-near : goal.cut_to_content-shown-requires-clause-near
cut_to_content-shown-requires-clause-near c =
    let few : length c.requires.placed.ancestry ≤ 65536 = omega (arith, c.requires.placed.few) in
    (IsInReach-le _ _ _ c.requires.placed.placed.near_x few, IsInReach-le _ _ _ c.requires.placed.placed.near_y few)

pub cut_to_content-shown-requires-clause-size : goal.cut_to_content-shown-requires-clause-size
cut_to_content-shown-requires-clause-size c = small_crop c.args.layer.now c.args.content c.requires.content c.requires.in_range

pub clip_of-requires-clause-left : goal.clip_of-requires-clause-left
clip_of-requires-clause-left c = (c.cut_to_content-shown.ensures.on_display c.args.width c.args.height c.requires.placed.placed.on_display).left

pub clip_of-requires-clause-top : goal.clip_of-requires-clause-top
clip_of-requires-clause-top c = (c.cut_to_content-shown.ensures.on_display c.args.width c.args.height c.requires.placed.placed.on_display).top

pub returns-clause-draws : goal.returns-clause-draws
returns-clause-draws c = λ tree p.
    let fit_x : to_z w32 (of_z w32 c.args.at.x) ≡ c.args.at.x = search rules in
    let fit_y : to_z w32 (of_z w32 c.args.at.y) ≡ c.args.at.y = search rules in
    record {
      number = refl;
      place = rw (fit_x, fit_y, p.x, p.y) refl;
      alpha = p.alpha;
      opaque = refl;
      content = c.requires.content;
      orient = refl;
      clip = λ x y inside_x inside_y.
          c.clip_of.ensures.points (pos x) (pos y)
          ∙ (c.cut_to_content-shown.ensures.bounds (pos x) (pos y)
          ∙ (rw (p.bounds (pos x) (pos y), is_in_display-inside c.args.width c.args.height x y inside_x inside_y, sym c.requires.content, p.x, p.y) refl));
    }

pub returns-clause-clip : goal.returns-clause-clip
returns-clause-clip c =
    let fit_x : to_z w32 (of_z w32 c.args.at.x) ≡ c.args.at.x = search rules in
    let fit_y : to_z w32 (of_z w32 c.args.at.y) ≡ c.args.at.y = search rules in
    let on : IsOnDisplay c.args.width c.args.height c.cut_to_content-shown.result = c.cut_to_content-shown.ensures.on_display c.args.width c.args.height c.requires.placed.placed.on_display in
    record {
      left = c.clip_of.ensures.left;
      top = c.clip_of.ensures.top;
      right = elim c.clip_of.ensures.right [ inl h ↦ omega (arith, ints, h, on.right) | inr h ↦ omega (arith, ints, h) ];
      bottom = elim c.clip_of.ensures.bottom [ inl h ↦ omega (arith, ints, h, on.bottom) | inr h ↦ omega (arith, ints, h) ];
      content = λ x y inside.
          rw (fit_x, fit_y) (and_right (is_in_bounds c.args.at x y) _ (sym (c.cut_to_content-shown.ensures.bounds x y) ∙ (sym (c.clip_of.ensures.points x y) ∙ inside)));
    }
