use Rattle.std.proofs.Common.{◌≡◌, ◌∙◌, ◌+◌, ◌*◌, ap, arith, rules, pos, to_z, of_z, w32, ℕ}
use Rattle.sf_damage.specs.sf_picture.declared.picture.Picture.{Picture}
use Rattle.sf_damage.specs.sf_view.Contents.{unsigned}
use Rattle.sf_compose.specs.inner.Orientations.{point_shown, step_of}
use Rattle.sf_compose.proofs.OrientationLemmas.{oriented_has, oriented_pixel}
use Rattle.sf_compose.proofs.oriented.pick_oriented.Goals as goal

pub pick_row-requires-clause-inside : goal.pick_row-requires-clause-inside
pick_row-requires-clause-inside c = λ k low.
    let fits : to_z w32 (of_z w32 c.step_of-step.result) ≡ c.step_of-step.result = search rules in
    let width : c.picture.result.now.width ≡ c.args.picture.now.width = ap (λ (p : Picture). p.width) c.picture.ensures.same in
    let width_2 : c.picture-2.result.now.width ≡ c.args.picture.now.width = ap (λ (p : Picture). p.width) c.picture-2.ensures.same in
    let first : c.shown_number-first.result ≡ unsigned (point_shown c.args.oriented.crop c.args.oriented.orient c.args.oriented.place (pos c.args.left) (pos c.args.y)).1 * c.args.picture.now.width + unsigned (point_shown c.args.oriented.crop c.args.oriented.orient c.args.oriented.place (pos c.args.left) (pos c.args.y)).0 =
    c.shown_number-first.ensures ∙ ap (λ (n : ℕ). unsigned (point_shown c.args.oriented.crop c.args.oriented.orient c.args.oriented.place (pos c.args.left) (pos c.args.y)).1 * n + unsigned (point_shown c.args.oriented.crop c.args.oriented.orient c.args.oriented.place (pos c.args.left) (pos c.args.y)).0) width in
    let step : to_z w32 (of_z w32 c.step_of-step.result) ≡ step_of c.args.oriented.orient c.args.picture.now.width = fits ∙ (c.step_of-step.ensures ∙ ap (step_of c.args.oriented.orient) width_2) in
    let size = c.requires.size in
    let ordered = c.requires.ordered in
    oriented_has c.args.oriented.crop c.args.oriented.orient c.args.oriented.place c.args.left k c.args.y c.args.picture.now.width c.args.picture.now.height c.shown_number-first.result _ c.bytes.result.now c.requires.orient c.requires.crop
    (c.requires.inside c.args.left (omega arith) (omega (arith, ordered)))
    (c.requires.inside (c.args.left + k) (omega arith) (omega (arith, size, low, ordered)))
    c.bytes.ensures.size first step

pub returns-clause-pixels : goal.returns-clause-pixels
returns-clause-pixels c = λ k low.
    let fits : to_z w32 (of_z w32 c.step_of-step.result) ≡ c.step_of-step.result = search rules in
    let width : c.picture.result.now.width ≡ c.args.picture.now.width = ap (λ (p : Picture). p.width) c.picture.ensures.same in
    let width_2 : c.picture-2.result.now.width ≡ c.args.picture.now.width = ap (λ (p : Picture). p.width) c.picture-2.ensures.same in
    let first : c.shown_number-first.result ≡ unsigned (point_shown c.args.oriented.crop c.args.oriented.orient c.args.oriented.place (pos c.args.left) (pos c.args.y)).1 * c.args.picture.now.width + unsigned (point_shown c.args.oriented.crop c.args.oriented.orient c.args.oriented.place (pos c.args.left) (pos c.args.y)).0 =
    c.shown_number-first.ensures ∙ ap (λ (n : ℕ). unsigned (point_shown c.args.oriented.crop c.args.oriented.orient c.args.oriented.place (pos c.args.left) (pos c.args.y)).1 * n + unsigned (point_shown c.args.oriented.crop c.args.oriented.orient c.args.oriented.place (pos c.args.left) (pos c.args.y)).0) width in
    let step : to_z w32 (of_z w32 c.step_of-step.result) ≡ step_of c.args.oriented.orient c.args.picture.now.width = fits ∙ (c.step_of-step.ensures ∙ ap (step_of c.args.oriented.orient) width_2) in
    let size = c.requires.size in
    let ordered = c.requires.ordered in
    oriented_pixel c.args.picture.now c.args.oriented.crop c.args.oriented.orient c.args.oriented.place c.args.left k c.args.y c.shown_number-first.result _ c.bytes.result.now c.pick_row.new.dst c.requires.orient c.requires.crop
    (c.requires.inside c.args.left (omega arith) (omega (arith, ordered)))
    (c.requires.inside (c.args.left + k) (omega arith) (omega (arith, low, ordered)))
    c.bytes.ensures first step
    (λ j is. c.pick_row.ensures.each_pixel k j (omega (arith, size, low)) is)
