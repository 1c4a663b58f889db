use Rattle.std.proofs.Common.{◌≡◌, ap, ◌∙◌, sym, rules, w32}
use mir.Val.{of_z, to_z}
use Rattle.sf_display.specs.sf_output_shown.Displays.{order_on}
use Rattle.sf_output_plan.specs.Due.{hit_number}
use Rattle.sf_output_plan.proofs.DueLemmas.{hit_is}
use Rattle.sf_output_plan.proofs.viewing.number_at.Goals as goal

pub returns-in-Some : goal.returns-in-Some
returns-in-Some c = λ plan tree v.
    let across : to_z w32 (of_z w32 c.args.x) ≡ c.args.x = search rules in
    let down : to_z w32 (of_z w32 c.args.y) ≡ c.args.y = search rules in
    ap hit_number (sym c.in-Some.is ∙ (rw (across, down) at c.hit.ensures.value ∙ hit_is tree (order_on tree plan.stacks 0) plan.width plan.height c.args.view.now v c.hit.ensures.kept c.args.x c.args.y))

pub returns-in-None : goal.returns-in-None
returns-in-None c = λ plan tree v.
    let across : to_z w32 (of_z w32 c.args.x) ≡ c.args.x = search rules in
    let down : to_z w32 (of_z w32 c.args.y) ≡ c.args.y = search rules in
    ap hit_number (sym c.in-None.is ∙ (rw (across, down) at c.hit.ensures.value ∙ hit_is tree (order_on tree plan.stacks 0) plan.width plan.height c.args.view.now v c.hit.ensures.kept c.args.x c.args.y))
