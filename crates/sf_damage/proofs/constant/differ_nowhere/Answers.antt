use Rattle.std.proofs.Common.{◌≡◌, ◌∙◌, sym, true}
use Rattle.std.specs.List.{list_all}
use Rattle.std.proofs.lemmas.Bool.{both_ways}
use Rattle.sf_damage.specs.inner.Meeting.{rect_has}
use Rattle.sf_view.specs.declared.drawn.Drawn.{Drawn}
use Rattle.sf_damage.proofs.ConstantLemmas.{sheets-window}
use Rattle.sf_damage.proofs.constant.differ_nowhere.Goals as goal
use Rattle.sf_damage.proofs.constant.differ_nowhere.Goals.{then-all_have, else-all_have}

pub returns-then-all_have-2 : goal.returns-then-all_have-2
returns-then-all_have-2 c = λ t x y inside.
    let old : list_all (λ (drawn : Drawn). rect_has drawn.clip c.args.window.now) c.args.olds.now ≡ true = elim c.if-all_have.branch [
      | then-all_have w ↦ sym c.all_have.ensures ∙ w.if-all_have.true
      | else-all_have w ↦ absurd (both_ways c.all_have.result w.if-all_have.false (sym w.value-is ∙ c.if-all_have-2.true))
    ] in
    let new : list_all (λ (drawn : Drawn). rect_has drawn.clip c.args.window.now) c.args.news.now ≡ true = elim c.if-all_have.branch [
      | then-all_have w ↦ sym w.all_have-then-all_have.ensures ∙ (sym w.value-is ∙ c.if-all_have-2.true)
      | else-all_have w ↦ absurd (both_ways c.all_have.result w.if-all_have.false (sym w.value-is ∙ c.if-all_have-2.true))
    ] in
    sheets-window c.args.window.now c.args.olds.now x y old inside ∙ (c.have_same_sheets.ensures.0 t ∙ sym (sheets-window c.args.window.now c.args.news.now x y new inside))
