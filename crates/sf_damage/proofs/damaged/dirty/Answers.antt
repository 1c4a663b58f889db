use Rattle.std.proofs.Common.{◌≡◌, ◌∙◌, ap}
use Rattle.std.proofs.lemmas.Result.{IfOk-weaker}
use Rattle.sf_view.specs.Views.{ViewOf}
use Rattle.sf_damage.specs.Damage.{Damages, DamagesLists}
use Rattle.sf_damage.proofs.SharedLemmas.{Damages-views}
use Rattle.sf_damage.proofs.damaged.dirty.Goals as goal

pub returns : goal.returns
returns c =
    let olds : c.as_slice.result.now ≡ c.args.old.now.drawn = c.as_slice.ensures ∙ ap (λ (v : ViewOf). v.drawn) c.old.view_is in
    let news : c.as_slice-2.result.now ≡ c.args.new.now.drawn = c.as_slice-2.ensures ∙ ap (λ (v : ViewOf). v.drawn) c.new.view_is in
    IfOk-weaker c.differing_by_windows.result (DamagesLists c.as_slice.result.now c.as_slice-2.result.now) (Damages c.args.old.now c.args.new.now)
    (λ region d. Damages-views c.args.old.now c.args.new.now c.as_slice.result.now c.as_slice-2.result.now region olds news d)
    c.differing_by_windows.ensures
