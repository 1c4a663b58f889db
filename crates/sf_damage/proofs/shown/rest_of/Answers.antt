use Rattle.std.proofs.Common.{◌≡◌, ℤ, Bool, true, false, not, ◌&&◌, List, refl, sym, ◌∙◌, ap}
use Rattle.std.specs.List.{list_any}
use Rattle.std.proofs.lemmas.Bool.{false≢true}
use Rattle.sf_base.specs.Geometry.{covers}
use Rattle.sf_base.specs.declared.geometry.Rect.{Rect}
use Rattle.sf_region.specs.Points.{has}
use Rattle.sf_damage.specs.inner.Meeting.{rect_has}
use Rattle.sf_damage.proofs.MeetingLemmas.{one_more}
use Rattle.sf_damage.proofs.shown.rest_of.Goals as goal

and_hidden : (c : Bool) → false ≡ (c && false)
and_hidden true = refl
and_hidden false = refl

-- where one of what hides has all of a window, nothing of a rectangle is left there
under_one : (rs : List Rect) (q window : Rect) (b : Bool) → b ≡ list_any (λ r. rect_has r window) rs → b ≡ true
    → (x y : ℤ) → covers window x y ≡ true → false ≡ (covers q x y && not (has rs x y))
under_one rs q window b has_one holds x y inside =
    let over : has rs x y ≡ true = one_more rs window x y (sym has_one ∙ holds) inside in
    and_hidden (covers q x y) ∙ ap (λ h. covers q x y && not h) (sym over)

pub returns-then-one_has-clause-points : goal.returns-then-one_has-clause-points
returns-then-one_has-clause-points c = λ x y inside. rw c.empty.ensures (under_one c.args.hidden.now c.args.rect c.args.window.now c.one_has.result c.one_has.ensures c.if-one_has.true x y inside)

pub returns-then-one_has-clause-within : goal.returns-then-one_has-clause-within
returns-then-one_has-clause-within c = rw c.empty.ensures (λ x y t. absurd (false≢true t))
