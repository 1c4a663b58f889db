use Rattle.std.proofs.Common.{◌≡◌, ℤ, Bool, true, false, not, ◌&&◌, List, refl, sym, ◌∙◌}
use Rattle.std.proofs.lemmas.Bool.{both_ways, false_from_ne_true, false≢true}
use Rattle.std.proofs.lemmas.List.Elements.{All-filter}
use Rattle.std.proofs.lemmas.Result.{IfOk-weaker}
use Rattle.sf_base.specs.Geometry.{covers}
use Rattle.sf_base.specs.declared.geometry.Rect.{Rect}
use Rattle.sf_region.specs.Points.{IsInBounds, has}
use Rattle.sf_damage.specs.inner.Meeting.{meets}
use Rattle.sf_damage.proofs.MeetingLemmas.{left_points, rects_point}
use Rattle.sf_damage.proofs.shown.left.Goals as goal

-- of a rectangle that doesn't meet a window nothing is left there
beside_left : (rect window : Rect) (b : Bool) (hidden : List Rect) → b ≡ meets rect window → b ≡ false → (x y : ℤ) → covers window x y ≡ true → (covers rect x y && not (has hidden x y)) ≡ false
beside_left rect window b hidden is apart x y inside = rw (false_from_ne_true (covers rect x y) (λ here. both_ways b apart (is ∙ rects_point rect window x y here inside))) refl

pub returns-then-not-meets-clause-points : goal.returns-then-not-meets-clause-points
returns-then-not-meets-clause-points c = λ x y inside. rw c.empty.ensures (sym (beside_left c.args.rect c.args.window.now c.meets.result c.args.hidden.now c.meets.ensures c.if-not-meets.true x y inside))

pub returns-then-not-meets-clause-within : goal.returns-then-not-meets-clause-within
returns-then-not-meets-clause-within c = rw c.empty.ensures (λ x y t. absurd (false≢true t))

pub rest_of-requires-2-clause-hidden : goal.rest_of-requires-2-clause-hidden
rest_of-requires-2-clause-hidden c = rw (c.deref.ensures.value, c.in_ok-met.ensures) (All-filter (λ r. meets r c.args.rect) IsInBounds c.args.hidden.now c.requires.hidden)

pub returns-clause-points : goal.returns-clause-points
returns-clause-points c =
    IfOk-weaker c.rest_of-2.result
    (λ rest. (x y : ℤ) → covers c.args.window.now x y ≡ true → has rest x y ≡ (covers c.args.rect x y && not (has c.deref.result.now x y)))
    (λ rest. (x y : ℤ) → covers c.args.window.now x y ≡ true → has rest x y ≡ (covers c.args.rect x y && not (has c.args.hidden.now x y)))
    (λ rest h x y inside. h x y inside ∙ left_points c.args.hidden.now c.deref.result.now c.args.rect (c.deref.ensures.value ∙ c.in_ok-met.ensures) x y)
    c.rest_of-2.ensures.points
