-- Windows in which two lists of drawn layers are compared.
use Rattle.std.proofs.Common.{◌≡◌, ◌≢◌, ℕ, ℤ, Bool, true, false, ◌||◌, cond, List, [], ◌∷◌, drop, take, refl, ap, ◌∙◌, sym, subst, inl, inr, arith}
use Rattle.std.specs.List.{All, filter}
use Rattle.std.proofs.lemmas.Bool.{and_from, and_parts, both_ways, false_from_ne_true, false≢true, or_cases, or_left, or_right, true_from_ne_false}
use Rattle.std.proofs.lemmas.Int.{ints}
use Rattle.sf_base.specs.Geometry.{covers}
use Rattle.sf_base.specs.declared.geometry.Rect.{Rect}
use Rattle.sf_region.specs.Points.{IsInBounds, has, neg_far}
use Rattle.sf_view.specs.Stacks.{Sheet, sheet_of}
use Rattle.sf_view.specs.Views.{is_in_clip}
use Rattle.sf_view.specs.declared.drawn.Drawn.{Drawn}
use Rattle.sf_damage.specs.Damage.{AreHalves, AreNear, DamagesLists, DiffersIn, DiffersWithin, IsSameBeside, meets_clip, stack_in}
use Rattle.sf_damage.proofs.BoundsLemmas.{covers_more, within_more}
use Rattle.sf_damage.proofs.DiffersLemmas.{IsSplit}
use Rattle.sf_damage.proofs.ListLemmas.{all-cons, all-first, all-none, all-rest}
use Rattle.sf_damage.proofs.MeetingLemmas.{rects_point}
use Rattle.sf_damage.proofs.SharedLemmas.{same-ends}
use Rattle.sf_damage.proofs.StackLemmas.{stack-out}

-- at a point of a window only the layers that meet the window are drawn
stack-window : (window : Rect) (layers : List Drawn) (x y : ℤ) → covers window x y ≡ true → stack_in (filter (meets_clip window) layers) x y ≡ stack_in layers x y
stack-window window [] x y inside = refl
stack-window window (d ∷ ds) x y inside = by_tests (meets_clip window d) (is_in_clip d x y) refl refl (stack-window window ds x y inside)
  where
    kept : List Drawn
    kept = filter (meets_clip window) ds

    here : List Drawn → Bool → List Drawn
    here l b = cond b (d ∷ filter (λ e. is_in_clip e x y) l) (filter (λ e. is_in_clip e x y) l)

    by_tests : (m b : Bool) → meets_clip window d ≡ m → is_in_clip d x y ≡ b → stack_in kept x y ≡ stack_in ds x y → stack_in (cond m (d ∷ kept) kept) x y ≡ stack_in (d ∷ ds) x y
    by_tests true true m t e = rw t (ap (λ (s : List Sheet). sheet_of d ∷ s) e)
    by_tests true false m t e = rw t e
    by_tests false true m t e = absurd (both_ways (meets_clip window d) m (rects_point d.clip window x y t inside))
    by_tests false false m t e = rw t e

-- a window in which nothing differs
pub Within-none : (olds news : List Drawn) (window : Rect) → ((x y : ℤ) → covers window x y ≡ true → stack_in olds x y ≡ stack_in news x y) → DiffersWithin olds news window []
Within-none olds news window same = record {
  near = all-none IsInBounds;
  points = λ x y. ((λ t. absurd (false≢true t)), (λ h. absurd (h.1 (same x y h.0))));
}

or_none : (c : Bool) → (c || false) ≡ true → c ≡ true
or_none true t = t
or_none false t = t

-- a window in which all differs
pub Within-all : (olds news : List Drawn) (window : Rect) (rects : List Rect) → IsInBounds window → rects ≡ window ∷ [] → ((x y : ℤ) → covers window x y ≡ true → stack_in olds x y ≢ stack_in news x y) → DiffersWithin olds news window rects
Within-all olds news window rects near only apart = subst (λ (rs : List Rect). DiffersWithin olds news window rs) (sym only) whole
  where
    whole : DiffersWithin olds news window (window ∷ [])
    whole = record {
      near = all-cons IsInBounds window [] near (all-none IsInBounds);
      points = λ x y. (
        (λ t. (or_none (covers window x y) t, apart x y (or_none (covers window x y) t))),
        (λ h. or_left (covers window x y) false h.0),
      );
    }

-- a window of which a part was compared that has all differences
pub Within-part : (olds news : List Drawn) (window : Rect) (part inside outside region rects : List Rect) → IsSameBeside olds news part → IsSplit window part inside outside → DiffersIn olds news inside region
    → rects ≡ region → All IsInBounds rects → DiffersWithin olds news window rects
Within-part olds news window part inside outside region rects beside parts differs same near = record {
  near = near;
  points = λ x y.
      (let here : has rects x y ≡ has region x y = ap (λ (rs : List Rect). has rs x y) same in (
        (λ t.
            let d = (differs.points x y).0 (sym here ∙ t) in
            ((and_parts (has part x y) (covers window x y) (sym (parts.inside x y) ∙ d.0)).1, d.1)),
        (λ h.
            let changed = true_from_ne_false (has part x y) (λ lacks. h.1 (beside.stacks x y lacks)) in
            here ∙ (differs.points x y).1 (parts.inside x y ∙ and_from (has part x y) (covers window x y) changed h.0, h.1)),
      ));
}

-- a window whose halves were compared
pub Within-halves : (olds news : List Drawn) (window : Rect) (halves : Rect × Rect) (one other rects : List Rect) → AreHalves window halves → DiffersWithin olds news halves.0 one → DiffersWithin olds news halves.1 other
    → All IsInBounds rects → ((x y : ℤ) → has rects x y ≡ (has one x y || has other x y)) → DiffersWithin olds news window rects
Within-halves olds news window halves one other rects parts first second near joined = record {
  near = near;
  points = λ x y. (
    (λ t. elim (or_cases (has one x y) (has other x y) (sym (joined x y) ∙ t)) [
      | inl here ↦ let d = (first.points x y).0 here in (parts.points x y ∙ or_left (covers halves.0 x y) (covers halves.1 x y) d.0, d.1)
      | inr there ↦ let d = (second.points x y).0 there in (parts.points x y ∙ or_right (covers halves.0 x y) (covers halves.1 x y) d.0, d.1)
    ]),
    (λ h. joined x y ∙ elim (or_cases (covers halves.0 x y) (covers halves.1 x y) (sym (parts.points x y) ∙ h.0)) [
      | inl here ↦ or_left (has one x y) (has other x y) ((first.points x y).1 (here, h.1))
      | inr there ↦ or_right (has one x y) (has other x y) ((second.points x y).1 (there, h.1))
    ]),
  );
}

-- only the layers that meet a window count there
pub Within-window : (window : Rect) (olds news : List Drawn) (rects : List Rect) → DiffersWithin (filter (meets_clip window) olds) (filter (meets_clip window) news) window rects → DiffersWithin olds news window rects
Within-window window olds news rects d = record {
  near = d.near;
  points = λ x y. (
    (λ t.
        let h = (d.points x y).0 t in
        (h.0, λ e. h.1 (stack-window window olds x y h.0 ∙ (e ∙ sym (stack-window window news x y h.0))))),
    (λ h. (d.points x y).1 (h.0, λ e. h.1 (sym (stack-window window olds x y h.0) ∙ (e ∙ stack-window window news x y h.0)))),
  );
}

-- nor do those that both lists begin or end with
pub Within-ends : (olds news old_rest new_rest : List Drawn) (i j k : ℕ) (window : Rect) (rects : List Rect) → old_rest ≡ drop i olds → new_rest ≡ drop i news → take i olds ≡ take i news → drop j old_rest ≡ drop k new_rest
    → DiffersWithin (take j old_rest) (take k new_rest) window rects → DiffersWithin olds news window rects
Within-ends olds news old_rest new_rest i j k window rects old new front back d = record {
  near = d.near;
  points = λ x y. (
    (λ t.
        let h = (d.points x y).0 t in
        (h.0, λ e. h.1 ((same-ends olds news old_rest new_rest i j k x y old new front back).1 e))),
    (λ h. (d.points x y).1 (h.0, λ e. h.1 ((same-ends olds news old_rest new_rest i j k x y old new front back).0 e))),
  );
}

-- the window that has all clips
abbrev pub everywhere : Rect
everywhere = record { x = neg_far; y = neg_far; width = 67108864; height = 67108864 }

bounds_more : (r : Rect) (x y : ℤ) → IsInBounds r → covers r x y ≡ true → covers everywhere x y ≡ true
bounds_more r x y near t =
    covers_more r everywhere (λ at. within_more r.x neg_far at r.width 67108864 near.left (omega (arith, ints, near.right))) (λ at. within_more r.y neg_far at r.height 67108864 near.top (omega (arith, ints, near.bottom))) x y t

stack-beside : (layers : List Drawn) (x y : ℤ) → AreNear layers → covers everywhere x y ≡ false → stack_in layers x y ≡ []
stack-beside [] x y near out = refl
stack-beside (d ∷ ds) x y near out =
    stack-out d ds x y (false_from_ne_true (is_in_clip d x y) (λ t. both_ways (covers everywhere x y) out (bounds_more d.clip x y (all-first (λ (e : Drawn). IsInBounds e.clip) d ds near) t))) ∙ stack-beside ds x y (all-rest (λ (e : Drawn). IsInBounds e.clip) d ds near) out

pub Damages-everywhere : (olds news : List Drawn) (rects region : List Rect) → AreNear olds → AreNear news → DiffersWithin olds news everywhere rects → ((x y : ℤ) → has region x y ≡ has rects x y) → DamagesLists olds news region
Damages-everywhere olds news rects region old new d same = record {
  points = λ x y. (
    (λ t. ((d.points x y).0 (sym (same x y) ∙ t)).1),
    (λ apart.
        let inside = true_from_ne_false (covers everywhere x y) (λ out. apart (stack-beside olds x y old out ∙ sym (stack-beside news x y new out))) in
        same x y ∙ (d.points x y).1 (inside, apart)),
  );
}
