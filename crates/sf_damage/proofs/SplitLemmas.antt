-- What is true of the two halves of a part is true of the part.
use Rattle.std.proofs.Common.{◌≡◌, ◌↔◌, Bool, true, false, not, ◌&&◌, ◌||◌, refl, sym, ◌∙◌}
use Rattle.std.proofs.lemmas.Bool.{and_from, and_parts, not-true, not_from_false, or_cases, or_left, or_right}
use Rattle.std.proofs.Common.{inl, inr}

-- a point is in the result exactly where it is in the part and `D` holds: `here` tells it of the half that passes a
-- test, where `DHere` says the same as `D`, and `there` of the other half, where `DThere` does
pub split_points : (r here there part inside outside c : Bool) (D DHere DThere : Type 0) → r ≡ (here || there) → inside ≡ (part && c) → outside ≡ (part && not c) → ((here ≡ true) ↔ ((inside ≡ true) × DHere)) → ((there ≡ true) ↔ ((outside ≡ true) × DThere)) → (part ≡ true → c ≡ true → DHere ↔ D) → (part ≡ true → c ≡ false → DThere ↔ D) → (r ≡ true) ↔ ((part ≡ true) × D)
split_points r here there part inside outside c D DHere DThere e i o h t same_in same_out = (to, from c refl)
  where
    of_here : here ≡ true → (part ≡ true) × D
    of_here q =
        let a : (inside ≡ true) × DHere = h.0 q in
        let both : (part ≡ true) × (c ≡ true) = and_parts part c (sym i ∙ a.0) in
        (both.0, (same_in both.0 both.1).0 a.1)

    of_there : there ≡ true → (part ≡ true) × D
    of_there q =
        let a : (outside ≡ true) × DThere = t.0 q in
        let both : (part ≡ true) × (not c ≡ true) = and_parts part (not c) (sym o ∙ a.0) in
        (both.0, (same_out both.0 (not-true c both.1)).0 a.1)

    to : r ≡ true → (part ≡ true) × D
    to w = elim (or_cases here there (sym e ∙ w)) [ inl q ↦ of_here q | inr q ↦ of_there q ]

    from : (b : Bool) → c ≡ b → (part ≡ true) × D → r ≡ true
    from true q w =
        let y : here ≡ true = h.1 (i ∙ and_from part c w.0 q, (same_in w.0 q).1 w.1) in
        e ∙ or_left here there y
    from false q w =
        let y : there ≡ true = t.1 (o ∙ and_from part (not c) w.0 (not_from_false c q), (same_out w.0 q).1 w.1) in
        e ∙ or_right here there y
