-- The greatest value of a number among points.
use Rattle.std.proofs.Common.{◌≡◌, ℕ, zero, suc, ◌≤◌, ◌≢◌, max, cond, List, [], ◌∷◌, ◌++◌, sym, refl, ap, ◌∙◌, subst, arith, eq-eqb, ne_eqb}
use Rattle.std.specs.List.{Contains}
use Rattle.sf_base.specs.Points.{value_at, greatest}

pub value_here : (t n : ℕ) → value_at t (t, n) ≡ n
value_here t n = subst (λ b. cond b n 0 ≡ n) (sym (eq-eqb t t refl)) refl

pub value_else : (t i n : ℕ) → i ≢ t → value_at t (i, n) ≡ 0
value_else t i n ne = subst (λ b. cond b n 0 ≡ 0) (sym (ne_eqb i t ne)) refl

pub greatest-append : (t : ℕ) (ps qs : List (ℕ × ℕ)) → greatest t (ps ++ qs) ≡ max (greatest t ps) (greatest t qs)
greatest-append t [] qs = omega arith
greatest-append t (p ∷ ps) qs = let h = greatest-append t ps qs in omega arith

pub greatest-last : (t : ℕ) (ps : List (ℕ × ℕ)) (p : ℕ × ℕ) → greatest t (ps ++ p ∷ []) ≡ max (greatest t ps) (value_at t p)
greatest-last t ps p = let h = greatest-append t ps (p ∷ []) in omega arith

pub has_le : (t n : ℕ) (ps : List (ℕ × ℕ)) → Contains ps (t, n) → n ≤ greatest t ps
has_le t n [] h = absurd (omega (arith, h.1))
has_le t n (p ∷ ps) (zero, small, is) = let e : value_at t p ≡ n = ap (value_at t) is ∙ value_here t n in omega arith
has_le t n (p ∷ ps) (suc k, small, is) = let h = has_le t n ps (k, omega arith, is) in omega arith
