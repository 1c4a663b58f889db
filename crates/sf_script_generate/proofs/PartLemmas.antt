-- Parts behind parts.
use Rattle.std.proofs.Common.{◌≡◌, ℕ, ◌+◌, ◌*◌, ◌++◌, List, zero, suc, refl, sym, ap, subst, ◌∙◌, arith}
use Rattle.std.proofs.lemmas.List.{append_assoc, append-nil}
use Rattle.sf_script_generate.specs.Lines.{GrowsBy, Text}
use Rattle.sf_script_generate.specs.Generator.{after_draws, parts_from}
use Rattle.sf_script_generate.proofs.DrawLemmas.{after_draws-add, after_none, moved_on}
use Rattle.sf_script_generate.proofs.TextLemmas.{both}

-- one more part stands behind the others
parts_from-more : (part : ℕ → ℕ → List Text) (draws x k n m j y : ℕ) → m ≡ suc n → j ≡ k + n → y ≡ after_draws x (draws * n) → parts_from part draws x k m ≡ parts_from part draws x k n ++ part y j
unfolding parts_from
parts_from-more part draws x k zero m j y e f g =
    let first : j ≡ k = omega arith in
    let start : y ≡ x = g ∙ after_none x (draws * 0) (omega arith) in
    rw (e, first, start) (append-nil (part x k))
parts_from-more part draws x k (suc n) m j y e f g =
    let stands : y ≡ after_draws (after_draws x draws) (draws * n) = g ∙ (let h : draws * suc n ≡ draws + draws * n = omega arith in ap (after_draws x) h) ∙ sym (after_draws-add x draws (draws * n)) in
    rw (e) (ap (λ t. part x k ++ t) (parts_from-more part draws (after_draws x draws) (k + 1) n (suc n) j y refl (omega arith) stands) ∙ sym (append_assoc (part x k) (parts_from part draws (after_draws x draws) (k + 1) n) (part y j)))

-- a text grew by one more part
pub more_parts : (part : ℕ → ℕ → List Text) (draws x k n m j y : ℕ) {a b c : Text} → m ≡ n + 1 → j ≡ k + n → y ≡ after_draws x (draws * n) →
    GrowsBy (parts_from part draws x k n) a b → GrowsBy (part y j) b c → GrowsBy (parts_from part draws x k m) a c
more_parts part draws x k n m j y {a} {b} {c} e f g before more =
    subst (λ (lines : List Text). GrowsBy lines a c) (sym (parts_from-more part draws x k n m j y (omega arith) f g)) (both (parts_from part draws x k n) (part y j) before more)

-- where the sequence stands behind one more part
pub stands_behind : (draws x n m : ℕ) {y z : ℕ} → m ≡ n + 1 → y ≡ after_draws x (draws * n) → z ≡ after_draws y draws → z ≡ after_draws x (draws * m)
stands_behind draws x n m e f g =
    let h : draws * n + draws ≡ draws * m = rw (e) (omega arith) in
    moved_on x (draws * n) draws f g ∙ ap (after_draws x) h

-- a text grew by no part
pub no_parts : (part : ℕ → ℕ → List Text) (draws x k : ℕ) (a : Text) → GrowsBy (parts_from part draws x k 0) a a
unfolding parts_from
no_parts part draws x k a = record { grown = sym (append-nil a) }
