-- Draws behind draws.
use Rattle.std.proofs.Common.{◌≡◌, ℕ, ◌+◌, ◌/◌, ◌%◌, ◌^◌, zero, suc, ap, ◌∙◌, refl, arith}
use Rattle.sf_script_generate.specs.Generator.{after_draws, draw, next}

pub after_draws-add : (x a b : ℕ) → after_draws (after_draws x a) b ≡ after_draws x (a + b)
unfolding after_draws
after_draws-add x zero b = let e : b ≡ 0 + b = omega arith in ap (after_draws x) e
after_draws-add x (suc a) b = after_draws-add (next x) a b ∙ ap (after_draws x) (let e : suc (a + b) ≡ suc a + b = omega arith in e)

-- where the sequence stands, behind a known number of draws and so many more
pub moved_on : (x a b : ℕ) {y z : ℕ} → y ≡ after_draws x a → z ≡ after_draws y b → z ≡ after_draws x (a + b)
moved_on x a b e f = f ∙ ap (λ w. after_draws w b) e ∙ after_draws-add x a b

-- a draw behind so many others
pub drawn_behind : (x n k : ℕ) {y r : ℕ} → y ≡ after_draws x n → r ≡ draw y 0 k → r ≡ draw x n k
drawn_behind x n k {y} e f = f ∙ ap (λ w. (w / 2 ^ 33) % k) (ap (λ w. after_draws w 1) e ∙ after_draws-add x n 1)

pub after_none : (x n : ℕ) → n ≡ 0 → after_draws x n ≡ x
unfolding after_draws
after_none x n e = rw (e) refl
