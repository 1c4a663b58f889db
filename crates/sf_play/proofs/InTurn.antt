-- Things that are done in turn, one more and the next.
use Rattle.std.proofs.Common.{◌≡◌, ℕ, ◌<◌, List, [], ◌∷◌, ◌++◌, length, get_or, map, All, ap, refl, sym, subst, ◌∙◌}
use Rattle.sf_play.specs.VsyncOver.{InTurn}

pub map_same : {X : Type 0} (xs : List X) → map (λ x. x) xs ≡ xs
map_same [] = refl
map_same (x ∷ xs) = ap (λ ys. x ∷ ys) (map_same xs)

-- what holds of all holds of the next
pub next_holds : {A : Type 0} (P : A → Type 0) (all : List A) (n : ℕ) (one : A) → All P all → (n < length all) × (one ≡ get_or all n one) → P one
next_holds P all n one hold at = subst P (sym at.1) (hold n one at.0)

-- one more
pub in_turn_more : {A S : Type 0} (does : A → S → S → Type 0) (done : List A) (one : A) (old mid new : S) → InTurn does done old mid → does one mid new → InTurn does (done ++ one ∷ []) old new
in_turn_more does [] one old mid new same now = (new, subst (λ s. does one s new) same now, refl)
in_turn_more does (first ∷ later) one old mid new did now = (did.0, did.1, in_turn_more does later one did.0 mid new did.2 now)

-- all of them
pub in_turn_all : {A S : Type 0} (does : A → S → S → Type 0) (all done : List A) (old new : S) → map (λ x. x) done ≡ all → InTurn does done old new → InTurn does all old new
in_turn_all does all done old new same did = subst (λ xs. InTurn does xs old new) (sym (map_same done) ∙ same) did
