-- Numbers of senders.
use Rattle.std.proofs.Common.{◌≡◌, ◌≢◌, ℕ, zero, suc, ◌<◌, List, [], ◌∷◌, length, map, sym, ◌∙◌, subst, arith}
use Rattle.std.specs.List.{All, AllByRecursion, Contains}
use Rattle.sf_intake.specs.Views.{TakerView, SenderView, AreSenders}

-- a list of other numbers does not have this one
not_among : (n : ℕ) (xs : List ℕ) → AllByRecursion (λ x. n ≢ x) xs → Contains xs n → ⊥
not_among n [] other (k, inside, is) = absurd (omega arith)
not_among n (x ∷ xs) other (zero, inside, is) = other.0 (sym is)
not_among n (x ∷ xs) other (suc k, inside, is) = not_among n xs other.1 (k, omega arith, is)

pub fresh : (n : ℕ) (made xs : List ℕ) → made ≡ xs → AllByRecursion (λ x. n ≢ x) xs → Contains made n → ⊥
fresh n made xs same other h = not_among n xs other (subst (λ (l : List ℕ). Contains l n) same h)

-- senders of all numbers that a taker made are all that it made
module _ {L : Type 0} where
  pub all_made : (t : TakerView L) (senders : List (SenderView L)) (numbers : List ℕ) → All (λ (s : SenderView L). s.intake ≡ t.intake) senders
      → map (λ (s : SenderView L). s.by.0) senders ≡ numbers → t.made ≡ numbers → AreSenders t senders
  all_made t senders numbers own named made = record {
    own = own;
    all = λ b h. subst (λ (l : List ℕ). Contains l b) (made ∙ sym named) h;
  }
