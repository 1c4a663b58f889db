-- What arrives has rising numbers.
use Rattle.std.proofs.Common.{◌≡◌, ℕ, ◌<◌, ◌≤◌, List, [], ◌∷◌, ◌++◌, subst, sym, arith}
use Rattle.sf_commit.specs.Handlers.{last_of}
use Rattle.sf_token.specs.Pending.{Arrival, IsRisingFrom}

module _ {L : Type 0} where
  pub rising_last : (before last : ℕ) (xs : List (Arrival L)) → IsRisingFrom before xs last → IsRisingFrom before xs (last_of before xs)
  rising_last before last [] h = omega arith
  rising_last before last (x ∷ xs) h = (h.0, rising_last x.number last xs h.1)

  last_within : (before last : ℕ) (xs : List (Arrival L)) → IsRisingFrom before xs last → last_of before xs ≤ last
  last_within before last [] h = h
  last_within before last (x ∷ xs) h = last_within x.number last xs h.1

  -- once all of them are taken, nothing waits
  pub rising_none : (before last taken : ℕ) (xs ys : List (Arrival L)) → IsRisingFrom before xs last → taken ≡ last_of before xs → ys ≡ [] → IsRisingFrom taken ys last
  rising_none before last taken xs ys h e none =
      let within = last_within before last xs h in
      subst (λ (zs : List (Arrival L)). IsRisingFrom taken zs last) (sym none) (omega (arith, within, e))

  pub rising_more : (before last : ℕ) (xs : List (Arrival L)) (x : Arrival L) → IsRisingFrom before xs last → last < x.number → IsRisingFrom before (xs ++ x ∷ []) x.number
  rising_more before last [] x h less = (omega (arith, h, less), omega arith)
  rising_more before last (y ∷ ys) x h less = (h.0, rising_more y.number last ys x h.1 less)
