-- What a seat has seen of a buffer it goes on having seen.
use Rattle.std.proofs.Common.{◌≡◌, ℕ, ◌≤◌, List, ◌++◌, arith, ap}
use Rattle.sf_base.specs.Points.{greatest}
use Rattle.sf_base.proofs.PointLemmas.{greatest-append}

pub seen_on : (b number : ℕ) (old more new : List (ℕ × ℕ)) → new ≡ old ++ more → number ≤ greatest b old → number ≤ greatest b new
seen_on b number old more new same known =
    let h = greatest-append b old more in
    let e = ap (λ (xs : List (ℕ × ℕ)). greatest b xs) same in
    omega (arith, h, e, known)
