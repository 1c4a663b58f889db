-- A buffer that is followed back comes to its maker.
use Rattle.std.proofs.Common.{◌≡◌, ℕ, zero, suc, ◌+◌, ◌≤◌, List, [], ◌∷◌, length, arith, ap, ◌∙◌, refl}
use Rattle.sf_actor_set.specs.sf_actor.Makers.{BufferOf, Run, followed, older}
use Rattle.law_rights.specs.Stays.{AreStays, first_stay, maker_of}

pub followed_back : (run : Run) (n : ℕ) (stay : BufferOf) (earlier : List BufferOf) → AreStays run stay earlier → length earlier ≤ n → followed n run stay ≡ maker_of stay earlier
unfolding followed
followed_back run zero stay [] stays few = refl
followed_back run zero stay (before ∷ earlier) stays few = absurd (omega (arith, few))
followed_back run (suc n) stay [] stays few = rw (followed, stays) refl
followed_back run (suc n) stay (before ∷ earlier) stays few =
    let rest = followed_back run n before earlier stays.1 (omega (arith, few)) in
    let more : older (followed n run before) ≡ older (maker_of before earlier) = ap older rest in
    rw (followed, stays.0) (more ∙ (λ i. record { made = first_stay before earlier; age = one_more (length earlier) i }))
  where
    one_more : (m : ℕ) → m + 1 ≡ suc m
    one_more m = omega arith
