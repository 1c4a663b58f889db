-- Lists that are made place by place.
use Rattle.std.proofs.Common.{◌≡◌, ℕ, ◌+◌, ◌<◌, List, [], ◌∷◌, ◌++◌, length, map, get_or, take, refl, arith}
use Rattle.std.proofs.lemmas.List.{map-append, take_more}

-- one more place of a list that is mapped
pub map_more : {A B : Type 0} (f : A → B) (xs : List A) (made : List B) (i : ℕ) (d : A) (b : B) → i < length xs → made ≡ map f (take i xs) → b ≡ f (get_or xs i d)
    → made ++ b ∷ [] ≡ map f (take (i + 1) xs)
map_more f xs made i d b h same e =
    rw (take_more xs i d h, map-append f (take i xs) (get_or xs i d ∷ [])) (λ j. same j ++ e j ∷ [])

-- a list of no length
pub empty_of : {A : Type 0} (xs : List A) → length xs ≡ 0 → xs ≡ []
empty_of [] none = refl
empty_of (x ∷ xs) none = absurd (omega arith)
