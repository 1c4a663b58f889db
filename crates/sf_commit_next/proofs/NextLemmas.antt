-- What is found in a list.
use Rattle.std.proofs.Common.{◌≡◌, Bool, true, false, List, [], ◌∷◌, None, refl, true≢false}
use Rattle.std.specs.List.{All, find, list_any}
use Rattle.std.specs.Option.{IfSome}
use Rattle.std.proofs.lemmas.List.Elements.{All-head, All-tail}

-- what is in no list is not found in it
pub not_found : {X : Type 0} (p : X → Bool) (xs : List X) → list_any p xs ≡ false → find p xs ≡ None
not_found p [] e = refl
not_found p (x ∷ xs) e = by_test (not_found p xs) (p x) refl e
  where
    by_test : (list_any p xs ≡ false → find p xs ≡ None) → (b : Bool) → p x ≡ b → list_any p (x ∷ xs) ≡ false → find p (x ∷ xs) ≡ None
    by_test rest true h none = absurd (true≢false (rw h at none))
    by_test rest false h none = rw h (rest (rw h at none))

-- what holds of all holds of the one that is found
pub found_holds : {X : Type 0} (P : X → Type 0) (p : X → Bool) (xs : List X) → All P xs → IfSome (find p xs) P
found_holds P p [] all = tt
found_holds P p (y ∷ ys) all = by_test (found_holds P p ys (All-tail P y ys all)) (p y) refl
  where
    by_test : IfSome (find p ys) P → (b : Bool) → p y ≡ b → IfSome (find p (y ∷ ys)) P
    by_test rest true h = rw h (All-head P y ys all)
    by_test rest false h = rw h rest
