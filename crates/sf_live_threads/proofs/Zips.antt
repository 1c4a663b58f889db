-- Lists beside each other, which grow at their ends.
use Rattle.std.proofs.Common.{◌≡◌, ℕ, zero, suc, ◌<◌, false, List, [], ◌∷◌, ◌++◌, length, map, get_or, sym, refl, ap, ◌∙◌, subst, arith}
use Rattle.std.specs.List.{AllByRecursion, AllZip}
use Rattle.std.specs.Prelude.{if◌then◌else◌, is_err, is_ok, Result, Ok, Err}

module _ {X Y : Type 0} (P : X → Y → Type 0) where
  pub zip_push : (xs : List X) (ys : List Y) (x : X) (y : Y) → AllZip P xs ys → P x y → AllZip P (xs ++ x ∷ []) (ys ++ y ∷ [])
  zip_push [] [] x y all p = (p, tt)
  zip_push [] (b ∷ ys) x y all p = absurd all
  zip_push (a ∷ xs) [] x y all p = absurd all
  zip_push (a ∷ xs) (b ∷ ys) x y all p = (all.0, zip_push xs ys x y all.1 p)

  pub zip_long : (xs : List X) (ys : List Y) → AllZip P xs ys → length xs ≡ length ys
  zip_long [] [] all = refl
  zip_long [] (b ∷ ys) all = absurd all
  zip_long (a ∷ xs) [] all = absurd all
  zip_long (a ∷ xs) (b ∷ ys) all = ap suc (zip_long xs ys all.1)

module _ {X Y Z : Type 0} (P : X → Y → Type 0) (Q : Y → Z → Type 0) (R : X → Z → Type 0) where
  -- what holds along two pairs of lists, from the one to the other
  pub zip_along : ((x : X) (y : Y) (z : Z) → P x y → Q y z → R x z) → (xs : List X) (ys : List Y) (zs : List Z) → AllZip P xs ys → AllZip Q ys zs → AllZip R xs zs
  zip_along f [] [] [] p q = tt
  zip_along f [] [] (c ∷ zs) p q = absurd q
  zip_along f [] (b ∷ ys) zs p q = absurd p
  zip_along f (a ∷ xs) [] zs p q = absurd p
  zip_along f (a ∷ xs) (b ∷ ys) [] p q = absurd q
  zip_along f (a ∷ xs) (b ∷ ys) (c ∷ zs) p q = (f a b c p.0 q.0, zip_along f xs ys zs p.1 q.1)

module _ {X Y : Type 0} where
  -- what each of one list gives of the one beside it
  pub zip_each : (P : X → Type 0) (R : X → Y → Type 0) (Q : Y → Type 0) → ((x : X) (y : Y) → P x → R x y → Q y) → (xs : List X) (ys : List Y) → AllByRecursion P xs → AllZip R xs ys → AllByRecursion Q ys
  zip_each P R Q f [] [] all zip = tt
  zip_each P R Q f [] (b ∷ ys) all zip = absurd zip
  zip_each P R Q f (a ∷ xs) [] all zip = absurd zip
  zip_each P R Q f (a ∷ xs) (b ∷ ys) all zip = (f a b all.0 zip.0, zip_each P R Q f xs ys all.1 zip.1)

  -- what stands beside each other alike
  pub zip_same : {S : Type 0} (R : X → Y → Type 0) (f : X → S) (g : Y → S) → ((x : X) (y : Y) → R x y → g y ≡ f x) → (xs : List X) (ys : List Y) → AllZip R xs ys → map g ys ≡ map f xs
  zip_same R f g same [] [] zip = refl
  zip_same R f g same [] (b ∷ ys) zip = absurd zip
  zip_same R f g same (a ∷ xs) [] zip = absurd zip
  zip_same {S} R f g same (a ∷ xs) (b ∷ ys) zip = λ i. same a b zip.0 i ∷ zip_same R f g same xs ys zip.1 i

module _ {X : Type 0} (P : X → Type 0) where
  pub all_at : (xs : List X) (i : ℕ) (d : X) → AllByRecursion P xs → i < length xs → P (get_or xs i d)
  all_at [] i d all low = absurd (omega arith)
  all_at (x ∷ xs) zero d all low = all.0
  all_at (x ∷ xs) (suc i) d all low = all_at xs i d all.1 (omega arith)

  -- the next of a list is one of it
  pub all_next : (xs : List X) (i : ℕ) (x : X) → AllByRecursion P xs → (i < length xs) × (x ≡ get_or xs i x) → P x
  all_next xs i x all at = subst P (sym at.1) (all_at xs i x all at.0)

module _ {X : Type 0} where
  same_each : (xs : List X) → map (λ (x : X). x) xs ≡ xs
  same_each [] = refl
  same_each (x ∷ xs) = ap (λ (l : List X). x ∷ l) (same_each xs)

  -- all were yielded
  pub whole : (xs ys : List X) → map (λ (x : X). x) xs ≡ ys → xs ≡ ys
  whole xs ys same = sym (same_each xs) ∙ same

  -- what holds of what each gives holds of what the next gives
  pub map_next : {Y : Type 0} (P : Y → Type 0) (f : X → Y) (xs : List X) (i : ℕ) (x : X) → AllByRecursion P (map f xs) → (i < length xs) × (x ≡ get_or xs i x) → P (f x)
  map_next P f [] i x all at = absurd (omega (arith, at.0))
  map_next P f (y ∷ ys) zero x all at = subst (λ (z : X). P (f z)) (sym at.1) all.0
  map_next P f (y ∷ ys) (suc i) x all at = map_next P f ys i x all.1 (omega (arith, at.0), at.1)

-- what a list is after a push that found memory
pub pushed_on : {X A E : Type 0} (r : Result A E) (before after now : List X) → is_err r ≡ false → now ≡ (if is_ok r then after else before) → now ≡ after
pushed_on (Ok a) before after now found is = is
pushed_on (Err e) before after now found is = cc
