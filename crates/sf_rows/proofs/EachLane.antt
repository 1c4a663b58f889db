-- Lanes of vectors, each computed from the same lanes of others.
use Rattle.std.proofs.Common.{◌≡◌, ℕ, ◌≤◌, List, [], ◌∷◌, length, refl, subst, arith, Bool, cond}
use mathlib.Core.List.{map}
use lib.ListN.{replicate}
use lib.Lanes.{zip2, Each1, sel_l}
use Rattle.sf_base.specs.Blend.{product}
use Rattle.sf_rows.specs.inner.Channels.{capped_sum}

abbrev pub Small : List ℕ → Type 0
Small xs = Each1 (λ x. x ≤ 255) xs

pub map_each : (P Q : ℕ → Type 0) (f : ℕ → ℕ) → ((x : ℕ) → P x → Q (f x)) → (xs : List ℕ) → Each1 P xs → Each1 Q (map f xs)
map_each P Q f h [] e = tt
map_each P Q f h (x ∷ xs) e = (h x e.0, map_each P Q f h xs e.1)

pub zip2_each : (P : ℕ → Type 0) (f : ℕ → ℕ → ℕ) → ((x y : ℕ) → x ≤ 255 → y ≤ 255 → P (f x y)) → (xs ys : List ℕ) → Small xs → Small ys → Each1 P (zip2 f xs ys)
zip2_each P f h [] ys e d = tt
zip2_each P f h (x ∷ xs) [] e d = tt
zip2_each P f h (x ∷ xs) (y ∷ ys) e d = (h x y e.0 d.0, zip2_each P f h xs ys e.1 d.1)

product_lanes : (mul add mul2 shr : ℕ → ℕ → ℕ) (wide : ℕ → ℕ)
    → ((x y : ℕ) → x ≤ 255 → y ≤ 255 → shr (mul2 (wide (add (mul x y) 128)) 257) 16 ≡ product x y)
    → (xs ys : List ℕ) → Small xs → Small ys
    → zip2 shr (zip2 mul2 (map wide (zip2 add (zip2 mul xs ys) (replicate (length xs) 128))) (replicate (length xs) 257)) (replicate (length xs) 16) ≡ zip2 product xs ys
product_lanes mul add mul2 shr wide is [] ys e d = refl
product_lanes mul add mul2 shr wide is (x ∷ xs) [] e d = refl
product_lanes mul add mul2 shr wide is (x ∷ xs) (y ∷ ys) e d =
    rw (is x y e.0 d.0, product_lanes mul add mul2 shr wide is xs ys e.1 d.1) refl

pub are_products : (mul add mul2 shr : ℕ → ℕ → ℕ) (wide : ℕ → ℕ)
    → ((x y : ℕ) → x ≤ 255 → y ≤ 255 → shr (mul2 (wide (add (mul x y) 128)) 257) 16 ≡ product x y)
    → (xs ys : List ℕ) (n : ℕ) → length xs ≡ n → Small xs → Small ys
    → zip2 shr (zip2 mul2 (map wide (zip2 add (zip2 mul xs ys) (replicate n 128))) (replicate n 257)) (replicate n 16) ≡ zip2 product xs ys
are_products mul add mul2 shr wide is xs ys n long e d =
    subst (λ n. zip2 shr (zip2 mul2 (map wide (zip2 add (zip2 mul xs ys) (replicate n 128))) (replicate n 257)) (replicate n 16) ≡ zip2 product xs ys)
    long (product_lanes mul add mul2 shr wide is xs ys e d)

capped_lanes : (add lt : ℕ → ℕ → ℕ) (other : ℕ → ℕ) (top : ℕ → Bool)
    → ((x y : ℕ) → x ≤ 255 → y ≤ 255 → add x (cond (top (lt y (other x))) y (other x)) ≡ capped_sum x y)
    → (xs ys : List ℕ) → length xs ≡ length ys → Small xs → Small ys
    → zip2 add xs (sel_l (map top (zip2 lt ys (map other xs))) ys (map other xs)) ≡ zip2 capped_sum xs ys
capped_lanes add lt other top is [] ys long e d = refl
capped_lanes add lt other top is (x ∷ xs) [] long e d = refl
capped_lanes add lt other top is (x ∷ xs) (y ∷ ys) long e d = rw (is x y e.0 d.0, capped_lanes add lt other top is xs ys (omega (arith, long)) e.1 d.1) refl

pub are_capped : (add lt : ℕ → ℕ → ℕ) (other : ℕ → ℕ) (top : ℕ → Bool)
    → ((x y : ℕ) → x ≤ 255 → y ≤ 255 → add x (cond (top (lt y (other x))) y (other x)) ≡ capped_sum x y)
    → (xs ys : List ℕ) → length xs ≡ length ys → Small xs → Small ys
    → zip2 add xs (sel_l (map top (zip2 lt ys (map other xs))) ys (map other xs)) ≡ zip2 capped_sum xs ys
are_capped = capped_lanes

pub map_same : (f : ℕ → ℕ) → ((x : ℕ) → f x ≡ x) → (xs : List ℕ) → map f xs ≡ xs
map_same f h [] = refl
map_same f h (x ∷ xs) = rw (h x, map_same f h xs) refl

mixed_lanes : (add : ℕ → ℕ → ℕ) (f : ℕ → ℕ → ℕ) (s l : ℕ)
    → ((x y : ℕ) → x ≤ 255 → y ≤ 255 → add (product x s) (product y l) ≡ f x y)
    → (xs ys : List ℕ) → length xs ≡ length ys → Small xs → Small ys
    → zip2 add (zip2 product xs (replicate (length xs) s)) (zip2 product ys (replicate (length xs) l)) ≡ zip2 f xs ys
mixed_lanes add f s l is [] ys long e d = refl
mixed_lanes add f s l is (x ∷ xs) [] long e d = absurd (omega (arith, long))
mixed_lanes add f s l is (x ∷ xs) (y ∷ ys) long e d =
    rw (is x y e.0 d.0, mixed_lanes add f s l is xs ys (omega (arith, long)) e.1 d.1) refl

pub are_mixed : (add : ℕ → ℕ → ℕ) (f : ℕ → ℕ → ℕ) (s l : ℕ)
    → ((x y : ℕ) → x ≤ 255 → y ≤ 255 → add (product x s) (product y l) ≡ f x y)
    → (xs ys : List ℕ) (n : ℕ) → length xs ≡ n → length ys ≡ n → Small xs → Small ys
    → zip2 add (zip2 product xs (replicate n s)) (zip2 product ys (replicate n l)) ≡ zip2 f xs ys
are_mixed add f s l is xs ys n long_x long_y e d =
    subst (λ n. zip2 add (zip2 product xs (replicate n s)) (zip2 product ys (replicate n l)) ≡ zip2 f xs ys)
    long_x (mixed_lanes add f s l is xs ys (omega (arith, long_x, long_y)) e d)
