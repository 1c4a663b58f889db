-- Elements of lists.
use Rattle.std.proofs.Common.{◌<◌, ℕ, zero, suc, List, [], ◌∷◌, length, get_or, arith, false, pos}
use Rattle.std.specs.List.{All}
use Rattle.sf_view.specs.declared.content.Content.TheVariants as content
use Rattle.sf_view.specs.declared.drawn.Drawn.{Drawn}

-- what stands for an element of an empty list
abbrev pub no_layer : Drawn
no_layer = record {
  layer = record { 0 = 0 };
  clip = record { x = pos 0; y = pos 0; width = 0; height = 0 };
  place = (pos 0, pos 0);
  alpha = 0;
  opaque = false;
  content = content.Colour (record { r = 0; g = 0; b = 0; a = 0 });
  orient = 0;
}

pub all-none : {A : Type 0} (P : A → Type 0) → All P []
all-none P = λ k d h. absurd (omega (arith, h))

cons_at : {A : Type 0} (P : A → Type 0) (x : A) (xs : List A) → P x → All P xs → (k : ℕ) (d : A) → k < length (x ∷ xs) → P (get_or (x ∷ xs) k d)
cons_at P x xs one all zero d h = one
cons_at P x xs one all (suc k) d h = all k d (omega (arith, h))

pub all-cons : {A : Type 0} (P : A → Type 0) (x : A) (xs : List A) → P x → All P xs → All P (x ∷ xs)
all-cons P x xs one all = cons_at P x xs one all

pub all-first : {A : Type 0} (P : A → Type 0) (x : A) (xs : List A) → All P (x ∷ xs) → P x
all-first P x xs all = all 0 x (omega arith)

pub all-rest : {A : Type 0} (P : A → Type 0) (x : A) (xs : List A) → All P (x ∷ xs) → All P xs
all-rest P x xs all = λ k d h. all (suc k) d (omega (arith, h))
