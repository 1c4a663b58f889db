-- Stacks of lists of drawn layers, one layer more at the back.
use Rattle.std.proofs.Common.{◌≡◌, ◌≢◌, ◌↔◌, ℤ, Bool, true, false, List, [], ◌∷◌, refl, sym, ◌∙◌, ap}
use Rattle.sf_view.specs.Stacks.{Sheet, sheet_of}
use Rattle.sf_view.specs.Views.{is_in_clip}
use Rattle.sf_view.specs.declared.drawn.Drawn.{Drawn}
use Rattle.sf_damage.specs.Damage.{stack_in}

pub stack-in : (d : Drawn) (ds : List Drawn) (x y : ℤ) → is_in_clip d x y ≡ true → stack_in (d ∷ ds) x y ≡ sheet_of d ∷ stack_in ds x y
stack-in d ds x y t = rw t refl

pub stack-out : (d : Drawn) (ds : List Drawn) (x y : ℤ) → is_in_clip d x y ≡ false → stack_in (d ∷ ds) x y ≡ stack_in ds x y
stack-out d ds x y t = rw t refl

-- a layer that is in both lists changes nothing
pub stack-both : (d : Drawn) (os ns : List Drawn) (x y : ℤ) → (stack_in os x y ≡ stack_in ns x y) → stack_in (d ∷ os) x y ≡ stack_in (d ∷ ns) x y
stack-both d os ns x y e = by_test (is_in_clip d x y) refl
  where
    by_test : (b : Bool) → is_in_clip d x y ≡ b → stack_in (d ∷ os) x y ≡ stack_in (d ∷ ns) x y
    by_test true t = stack-in d os x y t ∙ (ap (λ (s : List Sheet). sheet_of d ∷ s) e ∙ sym (stack-in d ns x y t))
    by_test false t = stack-out d os x y t ∙ (e ∙ sym (stack-out d ns x y t))

pub sheets-tail : (a b : Sheet) (s t : List Sheet) → (a ∷ s) ≡ (b ∷ t) → s ≡ t
sheets-tail a b s t e = cc

pub sheets-head : (a b : Sheet) (s t : List Sheet) → (a ∷ s) ≡ (b ∷ t) → a ≡ b
sheets-head a b s t e = cc

sheets-some : (a : Sheet) (s : List Sheet) → (a ∷ s) ≡ [] → ⊥
sheets-some a s e = cc

-- it tells no difference
pub stack-apart : (d : Drawn) (os ns : List Drawn) (x y : ℤ) → stack_in (d ∷ os) x y ≡ stack_in (d ∷ ns) x y → stack_in os x y ≡ stack_in ns x y
stack-apart d os ns x y e = by_test (is_in_clip d x y) refl
  where
    by_test : (b : Bool) → is_in_clip d x y ≡ b → stack_in os x y ≡ stack_in ns x y
    by_test true t = sheets-tail (sheet_of d) (sheet_of d) (stack_in os x y) (stack_in ns x y) (sym (stack-in d os x y t) ∙ (e ∙ stack-in d ns x y t))
    by_test false t = sym (stack-out d os x y t) ∙ (e ∙ stack-out d ns x y t)

-- where both lists have a layer of the same sheet at the point, it is the layers above that differ
pub stack-heads : (o n : Drawn) (os ns : List Drawn) (x y : ℤ) → is_in_clip o x y ≡ true → is_in_clip n x y ≡ true → sheet_of o ≡ sheet_of n → (stack_in os x y ≢ stack_in ns x y) ↔ (stack_in (o ∷ os) x y ≢ stack_in (n ∷ ns) x y)
stack-heads o n os ns x y a b same = (
  (λ h e. h (sheets-tail (sheet_of o) (sheet_of n) (stack_in os x y) (stack_in ns x y) (sym (stack-in o os x y a) ∙ (e ∙ stack-in n ns x y b)))),
  (λ h e. h (stack-in o os x y a ∙ (ap (λ (s : Sheet). s ∷ stack_in os x y) same ∙ (ap (λ (s : List Sheet). sheet_of n ∷ s) e ∙ sym (stack-in n ns x y b))))),
)

pub stack-others : (o n : Drawn) (os ns : List Drawn) (x y : ℤ) → is_in_clip o x y ≡ true → is_in_clip n x y ≡ true → (sheet_of o ≡ sheet_of n → ⊥) → stack_in (o ∷ os) x y ≢ stack_in (n ∷ ns) x y
stack-others o n os ns x y a b other = λ e. other (sheets-head (sheet_of o) (sheet_of n) (stack_in os x y) (stack_in ns x y) (sym (stack-in o os x y a) ∙ (e ∙ stack-in n ns x y b)))

pub stack-some : (d : Drawn) (ds : List Drawn) (x y : ℤ) → is_in_clip d x y ≡ true → stack_in (d ∷ ds) x y ≢ []
stack-some d ds x y t = λ e. sheets-some (sheet_of d) (stack_in ds x y) (sym (stack-in d ds x y t) ∙ e)

-- a layer that lacks the point tells no difference, in either list
pub stack-without : (d : Drawn) (ds : List Drawn) (others : List Sheet) (x y : ℤ) → is_in_clip d x y ≡ false → (stack_in ds x y ≢ others) ↔ (stack_in (d ∷ ds) x y ≢ others)
stack-without d ds others x y t = ((λ h e. h (sym (stack-out d ds x y t) ∙ e)), (λ h e. h (stack-out d ds x y t ∙ e)))

pub stack-without_new : (d : Drawn) (ds : List Drawn) (others : List Sheet) (x y : ℤ) → is_in_clip d x y ≡ false → (others ≢ stack_in ds x y) ↔ (others ≢ stack_in (d ∷ ds) x y)
stack-without_new d ds others x y t = ((λ h e. h (e ∙ stack-out d ds x y t)), (λ h e. h (e ∙ sym (stack-out d ds x y t))))
