-- The picture of a number.
use Rattle.std.proofs.Common.{◌≡◌, ℕ, false, List, [], ◌∷◌, Some, None, refl, inl, inr}
use Rattle.std.specs.List.{find}
use Rattle.std.proofs.lemmas.Bool.{cases_Bool}
use Rattle.sf_actor.specs.sf_picture.declared.picture.Picture.{Picture}
use Rattle.sf_actor.specs.Scripts.{picture_at}
use Rattle.sf_actor.specs.sf_script_scene.Scene.{has_picture}
use Rattle.sf_actor_steps.specs.Bindings.{is_numbered}

pub not_found : (pictures : List Picture) (number : ℕ) → find (is_numbered number) pictures ≡ None → has_picture pictures number ≡ false
not_found [] number e = refl
not_found (p ∷ ps) number e = elim (cases_Bool (is_numbered number p)) [
  | inl met ↦ let f = rw met at e in cc
  | inr unmet ↦ let f = rw unmet at e in rw unmet (not_found ps number f)
]

pub found : (pictures : List Picture) (number : ℕ) (picture : Picture) → find (is_numbered number) pictures ≡ Some picture → picture_at pictures number ≡ picture
unfolding picture_at
found [] number picture e = let f : None ≡ Some picture = e in cc
found (p ∷ ps) number picture e = elim (cases_Bool (is_numbered number p)) [
  | inl met ↦ let f : Some p ≡ Some picture = rw met at e in let g : p ≡ picture = cc in rw met g
  | inr unmet ↦ let f : find (is_numbered number) ps ≡ Some picture = rw unmet at e in rw unmet (found ps number picture f)
]
