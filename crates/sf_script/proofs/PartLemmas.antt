-- One more repeated part.
use Rattle.std.proofs.Common.{◌≡◌, ℕ, List, [], ◌∷◌, ◌++◌, length, true, Result, Ok, ap, subst, sym, ◌∙◌, refl, codes}
use Rattle.std.proofs.lemmas.Bool.{cond-true}
use Rattle.std.proofs.lemmas.List.Elements.{All-push}
use Rattle.std.specs.Str.{bytes_eq}
use Rattle.sf_script_words.specs.Text.{Text}
use Rattle.sf_script_words.specs.Reading.{◌>>=◌}
use Rattle.sf_script_words.specs.declared.fault.WordFault.{WordFault}
use Rattle.sf_script_scene.specs.Named.{AreKnown, timelines_in}
use Rattle.sf_script_scene.specs.Scene.{SceneValue, has_timeline}
use Rattle.sf_script.specs.Parts.{fences_at, point_of}

-- the points with one more, and what is left behind its words
pub fences_at-more : (scene : SceneValue) (ps qs : List (ℕ × ℕ)) (all after behind rest : List Text) (w t v : Text) (p : ℕ × ℕ)
    → all ≡ w ∷ after → after ≡ t ∷ behind → behind ≡ v ∷ rest → bytes_eq w (codes "fence") ≡ true → point_of scene (length after) (length behind) t v ≡ Ok p → qs ≡ ps ++ p ∷ []
    → fences_at scene qs rest ≡ fences_at scene ps all
unfolding fences_at
fences_at-more scene ps qs all after behind rest w t v p e f g h k q =
    let after_is : after ≡ t ∷ v ∷ rest = f ∙ ap (λ (l : List Text). t ∷ l) g in
    let goes : point_of scene (length (t ∷ v ∷ rest)) (length (v ∷ rest)) t v ≡ Ok p =
    ap (λ (l : List Text). point_of scene (length l) (length (v ∷ rest)) t v) (sym after_is) ∙ ap (λ (l : List Text). point_of scene (length after) (length l) t v) (sym g) ∙ k in
    sym (ap (fences_at scene ps) (e ∙ ap (λ (l : List Text). w ∷ l) after_is)
    ∙ cond-true _ _ _ h ∙ ap (λ (r : Result (ℕ × ℕ) WordFault). r >>= λ point. fences_at scene (ps ++ point ∷ []) rest) goes ∙ ap (λ (l : List (ℕ × ℕ)). fences_at scene l rest) (sym q))

timelines-push : (ps : List (ℕ × ℕ)) (p : ℕ × ℕ) → timelines_in (ps ++ p ∷ []) ≡ timelines_in ps ++ p.0 ∷ []
timelines-push [] p = refl
timelines-push (x ∷ xs) p = ap (λ (l : List ℕ). x.0 ∷ l) (timelines-push xs p)

-- the points with one more on a declared timeline
pub known-push : (timelines : List ℕ) (ps qs : List (ℕ × ℕ)) (p : ℕ × ℕ) → qs ≡ ps ++ p ∷ [] → AreKnown timelines (timelines_in ps) → has_timeline timelines p.0 ≡ true → AreKnown timelines (timelines_in qs)
known-push timelines ps qs p q h k =
    subst (AreKnown timelines) (sym (ap timelines_in q ∙ timelines-push ps p)) (All-push (λ (n : ℕ). has_timeline timelines n ≡ true) (timelines_in ps) p.0 h k)
