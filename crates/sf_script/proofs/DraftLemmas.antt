-- A draft after one more line that fits.
use Rattle.std.proofs.Common.{◌≡◌, ℕ, ◌+◌, ◌<◌, ◌≤◌, ◌==◌, Bool, true, false, cond, ◌||◌, List, [], ◌∷◌, ◌++◌, length, length-append, Option, None, Some, refl, sym, ap, ◌∙◌, arith}
use Rattle.std.proofs.lemmas.List.Folds.{list_any-append}
use Rattle.std.specs.BTreeSet.{BTreeSet, Updates, contains}
use Rattle.std.specs.Cmp.{unsigned_tied}
use Rattle.std.specs.Ordering.{nat_cmp}
use Rattle.std.specs.Prelude.{IfSome, option_to_list}
use Rattle.sf_script_words.specs.Text.{Text}
use Rattle.sf_script_scene.specs.Scene.{SceneValue, has_layer}
use Rattle.sf_script.specs.Draft.{TellsLayers, is_of, names_after, picks_of, scene_after}
use Rattle.sf_script.specs.inner.Fits.{LineNameFits}
use Rattle.sf_script.specs.declared.line.Keyword.{Keyword}
use Rattle.sf_script.specs.declared.line.Keyword.TheVariants as key
use Rattle.sf_script.specs.declared.line.Line.{Line}
use Rattle.sf_script.specs.declared.line.Line.TheVariants as line

few_names-one : (names : List Text) (o : Option Text) → IfSome o (λ name. length names < 32) → length names ≤ 32 → length (names ++ option_to_list o) ≤ 32
few_names-one names None room few = omega (arith, length-append {A = Text} names [], few)
few_names-one names (Some name) room few = omega (arith, length-append {A = Text} names (name ∷ []), room)

-- the names after one more line
pub few_names : (names : List Text) (l : Line) → length names ≤ 32 → LineNameFits names l → length (names_after names l) ≤ 32
few_names names (line.Actor n) few f = omega arith
few_names names (line.Step s) few f = few_names-one names s.new_name f few
few_names names _ few f = few

-- the order after one more line
pub few_picks : (s : SceneValue) (l : Line) → length (scene_after s l).order ≤ length s.order + length (picks_of l)
few_picks s (line.Scene h) = omega arith
few_picks s (line.Order picks) = omega (arith, length-append s.order picks)
few_picks s _ = omega arith

or_last : (a b : Bool) → cond a true b ≡ (b || (a || false))
or_last true true = refl
or_last true false = refl
or_last false true = refl
or_last false false = refl

-- the layers with a stack after one more
pub layers_more : (old new : BTreeSet ℕ) (stacks : List (ℕ × ℕ)) (layer stack : ℕ) → Updates nat_cmp old new layer true → TellsLayers old stacks → TellsLayers new (stacks ++ (layer, stack) ∷ [])
layers_more old new stacks layer stack u h n =
    u.0 n ∙ ap (λ b. cond b true (contains nat_cmp old n)) (unsigned_tied layer n) ∙ ap (λ b. cond (layer == n) true b) (h n)
    ∙ or_last (layer == n) (has_layer stacks n) ∙ sym (list_any-append (λ p. p.0 == n) stacks ((layer, stack) ∷ []))

-- version 2 has every form
pub second_has : (is_second : Bool) (k : Keyword) → is_second ≡ true → is_of is_second k ≡ true
second_has is_second key.Display e = e
second_has is_second key.Stack e = e
second_has is_second key.Capture e = e
second_has is_second key.Hit e = e
second_has is_second key.Mirror e = e
second_has is_second _ e = refl
