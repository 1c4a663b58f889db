-- Layers that stand in the order of their z already.
use Rattle.std.proofs.Common.{◌≡◌, ℕ, ◌<◌, ◌-◌, ◌≤◌, true, false, List, [], ◌∷◌, ◌++◌, drop, reverse, Some, refl, ap, ◌∙◌, sym, subst, arith, ℤ}
use Rattle.std.specs.List.{filter, slice_get}
use Rattle.std.specs.Prelude.{int_lt}
use Rattle.std.proofs.lemmas.Int.{ints}
use Rattle.std.proofs.lemmas.List.{reverse-append}
use Rattle.sf_layer.specs.declared.layer.Layer.{Layer}
use Rattle.sf_tree.specs.DrawOrder.{in_z_order, put_by_z}
use Rattle.sf_tree.specs.inner.Known.{AtPlaces, IsFrom, IsRising}
use Rattle.sf_tree.specs.Showing.{shows}
use Rattle.sf_tree.proofs.ZOrder.{drop_one}

no_lower : (a b c : ℤ) → int_lt b a ≡ false → int_lt c b ≡ false → int_lt c a ≡ false
no_lower a b c h g = grind (arith, ints)

-- a layer that is not above the first one goes before all
put_first : (layer : Layer) (ls : List Layer) (z : ℤ) → int_lt z layer.z ≡ false → IsFrom z ls → put_by_z layer ls ≡ layer ∷ ls
put_first layer [] z low first = refl
put_first layer (l ∷ ls) z low first = rw (no_lower layer.z z l.z low first) refl

itself : (a : ℤ) → int_lt a a ≡ false
itself a = grind (arith, ints)

-- the next older layer, where it shows
pub rising_more : (tree : List Layer) (place : ℕ) (layer : Layer) (z : ℤ) (places new : List ℕ) → 0 < place → slice_get tree (place - 1) ≡ Some layer → shows tree layer ≡ true → int_lt z layer.z ≡ false → new ≡ places ++ (place - 1) ∷ [] → IsRising tree place z places → IsRising tree (place - 1) layer.z new
rising_more tree place layer z places new some here shown low put old = record {
  at = subst (λ (list : List ℕ). AtPlaces tree list (in_z_order (filter (shows tree) (drop (place - 1) tree)))) (sym back) (subst (AtPlaces tree ((place - 1) ∷ reverse places)) (sym all) (here, old.at));
  first = subst (IsFrom layer.z) (sym all) (itself layer.z);
}
  where
    all : in_z_order (filter (shows tree) (drop (place - 1) tree)) ≡ layer ∷ in_z_order (filter (shows tree) (drop place tree))
    all = rw (drop_one tree place layer some here, shown) (put_first layer _ z low old.first)

    back : reverse new ≡ (place - 1) ∷ reverse places
    back = ap reverse put ∙ reverse-append places ((place - 1) ∷ [])

-- the next older layer, where it does not show
pub rising_same : (tree : List Layer) (place : ℕ) (layer : Layer) (z : ℤ) (places : List ℕ) → 0 < place → slice_get tree (place - 1) ≡ Some layer → shows tree layer ≡ false → IsRising tree place z places → IsRising tree (place - 1) z places
rising_same tree place layer z places some here shown old = record {
  at = subst (AtPlaces tree (reverse places)) (sym all) old.at;
  first = subst (IsFrom z) (sym all) old.first;
}
  where
    all : in_z_order (filter (shows tree) (drop (place - 1) tree)) ≡ in_z_order (filter (shows tree) (drop place tree))
    all = rw (drop_one tree place layer some here, shown) refl

pub rising_all : (tree : List Layer) (place : ℕ) (z : ℤ) (places new : List ℕ) → place ≤ 0 → new ≡ reverse places → IsRising tree place z places → AtPlaces tree new (in_z_order (filter (shows tree) tree))
rising_all tree place z places new none back r =
    let zero_is : place ≡ 0 = omega arith in
    subst (λ (list : List ℕ). AtPlaces tree list (in_z_order (filter (shows tree) tree))) (sym back) (subst (λ (n : ℕ). AtPlaces tree (reverse places) (in_z_order (filter (shows tree) (drop n tree)))) zero_is r.at)
