-- Layers sorted by z in a map of keys of z and place.
use Rattle.std.proofs.Common.{◌≡◌, ℕ, zero, suc, ◌+◌, ◌<◌, ◌≤◌, Bool, true, false, cond, List, [], ◌∷◌, length, get_or, drop, map, Some, refl, ap, ◌∙◌, sym, subst, arith, ℤ, ◌<ℤ◌, ◌-◌, drop-cons, Result, Ok, Err}
use Rattle.std.specs.Cmp.{int_cmp_is, int_ranks}
use Rattle.std.specs.List.{AllZip, filter, slice_get}
use Rattle.std.specs.BTreeMap.{insert_entry}
use Rattle.std.proofs.Common.{Ordering}
use Rattle.std.specs.declared.cmp.Ordering.TheVariants.{Less, Equal, Greater}
use Rattle.std.specs.Ordering.{int_cmp, nat_cmp, ordering_then, match_ordering}
use Rattle.std.specs.Prelude.{int_lt, if◌then◌else◌, nat_lt, IfOk, OnOk}
use Rattle.std.proofs.lemmas.Bool.{lt-ltb}
use Rattle.std.proofs.lemmas.List.{get_or-map}
use Rattle.std.proofs.lemmas.Option.{get_or_from_slice_get}
use Rattle.sf_layer.specs.declared.layer.Layer.{Layer}
use Rattle.sf_tree.specs.DrawOrder.{in_z_order, put_by_z}
use Rattle.sf_tree.specs.inner.Known.{AtPlaces, IsEntry}
use Rattle.sf_tree.specs.Showing.{shows}
use Rattle.sf_tree.proofs.ShowLemmas.{inside_from_slice_get}

abbrev Key : Type 0
Key = ℤ × ℕ

abbrev key_cmp : Key → Key → Ordering
key_cmp x y = ordering_then (int_cmp x.0 y.0) (nat_cmp x.1 y.1)

not_both : (a b : ℤ) → int_lt a b ≡ true → int_lt b a ≡ true → ⊥
not_both a b p q =
    let one : a <ℤ b = rw p at (int_ranks a b) in
    let other : Greater ≡ Less = rw q at (int_cmp_is b a Greater one) in
    cc

entries_later : (tree : List Layer) (from to : ℕ) (es : List (Key × Unit {0})) (ls : List Layer) → from ≤ to → AllZip (IsEntry tree to) es ls → AllZip (IsEntry tree from) es ls
entries_later tree from to [] [] h all = tt
entries_later tree from to [] (l ∷ ls) h all = all
entries_later tree from to (e ∷ es) [] h all = all
entries_later tree from to (e ∷ es) (l ∷ ls) h all = (record { at = all.0.at; z = all.0.z; later = omega (arith, all.0.later) }, entries_later tree from to es ls h all.1)

-- an older layer's key goes where the layer goes
pub put_entry : (tree : List Layer) (from : ℕ) (z : ℤ) (layer : Layer) (es : List (Key × Unit {0})) (ls : List Layer) → slice_get tree from ≡ Some layer → z ≡ layer.z → AllZip (IsEntry tree (from + 1)) es ls → AllZip (IsEntry tree from) (insert_entry key_cmp es (z, from) tt) (put_by_z layer ls)
put_entry tree from z layer [] [] at e all = (record { at = at; z = e; later = omega arith }, tt)
put_entry tree from z layer [] (l ∷ ls) at e all = absurd all
put_entry tree from z layer (x ∷ es) [] at e all = absurd all
put_entry tree from z layer (x ∷ es) (l ∷ ls) at e all =
    by_tests (int_lt z x.0.0) (int_lt x.0.0 z) refl refl (put_entry tree from z layer es ls at e all.1)
  where
    first : AllZip (IsEntry tree from) (((z, from), tt) ∷ x ∷ es) (layer ∷ l ∷ ls)
    first = (record { at = at; z = e; later = omega arith }, entries_later tree from (from + 1) (x ∷ es) (l ∷ ls) (omega arith) all)

    before : nat_lt from x.0.1 ≡ true
    before = lt-ltb from x.0.1 (omega (arith, all.0.later))

    same_test : int_lt l.z layer.z ≡ int_lt x.0.0 z
    same_test = rw (e, all.0.z) refl

    by_tests : (a b : Bool) → int_lt z x.0.0 ≡ a → int_lt x.0.0 z ≡ b → AllZip (IsEntry tree from) (insert_entry key_cmp es (z, from) tt) (put_by_z layer ls) → AllZip (IsEntry tree from) (match_ordering (ordering_then (cond a Less (cond b Greater Equal)) (nat_cmp from x.0.1)) (((z, from), tt) ∷ x ∷ es) ((x.0, tt) ∷ es) (x ∷ insert_entry key_cmp es (z, from) tt)) (if int_lt l.z layer.z then l ∷ put_by_z layer ls else layer ∷ l ∷ ls)
    by_tests true true p q ih = absurd (not_both z x.0.0 p q)
    by_tests true false p q ih = rw (same_test ∙ q) first
    by_tests false true p q ih = rw (same_test ∙ q) (record { at = all.0.at; z = all.0.z; later = omega (arith, all.0.later) }, ih)
    by_tests false false p q ih = rw (same_test ∙ q, before) first

-- the places of the keys
pub places_of_keys : (tree : List Layer) (from : ℕ) (es : List (Key × Unit {0})) (ls : List Layer) → AllZip (IsEntry tree from) es ls → AtPlaces tree (map (λ (k : Key). k.1) (map (λ (e : Key × Unit {0}). e.0) es)) ls
places_of_keys tree from [] [] all = tt
places_of_keys tree from [] (l ∷ ls) all = all
places_of_keys tree from (e ∷ es) [] all = all
places_of_keys tree from (e ∷ es) (l ∷ ls) all = (all.0.at, places_of_keys tree from es ls all.1)

-- what a list of flags says of a layer
pub flag_is : (tree : List Layer) (flags : List Bool) (place : ℕ) (d b : Bool) (layer : Layer) → flags ≡ map (shows tree) tree → slice_get tree place ≡ Some layer → get_or flags place d ≡ b → shows tree layer ≡ b
flag_is tree flags place d b layer same at e =
    let inside : place < length tree = inside_from_slice_get tree place layer at in
    ap (shows tree) (sym (get_or_from_slice_get tree place layer layer at)) ∙ (sym (get_or-map (shows tree) tree place layer d inside) ∙ (rw same at e))

pub drop_one : (tree : List Layer) (place : ℕ) (layer : Layer) → 0 < place → slice_get tree (place - 1) ≡ Some layer → drop (place - 1) tree ≡ layer ∷ drop place tree
drop_one tree zero layer some at = absurd (omega arith)
drop_one tree (suc p) layer some at = by_number (suc p - 1) (omega arith) at
  where
    by_number : (n : ℕ) → n ≡ p → slice_get tree n ≡ Some layer → drop n tree ≡ layer ∷ drop (suc p) tree
    by_number n e at =
        let here : slice_get tree p ≡ Some layer = rw e at at in
        rw e (drop-cons tree p layer (inside_from_slice_get tree p layer here) ∙ ap (λ (l : Layer). l ∷ drop (suc p) tree) (get_or_from_slice_get tree p layer layer here))

-- the next older layer, where it shows
pub sorted_more : (tree : List Layer) (place : ℕ) (layer : Layer) (es new : List (Key × Unit {0})) → 0 < place → slice_get tree (place - 1) ≡ Some layer → shows tree layer ≡ true → new ≡ insert_entry key_cmp es (layer.z, place - 1) tt → AllZip (IsEntry tree place) es (in_z_order (filter (shows tree) (drop place tree))) → AllZip (IsEntry tree (place - 1)) new (in_z_order (filter (shows tree) (drop (place - 1) tree)))
sorted_more tree place layer es new some at shown put all =
    let later : place - 1 + 1 ≡ place = omega arith in
    rw (drop_one tree place layer some at, shown, put) (put_entry tree (place - 1) layer.z layer es _ at refl (rw later all))

-- the next older layer, where it does not show
pub sorted_same : (tree : List Layer) (place : ℕ) (layer : Layer) (es : List (Key × Unit {0})) → 0 < place → slice_get tree (place - 1) ≡ Some layer → shows tree layer ≡ false → AllZip (IsEntry tree place) es (in_z_order (filter (shows tree) (drop place tree))) → AllZip (IsEntry tree (place - 1)) es (in_z_order (filter (shows tree) (drop (place - 1) tree)))
sorted_same tree place layer es some at shown all =
    rw (drop_one tree place layer some at, shown) (entries_later tree (place - 1) place es _ (omega arith) all)

pub all_sorted : (tree : List Layer) (place : ℕ) (es : List (Key × Unit {0})) → place ≤ 0 → AllZip (IsEntry tree place) es (in_z_order (filter (shows tree) (drop place tree))) → AtPlaces tree (map (λ (k : Key). k.1) (map (λ (e : Key × Unit {0}). e.0) es)) (in_z_order (filter (shows tree) tree))
all_sorted tree place es none all =
    let zero_is : place ≡ 0 = omega arith in
    places_of_keys tree 0 es _ (subst (λ (n : ℕ). AllZip (IsEntry tree n) es (in_z_order (filter (shows tree) (drop n tree)))) zero_is all)

pub ok_weaker : {T E : Type 0} (P Q : T → Type 0) (r : Result T E) → ((x : T) → P x → Q x) → IfOk r P → IfOk r Q
ok_weaker P Q (Ok x) h p = h x p
ok_weaker P Q (Err e) h p = tt

pub on_ok_weaker : {T E P Q : Type 0} (r : Result T E) → (P → Q) → OnOk r P → OnOk r Q
on_ok_weaker (Ok x) h p = h p
on_ok_weaker (Err e) h p = tt
