-- The draw order has each layer that shows once. It is counted level by level: the layers at the root, those that are drawn
-- with them, and so on; a layer stands in the level behind that of the layer that it is drawn with.
use Rattle.std.proofs.Common.{rules, ◌≡◌, ℕ, zero, suc, ◌+◌, ◌<◌, ◌==◌, Bool, true, false, not, ◌&&◌, if◌then◌else◌, List, [], ◌∷◌, ◌++◌, length, filter, Option, Some, None, refl, sym, ap, subst, ◌∙◌, arith, get_or}
use Rattle.std.specs.Prelude.{int_lt, slice_get}
use Rattle.std.specs.List.{All, AllPairs, flat_map}
use Rattle.std.proofs.lemmas.Bool.{eqb-true}
use Rattle.std.proofs.lemmas.Grind.{flat_map-append}
use Rattle.std.proofs.lemmas.Option.{same_Some}
use Rattle.sf_base.specs.declared.ids.LayerId.{LayerId}
use Rattle.sf_layer.specs.declared.layer.Layer.{Layer}
use Rattle.sf_layer.specs.declared.parent.Parent.{Parent}
use Rattle.sf_layer.specs.declared.parent.Parent.TheVariants as parent
use Rattle.sf_tree.specs.DrawOrder.{draw, draw_order, draw_parent, drawn_with, in_z_order, is_behind, is_same, put_by_z}
use Rattle.sf_tree.specs.Kept.{IsDistinct, IsRanked, IsTree}
use Rattle.sf_tree.specs.Layers.{layer_of}
use Rattle.sf_tree.specs.inner.Known.{Outranks}
use Rattle.sf_tree.specs.Showing.{passes, parent_passes, relative_passes, shows}
use Rattle.sf_tree.proofs.Ranks.{All-layer_of, layer_of-number}
use Rattle.sf_tree.proofs.ShowLemmas.{Outranks-tree, shows-is}
use Rattle.sf_tree.proofs.TreeKept.{pairs_from_distinct}
use Rattle.law_images.specs.Counts.{times_in}

abbrev one : Bool → ℕ
one b = if b then 1 else 0

-- how often a number stands among layers
abbrev many : List Layer → LayerId → ℕ
many [] id = 0
many (layer ∷ layers) id = one (layer.number.0 == id.0) + many layers id

times-append : (a b : List LayerId) (id : LayerId) → times_in (a ++ b) id ≡ times_in a id + times_in b id
times-append [] b id = omega arith
times-append (x ∷ a) b id = let h = times-append a b id in omega (arith, h)

many-append : (a b : List Layer) (id : LayerId) → many (a ++ b) id ≡ many a id + many b id
many-append [] b id = omega arith
many-append (x ∷ a) b id = let h = many-append a b id in omega (arith, h)

-- the layers that are drawn with those of a list
abbrev below : List Layer → List Layer → List Layer
below showing layers = flat_map (λ (layer : Layer). drawn_with (parent.Layer layer.number) showing) layers

-- a list in two parts
parted : (f : Layer → List LayerId) (p : Layer → Bool) (layers : List Layer) (id : LayerId)
    → times_in (flat_map f (filter p layers)) id + times_in (flat_map f (filter (λ l. not (p l)) layers)) id ≡ times_in (flat_map f layers) id
parted f p [] id = refl
parted f p (layer ∷ layers) id = by (p layer) (parted f p layers id)
  where
    by : (passes : Bool) → times_in (flat_map f (filter p layers)) id + times_in (flat_map f (filter (λ l. not (p l)) layers)) id ≡ times_in (flat_map f layers) id
        → times_in (flat_map f (if passes then layer ∷ filter p layers else filter p layers)) id
        + times_in (flat_map f (if not passes then layer ∷ filter (λ l. not (p l)) layers else filter (λ l. not (p l)) layers)) id ≡ times_in (f layer ++ flat_map f layers) id
    by true h =
        let a = times-append (f layer) (flat_map f (filter p layers)) id in
        let b = times-append (f layer) (flat_map f layers) id in
        omega (arith, h, a, b)
    by false h =
        let a = times-append (f layer) (flat_map f (filter (λ l. not (p l)) layers)) id in
        let b = times-append (f layer) (flat_map f layers) id in
        omega (arith, h, a, b)

-- what a level is drawn with: the layers of the level, and the level below it
level_more : (showing layers : List Layer) (steps : ℕ) (id : LayerId)
    → times_in (flat_map (draw showing (suc steps)) layers) id ≡ many layers id + times_in (flat_map (draw showing steps) (below showing layers)) id
level_more showing [] steps id = omega arith
level_more showing (layer ∷ layers) steps id =
    let with : List Layer = drawn_with (parent.Layer layer.number) showing in
    let behind : List LayerId = flat_map (draw showing steps) (filter is_behind with) in
    let before : List LayerId = flat_map (draw showing steps) (filter (λ other. not (is_behind other)) with) in
    let a = times-append (draw showing (suc steps) layer) (flat_map (draw showing (suc steps)) layers) id in
    let b = times-append behind (layer.number ∷ before) id in
    let c = parted (draw showing steps) is_behind with id in
    let d = level_more showing layers steps id in
    let e = ap (λ l. times_in l id) (flat_map-append (draw showing steps) with (below showing layers)) ∙ times-append (flat_map (draw showing steps) with) (flat_map (draw showing steps) (below showing layers)) id in
    omega (arith, a, b, c, d, e)

-- how often a number stands in so many levels
abbrev in_levels : List Layer → ℕ → List Layer → LayerId → ℕ
in_levels showing zero layers id = 0
in_levels showing (suc steps) layers id = many layers id + in_levels showing steps (below showing layers) id

no_steps : (showing layers : List Layer) (id : LayerId) → times_in (flat_map (draw showing zero) layers) id ≡ 0
no_steps showing [] id = refl
no_steps showing (layer ∷ layers) id = no_steps showing layers id

drawn_in_levels : (showing : List Layer) (steps : ℕ) (layers : List Layer) (id : LayerId) → times_in (flat_map (draw showing steps) layers) id ≡ in_levels showing steps layers id
drawn_in_levels showing zero layers id = no_steps showing layers id
drawn_in_levels showing (suc steps) layers id =
    let a = level_more showing layers steps id in
    let b = drawn_in_levels showing steps (below showing layers) id in
    omega (arith, a, b)

-- a layer of these, of whose number no other one is
Alone : List Layer → Layer → Type 0
Alone layers m = (q : Layer → Bool) → many (filter q layers) m.number ≡ one (q m)

same_order : (a b : ℕ) → (a == b) ≡ (b == a)
same_order a b = grind arith

-- the layer stands behind the layer that it is drawn with, as often as that one stands before
by_parent : Parent → List Layer → ℕ
by_parent parent.Root layers = 0
by_parent (parent.Layer id) layers = many layers id
by_parent parent.Nothing layers = 0

one_behind : (p : Parent) (layer : Layer) (layers : List Layer) → by_parent p (layer ∷ layers) ≡ one (is_same p (parent.Layer layer.number)) + by_parent p layers
unfolding by_parent
one_behind parent.Root layer layers = omega arith
one_behind (parent.Layer id) layer layers = ap (λ b. one b + many layers id) (same_order layer.number.0 id.0)
one_behind parent.Nothing layer layers = omega arith

none_behind : (p : Parent) → by_parent p [] ≡ 0
unfolding by_parent
none_behind parent.Root = refl
none_behind (parent.Layer id) = refl
none_behind parent.Nothing = refl

level_below : (showing : List Layer) (m : Layer) → Alone showing m → (layers : List Layer) → many (below showing layers) m.number ≡ by_parent (draw_parent m) layers
unfolding Alone
level_below showing m alone [] = sym (none_behind (draw_parent m))
level_below showing m alone (layer ∷ layers) =
    let a = many-append (drawn_with (parent.Layer layer.number) showing) (below showing layers) m.number in
    let b = alone (λ l. is_same (draw_parent l) (parent.Layer layer.number)) in
    let c = level_below showing m alone layers in
    let d = one_behind (draw_parent m) layer layers in
    omega (arith, a, b, c, d)

levels_by_parent : List Layer → ℕ → List Layer → Parent → ℕ
levels_by_parent showing steps layers parent.Root = 0
levels_by_parent showing steps layers (parent.Layer id) = in_levels showing steps layers id
levels_by_parent showing steps layers parent.Nothing = 0

one_level : (showing : List Layer) (steps : ℕ) (layers : List Layer) (p : Parent)
    → levels_by_parent showing (suc steps) layers p ≡ by_parent p layers + levels_by_parent showing steps (below showing layers) p
unfolding by_parent levels_by_parent
one_level showing steps layers parent.Root = omega arith
one_level showing steps layers (parent.Layer id) = refl
one_level showing steps layers parent.Nothing = omega arith

no_level : (showing : List Layer) (layers : List Layer) (p : Parent) → levels_by_parent showing zero layers p ≡ 0
unfolding levels_by_parent
no_level showing layers parent.Root = refl
no_level showing layers (parent.Layer id) = refl
no_level showing layers parent.Nothing = refl

levels_below : (showing : List Layer) (m : Layer) → Alone showing m → (steps : ℕ) (layers : List Layer)
    → in_levels showing steps (below showing layers) m.number ≡ levels_by_parent showing steps layers (draw_parent m)
levels_below showing m alone zero layers = sym (no_level showing layers (draw_parent m))
levels_below showing m alone (suc steps) layers =
    let a = level_below showing m alone layers in
    let b = levels_below showing m alone steps (below showing layers) in
    let c = one_level showing steps layers (draw_parent m) in
    omega (arith, a, b, c)

-- what a filter leaves, one layer more
filtered : (passes : Bool) (layer : Layer) (layers : List Layer) (id : LayerId)
    → many (if passes then layer ∷ layers else layers) id ≡ (if passes then one (layer.number.0 == id.0) else 0) + many layers id
filtered true layer layers id = refl
filtered false layer layers id = omega arith

put_same : (q : Layer → Bool) (layer : Layer) (others : List Layer) (id : LayerId) → many (filter q (put_by_z layer others)) id ≡ many (filter q (layer ∷ others)) id
put_same q layer [] id = refl
put_same q layer (other ∷ others) id = by (int_lt other.z layer.z) (put_same q layer others id)
  where
    by : (lower : Bool) → many (filter q (put_by_z layer others)) id ≡ many (filter q (layer ∷ others)) id
        → many (filter q (if lower then other ∷ put_by_z layer others else layer ∷ other ∷ others)) id ≡ many (filter q (layer ∷ other ∷ others)) id
    by true h =
        let a = filtered (q other) other (filter q (put_by_z layer others)) id in
        let b = filtered (q layer) layer (filter q (other ∷ others)) id in
        let c = filtered (q other) other (filter q others) id in
        let d = filtered (q layer) layer (filter q others) id in
        omega (arith, h, a, b, c, d)
    by false h = refl

order_same : (q : Layer → Bool) (layers : List Layer) (id : LayerId) → many (filter q (in_z_order layers)) id ≡ many (filter q layers) id
order_same q [] id = refl
order_same q (layer ∷ layers) id =
    let a = put_same q layer (in_z_order layers) id in
    let b = filtered (q layer) layer (filter q (in_z_order layers)) id in
    let c = order_same q layers id in
    let d = filtered (q layer) layer (filter q layers) id in
    omega (arith, a, b, c, d)

-- of two filters
both_filters : (q s : Layer → Bool) (layers : List Layer) (id : LayerId) → many (filter q (filter s layers)) id ≡ many (filter (λ l. s l && q l) layers) id
both_filters q s [] id = refl
both_filters q s (layer ∷ layers) id = by (s layer) (both_filters q s layers id)
  where
    by : (passes : Bool) → many (filter q (filter s layers)) id ≡ many (filter (λ l. s l && q l) layers) id
        → many (filter q (if passes then layer ∷ filter s layers else filter s layers)) id ≡ many (if passes && q layer then layer ∷ filter (λ l. s l && q l) layers else filter (λ l. s l && q l) layers) id
    by true h =
        let a = filtered (q layer) layer (filter q (filter s layers)) id in
        let b = filtered (q layer) layer (filter (λ l. s l && q l) layers) id in
        omega (arith, h, a, b)
    by false h = h

-- no layer of these has the number
none_of : (q : Layer → Bool) (id : LayerId) (layers : List Layer) → ((j : ℕ) (d : Layer) → j < length layers → ((get_or layers j d).number.0 == id.0) ≡ false) → many (filter q layers) id ≡ 0
none_of q id [] h = refl
none_of q id (layer ∷ layers) h =
    let a = filtered (q layer) layer (filter q layers) id in
    let b = none_of q id layers (λ j d inside. h (suc j) d (omega (arith, inside))) in
    let c = first (q layer) (h 0 layer (omega arith)) in
    omega (arith, a, b, c)
  where
    first : (passes : Bool) → (layer.number.0 == id.0) ≡ false → (if passes then one (layer.number.0 == id.0) else 0) ≡ 0
    first true e = ap one e
    first false e = refl

AreApart : List Layer → Type 0
AreApart layers = AllPairs (λ a b. (a.number.0 == b.number.0) ≡ false) layers

alone_in : (q : Layer → Bool) (id : LayerId) (m : Layer) (layers : List Layer) → AreApart layers → layer_of layers id ≡ Some m → many (filter q layers) id ≡ one (q m)
unfolding AreApart
alone_in q id m [] apart found = search rules
alone_in q id m (layer ∷ layers) apart found =
    by (layer.number.0 == id.0) refl found (λ f. alone_in q id m layers (λ i j d low inside. apart (suc i) (suc j) d (omega (arith, low)) (omega (arith, inside))) f)
  where
    rest : layer.number.0 ≡ id.0 → many (filter q layers) id ≡ 0
    rest same = none_of q id layers (λ j d inside. same_order _ _ ∙ subst (λ n. (n == (get_or layers j d).number.0) ≡ false) same (apart 0 (suc j) d (omega arith) (omega (arith, inside))))

    by : (numbered : Bool) → (layer.number.0 == id.0) ≡ numbered → (if numbered then Some layer else layer_of layers id) ≡ Some m → (layer_of layers id ≡ Some m → many (filter q layers) id ≡ one (q m))
        → many (filter q (layer ∷ layers)) id ≡ one (q m)
    by true e f ih =
        let a = filtered (q layer) layer (filter q layers) id in
        let b = rest (eqb-true _ _ e) in
        let c = here (q layer) e in
        let d = ap (λ (l : Layer). one (q l)) (same_Some layer m f) in
        omega (arith, a, b, c, d)
      where
        here : (passes : Bool) → (layer.number.0 == id.0) ≡ true → (if passes then one (layer.number.0 == id.0) else 0) ≡ one passes
        here true e = ap one e
        here false e = refl
    by false e f ih =
        let a = filtered (q layer) layer (filter q layers) id in
        let b = ih f in
        let c = there (q layer) e in
        omega (arith, a, b, c)
      where
        there : (passes : Bool) → (layer.number.0 == id.0) ≡ false → (if passes then one (layer.number.0 == id.0) else 0) ≡ 0
        there true e = ap one e
        there false e = refl

-- a number that no layer of these has stands in no level
none_below : (showing : List Layer) (id : LayerId) → ((q : Layer → Bool) → many (filter q showing) id ≡ 0) → (layers : List Layer) → many (below showing layers) id ≡ 0
none_below showing id none [] = refl
none_below showing id none (layer ∷ layers) =
    let a = many-append (drawn_with (parent.Layer layer.number) showing) (below showing layers) id in
    let b = none (λ l. is_same (draw_parent l) (parent.Layer layer.number)) in
    let c = none_below showing id none layers in
    omega (arith, a, b, c)

none_in_levels : (showing : List Layer) (id : LayerId) → ((q : Layer → Bool) → many (filter q showing) id ≡ 0) → (steps : ℕ) (layers : List Layer) → many layers id ≡ 0 → in_levels showing steps layers id ≡ 0
none_in_levels showing id none zero layers h = refl
none_in_levels showing id none (suc steps) layers h =
    let a = none_in_levels showing id none steps (below showing layers) (none_below showing id none layers) in
    omega (arith, h, a)

-- what a layer is drawn with, by what it is relative to
drawn_by : Layer → Option LayerId → Parent
drawn_by layer None = layer.parent
drawn_by layer (Some id) = parent.Layer id

drawn_by-is : (layer : Layer) (relative : Option LayerId) → layer.relative ≡ relative → draw_parent layer ≡ drawn_by layer relative
unfolding drawn_by
drawn_by-is layer None e = rw e refl
drawn_by-is layer (Some id) e = rw e refl

-- a layer that shows, of lower rank
pub record IsShownBelow (tree : List Layer) (rank : ℕ → ℕ) (layer : Layer) (id : LayerId) : Type 0 where
  pub with : Layer
  pub found : layer_of tree id ≡ Some with
  pub shown : shows tree with ≡ true
  pub lower : rank id.0 < rank layer.number.0

passing : (tree : List Layer) (test : Layer → Bool) (o : Option Layer) → passes test o ≡ true → (m : Layer) × (o ≡ Some m) × (test m ≡ true)
passing tree test None e = absurd (search rules)
passing tree test (Some m) e = (m, refl, e)

and_first : (a b c : Bool) → (a && (b && c)) ≡ true → (b ≡ true) × (c ≡ true)
and_first true true true e = (refl, refl)
and_first true true false e = absurd (search rules)
and_first true false c e = absurd (search rules)
and_first false b c e = absurd (search rules)

shown_with : (tree : List Layer) (rank : ℕ → ℕ) (layer : Layer) (id : LayerId) → IsRanked rank layer → parent_passes tree (shows tree) layer.parent ≡ true → relative_passes tree (shows tree) layer.relative ≡ true
    → draw_parent layer ≡ parent.Layer id → IsShownBelow tree rank layer id
unfolding drawn_by
shown_with tree rank layer id ranked up beside e = by layer.relative refl
  where
    by : (relative : Option LayerId) → layer.relative ≡ relative → IsShownBelow tree rank layer id
    by None r =
        let is : layer.parent ≡ parent.Layer id = sym (drawn_by-is layer None r) ∙ e in
        let m = passing tree (shows tree) (layer_of tree id) (subst (λ p. parent_passes tree (shows tree) p ≡ true) is up) in
        record { with = m.0; found = m.1; shown = m.2; lower = ranked.parent id is }
    by (Some other) r =
        let same : other ≡ id = search rules in
        let is : layer.relative ≡ Some id = r ∙ ap Some same in
        let m = passing tree (shows tree) (layer_of tree id) (subst (λ o. relative_passes tree (shows tree) o ≡ true) is beside) in
        record { with = m.0; found = m.1; shown = m.2; lower = ranked.relative id is }

drawn_with_nothing : (tree : List Layer) (layer : Layer) → parent_passes tree (shows tree) layer.parent ≡ true → draw_parent layer ≡ parent.Nothing → ⊥
unfolding drawn_by
drawn_with_nothing tree layer up e = by layer.relative refl
  where
    by : (relative : Option LayerId) → layer.relative ≡ relative → ⊥
    by None r =
        let is : layer.parent ≡ parent.Nothing = sym (drawn_by-is layer None r) ∙ e in
        let no : false ≡ true = subst (λ p. parent_passes tree (shows tree) p ≡ true) is up in
        absurd (search rules)
    by (Some other) r =
        let no : parent.Layer other ≡ parent.Nothing = sym (drawn_by-is layer (Some other) r) ∙ e in
        absurd (search rules)

abbrev showing_of : List Layer → List Layer
showing_of tree = in_z_order (filter (shows tree) tree)

-- of a layer of a tree, among those that show
counted : (tree : List Layer) → IsDistinct tree → (m : Layer) → layer_of tree m.number ≡ Some m → (q : Layer → Bool) → many (filter q (showing_of tree)) m.number ≡ one (shows tree m && q m)
unfolding AreApart
counted tree distinct m found q =
    order_same q (filter (shows tree) tree) m.number ∙ both_filters q (shows tree) tree m.number
    ∙ alone_in (λ l. shows tree l && q l) m.number m tree (pairs_from_distinct tree distinct) found

alone_shown : (tree : List Layer) → IsDistinct tree → (m : Layer) → layer_of tree m.number ≡ Some m → shows tree m ≡ true → Alone (showing_of tree) m
unfolding Alone
alone_shown tree distinct m found shown q = counted tree distinct m found q ∙ ap (λ b. one (b && q m)) shown

-- a layer that shows, with what it is drawn
abbrev roots_of : List Layer → List Layer
roots_of tree = drawn_with parent.Root (showing_of tree)

once : (tree : List Layer) (rank : ℕ → ℕ) → IsDistinct tree → All (IsRanked rank) tree → ((layer : Layer) → layer_of tree layer.number ≡ Some layer → shows tree layer ≡ true → (parent_passes tree (shows tree) layer.parent ≡ true) × (relative_passes tree (shows tree) layer.relative ≡ true))
    → (steps : ℕ) (layer : Layer) → layer_of tree layer.number ≡ Some layer → shows tree layer ≡ true → rank layer.number.0 < steps → in_levels (showing_of tree) steps (roots_of tree) layer.number ≡ 1
unfolding Alone levels_by_parent
once tree rank distinct ranked ways zero layer found shown low = absurd (omega (arith, low))
once tree rank distinct ranked ways (suc steps) layer found shown low =
    let alone = alone_shown tree distinct layer found shown in
    let a = alone (λ l. is_same (draw_parent l) parent.Root) in
    let b = levels_below (showing_of tree) layer alone steps (roots_of tree) in
    let c = by (draw_parent layer) refl (λ with f s lower. once tree rank distinct ranked ways steps with f s (omega (arith, low, lower))) in
    omega (arith, a, b, c)
  where
    by : (p : Parent) → draw_parent layer ≡ p → ((with : Layer) → layer_of tree with.number ≡ Some with → shows tree with ≡ true → rank with.number.0 < rank layer.number.0 → in_levels (showing_of tree) steps (roots_of tree) with.number ≡ 1)
        → one (is_same p parent.Root) + levels_by_parent (showing_of tree) steps (roots_of tree) p ≡ 1
    by parent.Root e ih = refl
    by (parent.Layer id) e ih =
        let way = ways layer found shown in
        let w = shown_with tree rank layer id (All-layer_of (IsRanked rank) tree layer.number layer ranked found) way.0 way.1 e in
        let same : w.with.number.0 ≡ id.0 = layer_of-number tree id w.with w.found in
        let at : layer_of tree w.with.number ≡ Some w.with = ap (λ n. layer_of tree (record { 0 = n })) same ∙ w.found in
        let lower : rank w.with.number.0 < rank layer.number.0 = subst (λ n. rank n < rank layer.number.0) (sym same) w.lower in
        let level : in_levels (showing_of tree) steps (roots_of tree) id ≡ 1 = ap (λ n. in_levels (showing_of tree) steps (roots_of tree) (record { 0 = n })) (sym same) ∙ ih w.with at w.shown lower in
        omega (arith, level)
    by parent.Nothing e ih = let way = ways layer found shown in absurd (drawn_with_nothing tree layer way.0 e)

pub drawn_once : (most : ℕ) (tree : List Layer) (place : ℕ) (layer : Layer) → IsTree most tree → slice_get tree place ≡ Some layer → times_in (draw_order tree) layer.number ≡ (if shows tree layer then 1 else 0)
unfolding draw_order
drawn_once most tree place layer t at = drawn_in_levels (showing_of tree) (length tree) (roots_of tree) layer.number ∙ by (shows tree layer) refl
  where
    o : Outranks tree layer (length tree)
    o = Outranks-tree tree place layer t.distinct t.tied t.no_cycle at

    ways : (m : Layer) → layer_of tree m.number ≡ Some m → shows tree m ≡ true → (parent_passes tree (shows tree) m.parent ≡ true) × (relative_passes tree (shows tree) m.relative ≡ true)
    ways m found shown =
        and_first (not m.hidden) (parent_passes tree (shows tree) m.parent) (relative_passes tree (shows tree) m.relative)
        (sym (shows-is tree m (suc (o.rank m.number.0)) (record { rank = o.rank; bounded = o.bounded; found = found; low = omega arith })) ∙ shown)

    none : shows tree layer ≡ false → (q : Layer → Bool) → many (filter q (showing_of tree)) layer.number ≡ 0
    none hidden q = counted tree t.distinct layer o.found q ∙ ap (λ b. one (b && q layer)) hidden

    by : (b : Bool) → shows tree layer ≡ b → in_levels (showing_of tree) (length tree) (roots_of tree) layer.number ≡ (if b then 1 else 0)
    by true shown = once tree o.rank t.distinct o.bounded.ranked ways (length tree) layer o.found shown o.low
    by false hidden = none_in_levels (showing_of tree) layer.number (none hidden) (length tree) (roots_of tree) (none hidden (λ l. is_same (draw_parent l) parent.Root))
