-- Which layers have backpressure, before and after an operation.
use Rattle.std.proofs.Common.{◌≡◌, ℕ, ◌+◌, ℤ, Bool, true, false, not, ◌&&◌, ◌||◌, List, [], ◌∷◌, ◌++◌, length, map, Option, Some, None, Result, Ok, Err, refl, ap, ◌∙◌, sym, subst, arith, cond, drop, get_or, ◌<◌, ◌≤◌, suc}
use Rattle.std.specs.List.{filter, list_any}
use Rattle.std.specs.Prelude.{◌==◌, eqb, nat_le, if◌then◌else◌}
use Rattle.std.specs.BTreeMap.{is_at}
use Rattle.std.specs.Cmp.{unsigned_tied}
use Rattle.std.specs.Ordering.{nat_cmp}
use Rattle.std.proofs.Math.Seq.{drop-cons}
use Rattle.std.proofs.lemmas.List.{drop_all}
use Rattle.std.proofs.lemmas.Bool.Decides.{nat_tests}
use Rattle.std.proofs.lemmas.Option.{none-some}
use Rattle.sf_base.specs.declared.ids.LayerId.{LayerId}
use Rattle.sf_view.specs.sf_layer.declared.kind.Kind.{Kind}
use Rattle.sf_view.specs.sf_layer.declared.layer.Layer.{Layer}
use Rattle.sf_view.specs.sf_layer.declared.op.Op.{Op}
use Rattle.sf_view.specs.sf_layer.declared.op.Op.TheVariants as op
use Rattle.sf_view.specs.sf_layer.declared.parent.Parent.{Parent}
use Rattle.sf_commit_next.specs.sf_ready.Facts.{HasSame, has_layer}
use Rattle.sf_commit_next.proofs.sf_ready_lemmas.FactLemmas.{has_key}
use Rattle.sf_view.specs.sf_tree.declared.reject.Reject.{Reject}
use Rattle.sf_view.specs.sf_tree.declared.reject.Reject.TheVariants as reject
use Rattle.sf_view.specs.sf_tree.Changes.{Rejection, after, after_from, changed, created, destroyed, edited, edited_layer, fits_kind, made_relative, new_layer, reparented, then_after, with_layer, with_layers, without, without_steps_to}
use Rattle.sf_view.specs.sf_tree.Layers.{has_layer as is_there, has_parent, is_numbered, layer_of}
use Rattle.sf_view.specs.sf_tree.Steps.{all_steps, parent_steps, reaches_itself}
use Rattle.sf_view.specs.sf_tree.Trees.{TreeOf}
use Rattle.sf_commit.proofs.StandingAlong.{no_cause, same_layers}
use Rattle.sf_commit.specs.Inside.{PressedByOp, PressedByOps}
use Rattle.sf_commit.specs.Rounds.{pressed_in}

-- numbers that are equal are equal, and unequal, to the same ones
same_too : (a b c : ℕ) → eqb a b ≡ true → eqb b c ≡ true → eqb a c ≡ true
same_too a b c h k = grind (arith, nat_tests)

other_too : (a b c : ℕ) → eqb a b ≡ true → eqb b c ≡ false → eqb a c ≡ false
other_too a b c h k = grind (arith, nat_tests)

other_than : (a b c : ℕ) → eqb a b ≡ false → eqb b c ≡ true → eqb a c ≡ false
other_than a b c h k = grind (arith, nat_tests)

and_false : (a : Bool) → (a && false) ≡ false
and_false true = refl
and_false false = refl

or_true : (a : Bool) → (a || true) ≡ true
or_true true = refl
or_true false = refl

-- a test of the items of a changed list
any_same : {X : Type 0} (p : X → Bool) (f : X → X) → ((x : X) → p (f x) ≡ p x) → (xs : List X) → list_any p (map f xs) ≡ list_any p xs
any_same p f h [] = refl
any_same p f h (x ∷ xs) = λ i. h x i || any_same p f h xs i

any_none : {X : Type 0} (p : X → Bool) (f : X → X) → ((x : X) → p (f x) ≡ false) → (xs : List X) → list_any p (map f xs) ≡ false
any_none p f h [] = refl
any_none p f h (x ∷ xs) = λ i. h x i || any_none p f h xs i

any_last : {X : Type 0} (p : X → Bool) (xs : List X) (y : X) → p y ≡ false → list_any p (xs ++ y ∷ []) ≡ list_any p xs
any_last p [] y h = λ i. h i || false
any_last p (x ∷ xs) y h = ap (λ b. p x || b) (any_last p xs y h)

-- a layer of this number has backpressure
abbrev pub is_pressed : LayerId → Layer → Bool
is_pressed id layer = layer.backpressure && (layer.number.0 == id.0)

is_other : (id : LayerId) (layer : Layer) → eqb layer.number.0 id.0 ≡ false → is_pressed id layer ≡ false
is_other id layer other = ap (λ b. layer.backpressure && b) other ∙ and_false layer.backpressure

any_pressed : (id : LayerId) (layers : List Layer) → has_layer (pressed_in layers) id ≡ list_any (is_pressed id) layers
any_pressed id [] = refl
any_pressed id (x ∷ xs) = by_test (any_pressed id xs) x.backpressure refl
  where
    by_test : has_layer (pressed_in xs) id ≡ list_any (is_pressed id) xs → (b : Bool) → x.backpressure ≡ b
        → has_layer (pressed_in (x ∷ xs)) id ≡ list_any (is_pressed id) (x ∷ xs)
    by_test later true e = rw e (ap (λ b. (x.number.0 == id.0) || b) later)
    by_test later false e = rw e later

-- the same layers have backpressure, or the same but for one, which has it or not
abbrev pub KeepsPressed : List Layer → List Layer → Type 0
KeepsPressed layers next = (id : LayerId) → list_any (is_pressed id) next ≡ list_any (is_pressed id) layers

abbrev pub SetsPressed : LayerId → Bool → List Layer → List Layer → Type 0
SetsPressed layer has layers next = (id : LayerId) → list_any (is_pressed id) next ≡ (if layer.0 == id.0 then has else list_any (is_pressed id) layers)

-- an edit of one layer that keeps whether it has backpressure
kept_by : (layer : LayerId) (edit : Layer → Layer) → ((l : Layer) → (edit l).number ≡ l.number) → ((l : Layer) → (edit l).backpressure ≡ l.backpressure)
    → (layers : List Layer) → KeepsPressed layers (with_layer layer edit layers)
kept_by layer edit number pressed layers id =
    any_same (is_pressed id) (λ l. if is_numbered layer l then edit l else l) (λ l. by_test l (is_numbered layer l)) layers
  where
    by_test : (l : Layer) (b : Bool) → is_pressed id (if b then edit l else l) ≡ is_pressed id l
    by_test l true = λ i. pressed l i && ((number l i).0 == id.0)
    by_test l false = refl

-- one that sets whether it has it
set_some : (layer id : LayerId) → eqb layer.0 id.0 ≡ true → (layers : List Layer) (found : Layer) → layer_of layers layer ≡ Some found
    → list_any (is_pressed id) (with_layer layer (edited (op.Backpressure true)) layers) ≡ true
set_some layer id same [] found e = absurd (none-some found e)
set_some layer id same (x ∷ xs) found e = by_test (set_some layer id same xs found) (is_numbered layer x) refl e
  where
    by_test : (layer_of xs layer ≡ Some found → list_any (is_pressed id) (with_layer layer (edited (op.Backpressure true)) xs) ≡ true)
        → (b : Bool) → is_numbered layer x ≡ b → layer_of (x ∷ xs) layer ≡ Some found
        → list_any (is_pressed id) (with_layer layer (edited (op.Backpressure true)) (x ∷ xs)) ≡ true
    by_test later true h k = rw (h, same_too x.number.0 layer.0 id.0 h same) refl
    by_test later false h k = rw h (ap (λ b. is_pressed id x || b) (later (rw h at k)) ∙ or_true (is_pressed id x))

set_none : (layer id : LayerId) → eqb layer.0 id.0 ≡ true → (layers : List Layer)
    → list_any (is_pressed id) (with_layer layer (edited (op.Backpressure false)) layers) ≡ false
set_none layer id same layers =
    any_none (is_pressed id) (λ l. if is_numbered layer l then edited (op.Backpressure false) l else l) (λ l. by_test l (is_numbered layer l) refl) layers
  where
    by_test : (l : Layer) (b : Bool) → is_numbered layer l ≡ b → is_pressed id (if b then edited (op.Backpressure false) l else l) ≡ false
    by_test l true h = refl
    by_test l false h = is_other id l (other_than l.number.0 layer.0 id.0 h same)

set_other : (layer id : LayerId) (has : Bool) → eqb layer.0 id.0 ≡ false → (layers : List Layer)
    → list_any (is_pressed id) (with_layer layer (edited (op.Backpressure has)) layers) ≡ list_any (is_pressed id) layers
set_other layer id has apart layers =
    any_same (is_pressed id) (λ l. if is_numbered layer l then edited (op.Backpressure has) l else l) (λ l. by_test l (is_numbered layer l) refl) layers
  where
    by_test : (l : Layer) (b : Bool) → is_numbered layer l ≡ b → is_pressed id (if b then edited (op.Backpressure has) l else l) ≡ is_pressed id l
    by_test l true h =
        let other = other_too l.number.0 layer.0 id.0 h apart in
        is_other id (edited (op.Backpressure has) l) other ∙ sym (is_other id l other)
    by_test l false h = refl

set_by : (layer : LayerId) (has : Bool) (layers : List Layer) (found : Layer) → layer_of layers layer ≡ Some found
    → SetsPressed layer has layers (with_layer layer (edited (op.Backpressure has)) layers)
set_by layer has layers found e id = by_number has (eqb layer.0 id.0) refl
  where
    by_number : (has : Bool) (b : Bool) → eqb layer.0 id.0 ≡ b
        → list_any (is_pressed id) (with_layer layer (edited (op.Backpressure has)) layers) ≡ (if b then has else list_any (is_pressed id) layers)
    by_number true true h = set_some layer id h layers found e
    by_number false true h = set_none layer id h layers
    by_number has false h = set_other layer id has h layers

-- the layers without those of a number
gone_none : (layer id : LayerId) → eqb layer.0 id.0 ≡ true → (layers : List Layer)
    → list_any (is_pressed id) (filter (λ l. not (is_numbered layer l)) layers) ≡ false
gone_none layer id same [] = refl
gone_none layer id same (x ∷ xs) = by_test (gone_none layer id same xs) (is_numbered layer x) refl
  where
    by_test : list_any (is_pressed id) (filter (λ l. not (is_numbered layer l)) xs) ≡ false → (b : Bool) → is_numbered layer x ≡ b
        → list_any (is_pressed id) (filter (λ l. not (is_numbered layer l)) (x ∷ xs)) ≡ false
    by_test later true h = rw h later
    by_test later false h = rw h (λ i. is_other id x (other_than x.number.0 layer.0 id.0 h same) i || later i)

gone_other : (layer id : LayerId) → eqb layer.0 id.0 ≡ false → (layers : List Layer)
    → list_any (is_pressed id) (filter (λ l. not (is_numbered layer l)) layers) ≡ list_any (is_pressed id) layers
gone_other layer id apart [] = refl
gone_other layer id apart (x ∷ xs) = by_test (gone_other layer id apart xs) (is_numbered layer x) refl
  where
    by_test : list_any (is_pressed id) (filter (λ l. not (is_numbered layer l)) xs) ≡ list_any (is_pressed id) xs → (b : Bool) → is_numbered layer x ≡ b
        → list_any (is_pressed id) (filter (λ l. not (is_numbered layer l)) (x ∷ xs)) ≡ list_any (is_pressed id) (x ∷ xs)
    by_test later true h =
        rw h (later ∙ sym (ap (λ b. b || list_any (is_pressed id) xs) (is_other id x (other_too x.number.0 layer.0 id.0 h apart))))
    by_test later false h = rw h (ap (λ b. is_pressed id x || b) later)

gone_by : (layer : LayerId) (layers : List Layer) → SetsPressed layer false layers (without layer layers)
gone_by layer layers id =
    any_same (is_pressed id) (without_steps_to layer) (λ _. refl) (filter (λ l. not (is_numbered layer l)) layers) ∙ by_number (eqb layer.0 id.0) refl
  where
    by_number : (b : Bool) → eqb layer.0 id.0 ≡ b
        → list_any (is_pressed id) (filter (λ l. not (is_numbered layer l)) layers) ≡ (if b then false else list_any (is_pressed id) layers)
    by_number true h = gone_none layer id h layers
    by_number false h = gone_other layer id h layers

-- each change of the layers
module _ (layers : List Layer) (id : LayerId) (next : List Layer) where
  keeps_created : (most : ℕ) (kind : Kind) (parent : Parent) → created most layers id kind parent ≡ Ok next → KeepsPressed layers next
  unfolding created
  keeps_created most kind parent h =
      let to = layers ++ new_layer id kind parent ∷ [] in
      let many = if nat_le most (length layers) then Err reject.TooManyLayers else Ok to in
      let there = if is_there layers id then Err reject.LayerExists else many in
      let one = no_cause (not (has_parent layers parent)) reject.UnknownLayer there next h in
      let two = no_cause (is_there layers id) reject.LayerExists many next one in
      let three = no_cause (nat_le most (length layers)) reject.TooManyLayers (Ok to) next two in
      subst (KeepsPressed layers) (same_layers _ _ three) (λ other. any_last (is_pressed other) layers (new_layer id kind parent) refl)

  keeps_reparented : (parent : Parent) → reparented layers id parent ≡ Ok next → KeepsPressed layers next
  unfolding reparented
  keeps_reparented parent h =
      let to = with_layer id (λ layer. record layer { parent = parent }) layers in
      let drawn = if reaches_itself all_steps to id then Err reject.DrawCycle else Ok to in
      let hung = if reaches_itself parent_steps to id then Err reject.ParentCycle else drawn in
      let one = no_cause (not (is_there layers id && has_parent layers parent)) reject.UnknownLayer hung next h in
      let two = no_cause (reaches_itself parent_steps to id) reject.ParentCycle drawn next one in
      let three = no_cause (reaches_itself all_steps to id) reject.DrawCycle (Ok to) next two in
      subst (KeepsPressed layers) (same_layers _ _ three) (kept_by id (λ layer. record layer { parent = parent }) (λ _. refl) (λ _. refl) layers)

  keeps_relative : (other : LayerId) (z : ℤ) → made_relative layers id other z ≡ Ok next → KeepsPressed layers next
  unfolding made_relative
  keeps_relative other z h =
      let to = with_layer id (λ layer. record layer { relative = Some other; z = z }) layers in
      let drawn = if reaches_itself all_steps to id then Err reject.DrawCycle else Ok to in
      let one = no_cause (not (is_there layers id && is_there layers other)) reject.UnknownLayer drawn next h in
      let two = no_cause (reaches_itself all_steps to id) reject.DrawCycle (Ok to) next one in
      subst (KeepsPressed layers) (same_layers _ _ two) (kept_by id (λ layer. record layer { relative = Some other; z = z }) (λ _. refl) (λ _. refl) layers)

  keeps_edited : (o : Op) → ((layer : Layer) → (edited o layer).number ≡ layer.number) → ((layer : Layer) → (edited o layer).backpressure ≡ layer.backpressure)
      → (found : Option Layer) → edited_layer layers id o found ≡ Ok next → KeepsPressed layers next
  keeps_edited o number pressed None h = cc
  keeps_edited o number pressed (Some layer) h = by_kind (fits_kind o layer.kind) h
    where
      by_kind : (b : Bool) → (if b then Ok (with_layer id (edited o) layers) else Err reject.WrongKind) ≡ Ok next → KeepsPressed layers next
      by_kind true k = subst (KeepsPressed layers) (same_layers _ _ k) (kept_by id (edited o) number pressed layers)
      by_kind false k = cc

  sets_edited : (has : Bool) (found : Option Layer) → layer_of layers id ≡ found → edited_layer layers id (op.Backpressure has) found ≡ Ok next
      → SetsPressed id has layers next
  sets_edited has None e h = cc
  sets_edited has (Some layer) e h = subst (SetsPressed id has layers) (same_layers _ _ h) (set_by id has layers layer e)

  sets_destroyed : destroyed layers id ≡ Ok next → SetsPressed id false layers next
  unfolding destroyed
  sets_destroyed h = by_test (is_there layers id) h
    where
      by_test : (b : Bool) → (if b then Ok (without id layers) else Err reject.UnknownLayer) ≡ Ok next → SetsPressed id false layers next
      by_test true k = subst (SetsPressed id false layers) (same_layers _ _ k) (gone_by id layers)
      by_test false k = cc

  keeps_changed : (most : ℕ) (o : Op) → ((has : Bool) → o ≡ op.Backpressure has → ⊥) → (o ≡ op.Destroy → ⊥) → changed most layers id o ≡ Ok next
      → KeepsPressed layers next
  keeps_changed most (op.Create kind parent) a b h = keeps_created most kind parent h
  keeps_changed most op.Destroy a b h = absurd (b refl)
  keeps_changed most (op.Reparent parent) a b h = keeps_reparented parent h
  keeps_changed most (op.Relative other z) a b h = keeps_relative other z h
  keeps_changed most (op.Z z) a b h = keeps_edited (op.Z z) (λ _. refl) (λ _. refl) (layer_of layers id) h
  keeps_changed most (op.Position x y) a b h = keeps_edited (op.Position x y) (λ _. refl) (λ _. refl) (layer_of layers id) h
  keeps_changed most (op.Crop crop) a b h = keeps_edited (op.Crop crop) (λ _. refl) (λ _. refl) (layer_of layers id) h
  keeps_changed most (op.Alpha alpha) a b h = keeps_edited (op.Alpha alpha) (λ _. refl) (λ _. refl) (layer_of layers id) h
  keeps_changed most (op.Hidden hidden) a b h = keeps_edited (op.Hidden hidden) (λ _. refl) (λ _. refl) (layer_of layers id) h
  keeps_changed most (op.Opaque opaque) a b h = keeps_edited (op.Opaque opaque) (λ _. refl) (λ _. refl) (layer_of layers id) h
  keeps_changed most (op.Colour colour) a b h = keeps_edited (op.Colour colour) (λ _. refl) (λ _. refl) (layer_of layers id) h
  keeps_changed most (op.Backpressure has) a b h = absurd (a has refl)
  keeps_changed most (op.Show shown) a b h = keeps_edited (op.Show shown) (λ _. refl) (λ _. refl) (layer_of layers id) h
  keeps_changed most (op.Orient orient) a b h = keeps_edited (op.Orient orient) (λ _. refl) (λ _. refl) (layer_of layers id) h

-- what is kept of the layers with backpressure is still the same
pub kept_same : (pressed : List ℕ) (layers next : List Layer) → KeepsPressed layers next → HasSame pressed (pressed_in layers) → HasSame pressed (pressed_in next)
kept_same pressed layers next keeps same = λ id. same id ∙ (any_pressed id layers ∙ (sym (keeps id) ∙ sym (any_pressed id next)))

pub set_same : (pressed new : List ℕ) (layer : LayerId) (has : Bool) (layers next : List Layer)
    → ((id : LayerId) → has_layer new id ≡ (if layer.0 == id.0 then has else has_layer pressed id)) → SetsPressed layer has layers next
    → HasSame pressed (pressed_in layers) → HasSame new (pressed_in next)
set_same pressed new layer has layers next told sets same = λ id.
    told id ∙ (ap (λ b. if layer.0 == id.0 then has else b) (same id ∙ any_pressed id layers) ∙ (sym (sets id) ∙ sym (any_pressed id next)))

pub set_by_op : (most : ℕ) (layers : List Layer) (id : LayerId) (next : List Layer) (has : Bool) → changed most layers id (op.Backpressure has) ≡ Ok next → SetsPressed id has layers next
set_by_op most layers id next has h = sets_edited layers id next has (layer_of layers id) refl h

pub gone_by_op : (most : ℕ) (layers : List Layer) (id : LayerId) (next : List Layer) → changed most layers id op.Destroy ≡ Ok next → SetsPressed id false layers next
gone_by_op most layers id next h = sets_destroyed layers id next h

pub kept_by_op : (most : ℕ) (layers : List Layer) (id : LayerId) (next : List Layer) (o : Op) → ((has : Bool) → o ≡ op.Backpressure has → ⊥) → (o ≡ op.Destroy → ⊥)
    → changed most layers id o ≡ Ok next → KeepsPressed layers next
kept_by_op most layers id next o a b h = keeps_changed layers id next most o a b h

-- operations that were all applied: the first of them, and the others
pub first_after : (most number : ℕ) (layers : List Layer) (x : LayerId × Op) (later : List (LayerId × Op)) (next : List Layer)
    → after_from most number layers (x ∷ later) ≡ Ok next
    → (mid : List Layer) × (changed most layers x.0 x.1 ≡ Ok mid) × (after_from most (number + 1) mid later ≡ Ok next)
first_after most number layers x later next h = by_answer (changed most layers x.0 x.1) refl h
  where
    by_answer : (answer : Result (List Layer) Reject) → changed most layers x.0 x.1 ≡ answer
        → then_after number answer (λ mid. after_from most (number + 1) mid later) ≡ Ok next
        → (mid : List Layer) × (changed most layers x.0 x.1 ≡ Ok mid) × (after_from most (number + 1) mid later ≡ Ok next)
    by_answer (Ok mid) made k = (mid, made, k)
    by_answer (Err cause) made k = cc

pub all_after : (tree next : TreeOf) (ops : List (LayerId × Op)) → after tree ops ≡ Ok next → after_from tree.most 1 tree.layers ops ≡ Ok next.layers
all_after tree next ops h = by_answer (after_from tree.most 1 tree.layers ops) refl h
  where
    by_answer : (answer : Result (List Layer) Rejection) → after_from tree.most 1 tree.layers ops ≡ answer → with_layers tree answer ≡ Ok next
        → after_from tree.most 1 tree.layers ops ≡ Ok next.layers
    by_answer (Ok layers) made k =
        let same : record tree { layers = layers } ≡ next = cc in
        made ∙ ap (λ (t : TreeOf). Ok t.layers) same
    by_answer (Err rejection) made k = cc

-- how far operations have come that were all applied, when these are left: what is kept is that of the layers then
abbrev pub ComesTo : List (LayerId × Op) → List (LayerId × Op) → List ℕ → List ℕ → Type 0
ComesTo ops left old new = (most : ℕ) (layers next : List Layer) → after_from most 1 layers ops ≡ Ok next → HasSame old (pressed_in layers)
    → (number : ℕ) × (mid : List Layer) × (after_from most number mid left ≡ Ok next) × HasSame new (pressed_in mid)

pub comes_first : (ops : List (LayerId × Op)) (pressed : List ℕ) → ComesTo ops ops pressed pressed
comes_first ops pressed = λ most layers next h same. (1, layers, h, same)

pub comes_on : (ops : List (LayerId × Op)) (i : ℕ) (d : LayerId × Op) (old mid new : List ℕ) → i < length ops → ComesTo ops (drop i ops) old mid
    → PressedByOp (get_or ops i d).0 (get_or ops i d).1 mid new → ComesTo ops (drop (i + 1) ops) old new
comes_on ops i d old mid new inside comes one = λ most layers next h same.
    let x : LayerId × Op = get_or ops i d in
    let later : drop i ops ≡ x ∷ drop (i + 1) ops =
    subst (λ (k : ℕ). drop i ops ≡ x ∷ drop k ops) (let e : suc i ≡ i + 1 = omega arith in e) (drop-cons ops i d inside) in
    let (number, there, left, here) = subst (λ (l : List (LayerId × Op)). ComesTo ops l old mid) later comes most layers next h same in
    let (to, made, rest) = first_after most number there x (drop (i + 1) ops) next left in
    (number + 1, to, rest, one most there to made here)

pub comes_all : (ops : List (LayerId × Op)) (i : ℕ) (old new : List ℕ) → length ops ≤ i → ComesTo ops (drop i ops) old new → PressedByOps ops old new
comes_all ops i old new past comes = λ tree next h same.
    let (number, there, left, here) = subst (λ (l : List (LayerId × Op)). ComesTo ops l old new) (drop_all i ops past) comes tree.most tree.layers next.layers (all_after tree next ops h) same in
    subst (λ (layers : List Layer). HasSame new (pressed_in layers)) (let e : there ≡ next.layers = cc in e) here

-- a set without the number of a layer
pub removed_one : (layer : LayerId) (has : Bool) (ks ls ps : List ℕ) → has ≡ false → ks ≡ ps
    → ((k : ℕ) → list_any (is_at (nat_cmp k)) ls ≡ cond (is_at (nat_cmp layer.0) k) false (list_any (is_at (nat_cmp k)) ks))
    → (id : LayerId) → has_layer ls id ≡ (if layer.0 == id.0 then has else has_layer ps id)
removed_one layer has ks ls ps none same updates = λ id.
    sym (has_key id.0 ls) ∙ (updates id.0 ∙ (λ i. cond (unsigned_tied layer.0 id.0 i) (sym none i) (has_key id.0 (same i) i)))
