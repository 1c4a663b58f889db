-- A tree with copies behind its layers is a tree.
use Rattle.std.proofs.Common.{◌≡◌, ℕ, zero, suc, ◌+◌, ◌<◌, ◌≤◌, Bool, true, false, not, ◌||◌, ◌&&◌, cond, List, [], ◌∷◌, ◌++◌, length, get_or, map, Option, Some, None, is_some, refl, ap, ◌∙◌, sym, subst, arith, pos, append_assoc, append-nil, length-append}
use Rattle.std.specs.List.{All, AllPairs, find, list_any}
use Rattle.std.specs.Option.{option_map, unwrap_or}
use Rattle.std.specs.Prelude.{◌==◌, if◌then◌else◌, IfSome}
use Rattle.std.proofs.lemmas.Bool.{eqb-true, eq-eqb}
use Rattle.std.proofs.lemmas.List.{length-map, map-append}
use Rattle.std.proofs.lemmas.List.Elements.{All-append, All-filter, All-head, All-map, All-tail, All-weaker}
use Rattle.std.proofs.lemmas.List.Folds.{list_any-append}
use Rattle.sf_base.specs.declared.ids.LayerId.{LayerId}
use Rattle.sf_output_shown.specs.sf_layer.declared.layer.Layer.{Layer}
use Rattle.sf_output_shown.specs.sf_layer.declared.parent.Parent.{Parent}
use Rattle.sf_output_shown.specs.sf_layer.declared.parent.Parent.TheVariants as parent
use Rattle.sf_output_shown.specs.sf_tree.Kept.{HasNoCycle, IsDistinct, IsLayerInRange, IsOfKind, IsRanked, IsTied, IsTree}
use Rattle.sf_output_shown.specs.sf_tree.inner.Known.{IsBounded}
use Rattle.sf_output_shown.specs.sf_tree.Layers.{has_layer, has_parent, index_of, is_numbered, layer_of}
use Rattle.sf_output_shown.proofs.sf_tree_lemmas.TreeKept.{IsDistinct-filter, IsTied-stays, found_itself, pairs_from_distinct}
use Rattle.sf_output_shown.proofs.sf_tree_lemmas.Lookups.{index_of-absent}
use Rattle.sf_output_shown.proofs.sf_tree_lemmas.Places.{IsDistinct-push}
use Rattle.sf_output_shown.proofs.sf_tree_lemmas.Ranks.{bounded_rank}
use Rattle.sf_output_shown.specs.ByLayer.{is_for}
use Rattle.sf_output_shown.specs.Copies.{copied, copy_of, free_from, holds_copies, is_free, is_taken_by, least_free, mirrors, named, number_of, parent_by, parent_of, relative_of}
use Rattle.sf_output_shown.specs.Cuts.{is_under, under}
use Rattle.sf_output_shown.proofs.KeepingLemmas.{under-few}
use Rattle.sf_mirror.specs.inner.Extended.{Extends}
use Rattle.sf_mirror.proofs.CopyLemmas.{in_range, of_kind}

abbrev copy_number : LayerId × LayerId → LayerId
copy_number name = name.1

abbrev IsPositive : LayerId × LayerId → Type 0
IsPositive name = 0 < name.1.0

not-true : (b : Bool) → not b ≡ true → b ≡ false
not-true true h = sym h
not-true false h = refl

or_first : (a b : Bool) → (a || b) ≡ false → a ≡ false
or_first true b h = h
or_first false b h = refl

or_last : (a b : Bool) → (a || (b || false)) ≡ false → b ≡ false
or_last true b h = cc
or_last false true h = h
or_last false false h = refl

or_second : (a b : Bool) → b ≡ true → (a || b) ≡ true
or_second true b h = refl
or_second false b h = h

-- a number that is found is free
free_is : (taken : List LayerId) (steps from : ℕ) → 0 < free_from taken steps from → is_free taken (free_from taken steps from) ≡ true
free_is taken zero from h = absurd (omega arith)
free_is taken (suc steps) from h = by_test (is_free taken from) refl h (free_is taken steps (from + 1))
  where
    by_test : (b : Bool) → is_free taken from ≡ b → 0 < (if b then from else free_from taken steps (from + 1)) → (0 < free_from taken steps (from + 1) → is_free taken (free_from taken steps (from + 1)) ≡ true) → is_free taken (if b then from else free_from taken steps (from + 1)) ≡ true
    by_test true e h ih = e
    by_test false e h ih = ih h

least_new : (taken : List LayerId) → 0 < least_free taken → list_any (is_taken_by (least_free taken)) taken ≡ false
unfolding least_free
least_new taken h = not-true _ (free_is taken (length taken + 1) 1 h)

-- numbers of copies were not taken before
not_taken : (taken : List LayerId) (layers : List Layer) → All IsPositive (named taken layers) → (n : ℕ) → list_any (is_taken_by n) (map copy_number (named taken layers)) ≡ true → list_any (is_taken_by n) taken ≡ false
unfolding named
not_taken taken [] all n h = cc
not_taken taken (layer ∷ layers) all n h = by_test (least_free taken == n) refl h (not_taken (taken ++ copy ∷ []) layers (All-tail IsPositive (layer.number, copy) (named (taken ++ copy ∷ []) layers) all) n)
  where
    copy : LayerId
    copy = record { 0 = least_free taken }

    by_test : (b : Bool) → (least_free taken == n) ≡ b → (b || list_any (is_taken_by n) (map copy_number (named (taken ++ copy ∷ []) layers))) ≡ true → (list_any (is_taken_by n) (map copy_number (named (taken ++ copy ∷ []) layers)) ≡ true → list_any (is_taken_by n) (taken ++ copy ∷ []) ≡ false) → list_any (is_taken_by n) taken ≡ false
    by_test true e h ih = subst (λ (k : ℕ). list_any (is_taken_by k) taken ≡ false) (eqb-true (least_free taken) n e) (least_new taken (All-head IsPositive (layer.number, copy) (named (taken ++ copy ∷ []) layers) all))
    by_test false e h ih = or_first _ _ (sym (list_any-append (is_taken_by n) taken (copy ∷ [])) ∙ ih h)

later_apart : (taken : List LayerId) (copy : LayerId) (layers : List Layer) → All IsPositive (named (taken ++ copy ∷ []) layers) → (n : ℕ) → list_any (is_taken_by n) (map copy_number (named (taken ++ copy ∷ []) layers)) ≡ true → (copy.0 == n) ≡ false
later_apart taken copy layers all n h = or_last (list_any (is_taken_by n) taken) (copy.0 == n) (sym (list_any-append (is_taken_by n) taken (copy ∷ [])) ∙ not_taken (taken ++ copy ∷ []) layers all n h)

-- a layer is there where its number is
has_layer-any : (xs : List Layer) (id : LayerId) → has_layer xs id ≡ list_any (is_taken_by id.0) (map number_of xs)
has_layer-any [] id = refl
has_layer-any (x ∷ xs) id = by_test (is_numbered id x) (has_layer-any xs id)
  where
    by_test : (b : Bool) → has_layer xs id ≡ list_any (is_taken_by id.0) (map number_of xs) → is_some (cond b (Some x) (find (is_numbered id) xs)) ≡ (b || list_any (is_taken_by id.0) (map number_of xs))
    by_test true ih = refl
    by_test false ih = ih

-- layers of new numbers behind others
apart_copies : (xs ls ys : List Layer) → IsDistinct xs → All IsPositive (named (map number_of xs) ls) → map number_of ys ≡ map copy_number (named (map number_of xs) ls) → IsDistinct (xs ++ ys)
unfolding named
apart_copies xs [] [] distinct all e = subst IsDistinct (sym (append-nil xs)) distinct
apart_copies xs [] (y ∷ ys) distinct all e = cc
apart_copies xs (l ∷ ls) [] distinct all e = cc
apart_copies xs (l ∷ ls) (y ∷ ys) distinct all e =
    subst IsDistinct (append_assoc xs (y ∷ []) ys) (apart_copies (xs ++ y ∷ []) ls ys (IsDistinct-push xs y distinct new)
    (subst (λ (ids : List LayerId). All IsPositive (named ids ls)) (sym taken) (All-tail IsPositive (l.number, copy) (named (map number_of xs ++ copy ∷ []) ls) all))
    (rest ∙ ap (λ (ids : List LayerId). map copy_number (named ids ls)) (sym taken)))
  where
    copy : LayerId
    copy = record { 0 = least_free (map number_of xs) }

    number : y.number ≡ copy
    number = cc

    rest : map number_of ys ≡ map copy_number (named (map number_of xs ++ copy ∷ []) ls)
    rest = cc

    taken : map number_of (xs ++ y ∷ []) ≡ map number_of xs ++ copy ∷ []
    taken = map-append number_of xs (y ∷ []) ∙ ap (λ (c : LayerId). map number_of xs ++ c ∷ []) number

    new : index_of xs y.number ≡ None
    new = index_of-absent xs y.number (subst (λ (c : LayerId). has_layer xs c ≡ false) (sym number) (has_layer-any xs copy ∙ least_new (map number_of xs) (All-head IsPositive (l.number, copy) (named (map number_of xs ++ copy ∷ []) ls) all)))

-- each layer of its own number has the number that was given to it
numbers-are : (all : List (LayerId × LayerId)) (taken : List LayerId) (ls : List Layer) → AllPairs (λ a b. (a.number.0 == b.number.0) ≡ false) ls
    → ((k : ℕ) (d : Layer) → k < length ls → copy_of all (get_or ls k d).number ≡ copy_of (named taken ls) (get_or ls k d).number)
    → map (λ (l : Layer). unwrap_or (copy_of all l.number) (record { 0 = 0 })) ls ≡ map copy_number (named taken ls)
unfolding named
numbers-are all taken [] pairs agree = refl
numbers-are all taken (l ∷ ls) pairs agree =
    let others = numbers-are all (taken ++ copy ∷ []) ls (λ i j d low inside. pairs (suc i) (suc j) d (omega arith) (omega arith)) (λ k d inside. agree (suc k) d (omega arith) ∙ (rw (pairs 0 (suc k) d (omega arith) (omega arith)) refl)) in
    λ i. first i ∷ others i
  where
    copy : LayerId
    copy = record { 0 = least_free taken }

    none : LayerId
    none = record { 0 = 0 }

    first : unwrap_or (copy_of all l.number) (record { 0 = 0 }) ≡ copy
    first = ap (λ (o : Option LayerId). unwrap_or o none) (agree 0 l (omega arith)) ∙ (rw (eq-eqb l.number.0 l.number.0 refl) refl)

number-copied : (mirror id : LayerId) (names : List (LayerId × LayerId)) (layer : Layer) → (copied mirror id names layer).number ≡ unwrap_or (copy_of names layer.number) (record { 0 = 0 })
number-copied mirror id names layer = by_test (is_numbered id layer)
  where
    number : LayerId
    number = unwrap_or (copy_of names layer.number) (record { 0 = 0 })

    by_test : (b : Bool) → (if b then record layer { number = number; parent = parent.Layer mirror; position = (pos 0, pos 0); z = pos 0; relative = None } else record layer { number = number; parent = parent_of names layer.parent; relative = relative_of names layer.relative }).number ≡ number
    by_test true = refl
    by_test false = refl

numbers-copied : (mirror id : LayerId) (names : List (LayerId × LayerId)) (ls : List Layer) → map number_of (map (copied mirror id names) ls) ≡ map (λ (l : Layer). unwrap_or (copy_of names l.number) (record { 0 = 0 })) ls
numbers-copied mirror id names [] = refl
numbers-copied mirror id names (l ∷ ls) = λ i. number-copied mirror id names l i ∷ numbers-copied mirror id names ls i

-- the number of a copy is one of those that were given
given : (names : List (LayerId × LayerId)) (s c : LayerId) → copy_of names s ≡ Some c → list_any (is_taken_by c.0) (map copy_number names) ≡ true
given [] s c e = cc
given (name ∷ names) s c e = by_test (is_for s name) e (given names s c)
  where
    by_test : (b : Bool) → option_map (λ (n : LayerId × LayerId). n.1) (cond b (Some name) (find (is_for s) names)) ≡ Some c → (copy_of names s ≡ Some c → list_any (is_taken_by c.0) (map copy_number names) ≡ true) → list_any (is_taken_by c.0) (map copy_number (name ∷ names)) ≡ true
    by_test true e ih =
        let same : name.1 ≡ c = cc in
        rw (eq-eqb name.1.0 c.0 (ap (λ (n : LayerId). n.0) same)) refl
    by_test false e ih = or_second (name.1.0 == c.0) _ (ih e)

-- the number of the layer that the copy of a number is of
abbrev original : List (LayerId × LayerId) → ℕ → ℕ
original [] n = 0
original (name ∷ names) n = if name.1.0 == n then name.0.0 else original names n

came_from : (taken : List LayerId) (ls : List Layer) → All IsPositive (named taken ls) → (s c : LayerId) → copy_of (named taken ls) s ≡ Some c → original (named taken ls) c.0 ≡ s.0
unfolding named
came_from taken [] all s c e = cc
came_from taken (l ∷ ls) all s c e = by_test (l.number.0 == s.0) refl e (came_from (taken ++ copy ∷ []) ls later s c)
  where
    copy : LayerId
    copy = record { 0 = least_free taken }

    later : All IsPositive (named (taken ++ copy ∷ []) ls)
    later = All-tail IsPositive (l.number, copy) (named (taken ++ copy ∷ []) ls) all

    by_test : (b : Bool) → (l.number.0 == s.0) ≡ b → option_map (λ (n : LayerId × LayerId). n.1) (cond b (Some (l.number, copy)) (find (is_for s) (named (taken ++ copy ∷ []) ls))) ≡ Some c
        → (copy_of (named (taken ++ copy ∷ []) ls) s ≡ Some c → original (named (taken ++ copy ∷ []) ls) c.0 ≡ s.0)
        → (if least_free taken == c.0 then l.number.0 else original (named (taken ++ copy ∷ []) ls) c.0) ≡ s.0
    by_test true t e ih =
        let same : copy ≡ c = cc in
        rw (eq-eqb (least_free taken) c.0 (ap (λ (n : LayerId). n.0) same)) (eqb-true l.number.0 s.0 t)
    by_test false t e ih = rw (later_apart taken copy ls later c.0 (given (named (taken ++ copy ∷ []) ls) s c e)) (ih e)

has_copy : (taken : List LayerId) (ls : List Layer) (k : ℕ) (d : Layer) → k < length ls → (c : LayerId) × (copy_of (named taken ls) (get_or ls k d).number ≡ Some c)
unfolding named
has_copy taken [] k d inside = absurd (omega arith)
has_copy taken (l ∷ ls) zero d inside = (record { 0 = least_free taken }, rw (eq-eqb l.number.0 l.number.0 refl) refl)
has_copy taken (l ∷ ls) (suc k) d inside = by_test (l.number.0 == (get_or ls k d).number.0) (has_copy (taken ++ copy ∷ []) ls k d (omega arith))
  where
    copy : LayerId
    copy = record { 0 = least_free taken }

    by_test : (b : Bool) → (c : LayerId) × (copy_of (named (taken ++ copy ∷ []) ls) (get_or ls k d).number ≡ Some c)
        → (c : LayerId) × (option_map (λ (n : LayerId × LayerId). n.1) (cond b (Some (l.number, copy)) (find (is_for (get_or ls k d).number) (named (taken ++ copy ∷ []) ls))) ≡ Some c)
    by_test true ih = (copy, refl)
    by_test false ih = ih

pub all_named : (taken : List LayerId) (ls : List Layer) → All (λ (l : Layer). is_some (copy_of (named taken ls) l.number) ≡ true) ls
all_named taken ls k d inside = ap is_some (has_copy taken ls k d inside).1

module _ (most : ℕ) (tree so_far : List Layer) (mirror id : LayerId) (t : IsTree most tree) (x : Extends tree so_far)
    (all : All IsPositive (named (map number_of so_far) (under tree id))) (there : has_layer tree mirror ≡ true) where
  abbrev taken : List LayerId
  taken = map number_of so_far

  abbrev names : List (LayerId × LayerId)
  names = named taken (under tree id)

  abbrev made : List Layer
  made = map (copied mirror id names) (under tree id)

  numbers : map number_of made ≡ map copy_number names
  numbers = numbers-copied mirror id names (under tree id) ∙ numbers-are names taken (under tree id) (pairs_from_distinct (under tree id) (IsDistinct-filter (is_under tree id) tree t.distinct)) (λ k d inside. refl)

  has_layer-new : (other : LayerId) → has_layer (so_far ++ made) other ≡ (has_layer so_far other || list_any (is_taken_by other.0) (map copy_number names))
  has_layer-new other = has_layer-any (so_far ++ made) other ∙ (ap (list_any (is_taken_by other.0)) (map-append number_of so_far made)
      ∙ (list_any-append (is_taken_by other.0) taken (map number_of made) ∙ (λ i. sym (has_layer-any so_far other) i || list_any (is_taken_by other.0) (numbers i))))

  has_layer-old : (other : LayerId) → has_layer so_far other ≡ true → has_layer (so_far ++ made) other ≡ true
  has_layer-old other h = has_layer-new other ∙ (rw h refl)

  has_layer-copy : (q c : LayerId) → copy_of names q ≡ Some c → has_layer (so_far ++ made) c ≡ true
  has_layer-copy q c e = has_layer-new c ∙ or_second (has_layer so_far c) _ (given names q c e)

  parent-copy : (p : Parent) → has_parent (so_far ++ made) (parent_of names p) ≡ true
  parent-copy parent.Root = refl
  parent-copy parent.Nothing = refl
  parent-copy (parent.Layer q) = by_copy (copy_of names q) refl
    where
      by_copy : (o : Option LayerId) → copy_of names q ≡ o → has_parent (so_far ++ made) (parent_by o) ≡ true
      by_copy None e = refl
      by_copy (Some c) e = has_layer-copy q c e

  relative-copy : (r : Option LayerId) → IfSome (relative_of names r) (λ other. has_layer (so_far ++ made) other ≡ true)
  relative-copy None = tt
  relative-copy (Some q) = by_copy (copy_of names q) refl
    where
      by_copy : (o : Option LayerId) → copy_of names q ≡ o → IfSome o (λ other. has_layer (so_far ++ made) other ≡ true)
      by_copy None e = tt
      by_copy (Some c) e = has_layer-copy q c e

  IsTied-copy : (layer : Layer) → IsTied (so_far ++ made) (copied mirror id names layer)
  IsTied-copy layer = by_test (is_numbered id layer)
    where
      number : LayerId
      number = unwrap_or (copy_of names layer.number) (record { 0 = 0 })

      by_test : (b : Bool) → IsTied (so_far ++ made) (if b then record layer { number = number; parent = parent.Layer mirror; position = (pos 0, pos 0); z = pos 0; relative = None } else record layer { number = number; parent = parent_of names layer.parent; relative = relative_of names layer.relative })
      by_test true = record { parent = has_layer-old mirror (x.stays mirror there); relative = tt }
      by_test false = record { parent = parent-copy layer.parent; relative = relative-copy layer.relative }

  low : (rank : ℕ → ℕ) × IsBounded so_far rank
  low = bounded_rank so_far x.kept.tied x.kept.no_cycle

  -- layers keep their ranks, and copies are above all of them, in the order of what they are copies of
  up : ℕ → ℕ
  up n = if list_any (is_taken_by n) taken then low.0 n else length so_far + (1 + t.no_cycle.rank (original names n))

  up-old : (other : LayerId) → has_layer so_far other ≡ true → up other.0 ≡ low.0 other.0
  unfolding up
  up-old other h = rw (sym (has_layer-any so_far other) ∙ h) refl

  up-copy : (q c : LayerId) → copy_of names q ≡ Some c → up c.0 ≡ length so_far + (1 + t.no_cycle.rank q.0)
  unfolding up
  up-copy q c e = rw (not_taken taken (under tree id) all c.0 (given names q c e), came_from taken (under tree id) all q c e) refl

  ranked-old : All (IsRanked up) so_far
  ranked-old k d h = record {
    parent = λ o e. lower o (rw e at (x.kept.tied k d h).parent) ((low.1.ranked k d h).parent o e);
    relative = λ o e. lower o (rw e at (x.kept.tied k d h).relative) ((low.1.ranked k d h).relative o e);
  }
    where
      itself : has_layer so_far (get_or so_far k d).number ≡ true
      itself = rw (found_itself so_far x.kept.distinct k d h) refl

      lower : (o : LayerId) → has_layer so_far o ≡ true → low.0 o.0 < low.0 (get_or so_far k d).number.0 → up o.0 < up (get_or so_far k d).number.0
      lower o there less = rw (up-old o there, up-old (get_or so_far k d).number itself) less

  module _ (layer : Layer) (copy : LayerId) (e : copy_of names layer.number ≡ Some copy) (r : IsRanked t.no_cycle.rank layer) where
    abbrev number : LayerId
    number = unwrap_or (copy_of names layer.number) (record { 0 = 0 })

    abbrev none : LayerId
    none = record { 0 = 0 }

    high : up (unwrap_or (copy_of names layer.number) (record { 0 = 0 })).0 ≡ length so_far + (1 + t.no_cycle.rank layer.number.0)
    high = ap (λ (o : Option LayerId). up (unwrap_or o none).0) e ∙ up-copy layer.number copy e

    above_copy : (q c o : LayerId) → copy_of names q ≡ Some c → c ≡ o → t.no_cycle.rank q.0 < t.no_cycle.rank layer.number.0 → up o.0 < up (unwrap_or (copy_of names layer.number) (record { 0 = 0 })).0
    above_copy q c o f same less = rw (sym same, up-copy q c f, high) (omega (arith, less))

    above_mirror : (o : LayerId) → mirror ≡ o → up o.0 < up (unwrap_or (copy_of names layer.number) (record { 0 = 0 })).0
    above_mirror o same = rw (sym same, up-old mirror (x.stays mirror there), high) (omega (arith, low.1.most mirror.0))

    above_parent : (p : Parent) → layer.parent ≡ p → (o : LayerId) → parent_of names p ≡ parent.Layer o → up o.0 < up (unwrap_or (copy_of names layer.number) (record { 0 = 0 })).0
    above_parent parent.Root q o f = cc
    above_parent parent.Nothing q o f = cc
    above_parent (parent.Layer p) q o f = by_copy (copy_of names p) refl f
      where
        by_copy : (c : Option LayerId) → copy_of names p ≡ c → parent_by c ≡ parent.Layer o → up o.0 < up (unwrap_or (copy_of names layer.number) (record { 0 = 0 })).0
        by_copy None g f = cc
        by_copy (Some c) g f = let same : c ≡ o = cc in above_copy p c o g same (r.parent p q)

    above_relative : (p : Option LayerId) → layer.relative ≡ p → (o : LayerId) → relative_of names p ≡ Some o → up o.0 < up (unwrap_or (copy_of names layer.number) (record { 0 = 0 })).0
    above_relative None q o f = cc
    above_relative (Some p) q o f = above_copy p o o f refl (r.relative p q)

    IsRanked-copy : IsRanked up (copied mirror id names layer)
    IsRanked-copy = by_test (is_numbered id layer)
      where
        by_test : (b : Bool) → IsRanked up (if b then record layer { number = number; parent = parent.Layer mirror; position = (pos 0, pos 0); z = pos 0; relative = None } else record layer { number = number; parent = parent_of names layer.parent; relative = relative_of names layer.relative })
        by_test true = record { parent = λ o f. let same : mirror ≡ o = cc in above_mirror o same; relative = λ o f. cc }
        by_test false = record { parent = above_parent layer.parent refl; relative = above_relative layer.relative refl }

  below : All (IsRanked t.no_cycle.rank) (under tree id)
  below = All-filter (is_under tree id) (IsRanked t.no_cycle.rank) tree t.no_cycle.ranked

  no_cycle : HasNoCycle (so_far ++ made)
  no_cycle = record {
    rank = up;
    ranked = All-append (IsRanked up) so_far made ranked-old (All-map (IsRanked up) (copied mirror id names) (under tree id) (λ k d inside.
        let own = has_copy taken (under tree id) k d inside in IsRanked-copy (get_or (under tree id) k d) own.0 own.1 (below k d inside)));
  }

  -- layers and copies have alike what all layers of the tree have and copies keep
  each : (P : Layer → Type 0) → ((layer : Layer) → P layer → P (copied mirror id names layer)) → All P tree → All P so_far → All P (so_far ++ made)
  each P keeps all before = All-append P so_far made before (All-map P (copied mirror id names) (under tree id) (All-weaker P (λ (l : Layer). P (copied mirror id names l)) keeps (under tree id) (All-filter (is_under tree id) P tree all)))

  pub Extends-copies : length so_far + length tree ≤ 9216 → All (λ (copy : Layer). 0 < copy.number.0) made → Extends tree (so_far ++ made)
  Extends-copies few numbered = record {
    kept = record {
      limit = omega arith;
      few = omega (arith, length-append so_far made, length-map (under tree id) (copied mirror id names), under-few tree id, few);
      numbered = All-append (λ (l : Layer). 0 < l.number.0) so_far made x.kept.numbered numbered;
      distinct = apart_copies so_far (under tree id) made x.kept.distinct all numbers;
      tied = All-append (IsTied (so_far ++ made)) so_far made (λ k d h. IsTied-stays so_far (so_far ++ made) (get_or so_far k d) has_layer-old (x.kept.tied k d h)) (All-map (IsTied (so_far ++ made)) (copied mirror id names) (under tree id) (λ k d inside. IsTied-copy (get_or (under tree id) k d)));
      no_cycle = no_cycle;
      in_range = each IsLayerInRange (in_range mirror id names) t.in_range x.kept.in_range;
      of_kind = each IsOfKind (of_kind mirror id names) t.of_kind x.kept.of_kind;
    };
    stays = λ other h. has_layer-old other (x.stays other h);
  }

-- a mirror that shows copies is in the tree
pub mirror_there : (tree : List Layer) (pair : ℕ × ℕ) → mirrors tree pair ≡ true → has_layer tree (record { 0 = pair.0 }) ≡ true
mirror_there tree pair h = by_layer (layer_of tree (record { 0 = pair.0 })) h
  where
    by_layer : (o : Option Layer) → (holds_copies o && has_layer tree (record { 0 = pair.1 })) ≡ true → is_some o ≡ true
    by_layer None h = h
    by_layer (Some layer) h = refl
