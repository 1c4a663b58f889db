-- Operations in places that are kept in a map: one is put, and the one that it replaces is taken out.
use Rattle.std.proofs.Common.{◌≡◌, ℕ, zero, suc, ◌+◌, ◌*◌, ◌<◌, ◌≤◌, Bool, true, false, cond, List, [], ◌∷◌, ◌++◌, length, get_or, set, take, length-take, subst, Some, None, refl, ap, ◌∙◌, sym, arith, true≢false}
use Rattle.std.specs.BTreeMap.{BTreeMap, get, is_at}
use Rattle.std.specs.List.{All, AllPairs, position_from}
use Rattle.std.specs.Ordering.{nat_cmp}
use Rattle.std.specs.Prelude.{◌==◌, eqb, nat_le, Option, is_some, not}
use Rattle.std.proofs.lemmas.Grind.{common_steps}
use Rattle.std.proofs.lemmas.List.{take_more}
use Rattle.std.proofs.lemmas.List.Elements.{All-cons, All-head, All-tail, filter-append}
use Rattle.std.proofs.lemmas.List.Kept.{AllPairs-cons}
use Rattle.std.proofs.lemmas.List.Quantifiers.{all_pairs_push}
use Rattle.sf_base.specs.declared.ids.LayerId.{LayerId}
use Rattle.sf_layer.specs.Kinds.{kind_of}
use Rattle.sf_layer.specs.declared.op.Op.{Op}
use Rattle.sf_layer.specs.declared.op.Op.TheVariants as op
use Rattle.sf_txn.specs.Places.{HasPlaces, IsNoted, emptied, is_kept, kept, key_of, taken}
use Rattle.sf_txn.specs.Transactions.{Stays, is_cumulative, replaces, with_op, without_first}
use Rattle.sf_txn.proofs.Apart.{by_numbers, cumulative_by_kind, none_left, pairs-head, pairs-tail}

abbrev O : Type 0
O = LayerId × Op

bounds : {X : Type 0} (test : X → Bool) (i k : ℕ) (xs : List X) → position_from test i xs ≡ Some k → (i ≤ k) × (k < i + length xs)
bounds test i k [] h = cc
bounds test i k (x ∷ xs) h = by_test (test x) refl (bounds test (i + 1) k xs)
  where
    by_test : (b : Bool) → test x ≡ b → (position_from test (i + 1) xs ≡ Some k → (i + 1 ≤ k) × (k < i + 1 + length xs)) → (i ≤ k) × (k < i + length (x ∷ xs))
    by_test true e rest = let same : Some i ≡ Some k = rw e at h in let at : i ≡ k = cc in (omega (arith, at), omega (arith, at))
    by_test false e rest =
        let later : position_from test (i + 1) xs ≡ Some k = rw e at h in
        let inside : (i + 1 ≤ k) × (k < i + 1 + length xs) = rest later in
        (omega (arith, inside.0), omega (arith, inside.1))

-- to empty the place that is found empties that of the first one that is replaced
set-emptied : (later : O) (i j k : ℕ) (xs : List O) → position_from (replaces later) i xs ≡ Some k → j + i ≡ k → set xs j taken ≡ emptied later xs
set-emptied later i j k [] h at = cc
set-emptied later i zero k (x ∷ xs) h at = by_test (replaces later x) refl
  where
    by_test : (b : Bool) → replaces later x ≡ b → taken ∷ xs ≡ emptied later (x ∷ xs)
    by_test true e = rw e refl
    by_test false e = let next : position_from (replaces later) (i + 1) xs ≡ Some k = rw e at h in absurd (omega (arith, at, (bounds (replaces later) (i + 1) k xs next).0))
set-emptied later i (suc j) k (x ∷ xs) h at = by_test (replaces later x) refl (set-emptied later (i + 1) j k xs)
  where
    by_test : (b : Bool) → replaces later x ≡ b → (position_from (replaces later) (i + 1) xs ≡ Some k → j + (i + 1) ≡ k → set xs j taken ≡ emptied later xs)
        → x ∷ set xs j taken ≡ emptied later (x ∷ xs)
    by_test true e rest = let same : Some i ≡ Some k = rw e at h in let here : i ≡ k = cc in absurd (omega (arith, at, here))
    by_test false e rest =
        let next : position_from (replaces later) (i + 1) xs ≡ Some k = rw e at h in
        rw e (ap (λ ys. x ∷ ys) (rest next (omega (arith, at))))

pub emptied-Some : (later : O) (k : ℕ) (xs : List O) → Some k ≡ position_from (replaces later) 0 xs → set xs k taken ≡ emptied later xs
emptied-Some later k xs h = set-emptied later 0 k k xs (sym h) (omega arith)

pub emptied-inside : (later : O) (k : ℕ) (xs : List O) → Some k ≡ position_from (replaces later) 0 xs → k < length xs
emptied-inside later k xs h = omega (arith, (bounds (replaces later) 0 k xs (sym h)).1)

emptied-None-from : (later : O) (i : ℕ) (xs : List O) → position_from (replaces later) i xs ≡ None → xs ≡ emptied later xs
emptied-None-from later i [] h = refl
emptied-None-from later i (x ∷ xs) h = by_test (replaces later x) refl (emptied-None-from later (i + 1) xs)
  where
    by_test : (b : Bool) → replaces later x ≡ b → (position_from (replaces later) (i + 1) xs ≡ None → xs ≡ emptied later xs) → x ∷ xs ≡ emptied later (x ∷ xs)
    by_test true e rest = let same : Some i ≡ None = rw e at h in cc
    by_test false e rest = let next : position_from (replaces later) (i + 1) xs ≡ None = rw e at h in rw e (ap (λ ys. x ∷ ys) (rest next))

pub emptied-None : (later : O) (xs : List O) → None ≡ position_from (replaces later) 0 xs → xs ≡ emptied later xs
emptied-None later xs h = emptied-None-from later 0 xs (sym h)

pub length-emptied : (later : O) (xs : List O) → length (emptied later xs) ≡ length xs
length-emptied later [] = refl
length-emptied later (x ∷ xs) = by_test (replaces later x) refl (length-emptied later xs)
  where
    by_test : (b : Bool) → replaces later x ≡ b → length (emptied later xs) ≡ length xs → length (emptied later (x ∷ xs)) ≡ length (x ∷ xs)
    by_test true e rest = rw e refl
    by_test false e rest = rw e (ap suc rest)

-- what replaces one is for its layer, and an empty place has none
pub numbers : (later earlier : O) → replaces later earlier ≡ true → (is_cumulative later.1 ≡ false) × ((earlier.0.0 == later.0.0) ≡ true) × ((kind_of earlier.1 == kind_of later.1) ≡ true)
numbers later earlier h = by_numbers (is_cumulative later.1) (earlier.0.0 == later.0.0) (kind_of earlier.1 == kind_of later.1) h

pub layer_of : (later earlier : O) → replaces later earlier ≡ true → later.0.0 ≡ earlier.0.0
layer_of later earlier h = grind (arith, common_steps, (numbers later earlier h).1)

kind_is : (later earlier : O) → replaces later earlier ≡ true → kind_of later.1 ≡ kind_of earlier.1
kind_is later earlier h = grind (arith, common_steps, (numbers later earlier h).2)

pub kept_one : (later earlier : O) → 0 < later.0.0 → replaces later earlier ≡ true → is_kept earlier ≡ true
kept_one later earlier some h = grind (arith, common_steps, layer_of later earlier h)

not_taken : (later : O) → replaces later taken ≡ true → is_cumulative later.1 ≡ true
not_taken later e = cumulative_by_kind later.1 ∙ ap (λ k. nat_le k 1) (kind_is later taken e)

pub taken-stays : (later : O) → replaces later taken ≡ false
taken-stays later = by_test (replaces later taken) refl
  where
    by_test : (b : Bool) → replaces later taken ≡ b → replaces later taken ≡ false
    by_test false e = e
    by_test true e = absurd (true≢false (sym (not_taken later e) ∙ (numbers later taken e).0))

-- what stays is all but the one that is replaced
pub kept-emptied : (later : O) (xs : List O) → 0 < later.0.0 → kept (emptied later xs) ≡ without_first (replaces later) (kept xs)
kept-emptied later [] some = refl
kept-emptied later (x ∷ xs) some = by_test (replaces later x) (is_kept x) refl refl (kept-emptied later xs some)
  where
    by_test : (b k : Bool) → replaces later x ≡ b → is_kept x ≡ k → kept (emptied later xs) ≡ without_first (replaces later) (kept xs)
        → kept (emptied later (x ∷ xs)) ≡ without_first (replaces later) (kept (x ∷ xs))
    by_test true true e f h = rw (e, f, e) refl
    by_test true false e f h = absurd (true≢false (sym (kept_one later x some e) ∙ f))
    by_test false true e f h = rw (e, f, e) (ap (λ ys. x ∷ ys) h)
    by_test false false e f h = rw (e, f) h

pub kept-put : (later : O) (xs : List O) → 0 < later.0.0 → kept (emptied later xs ++ later ∷ []) ≡ with_op (kept xs) later
kept-put later xs some =
    let one : is_kept later ≡ true = grind (arith, common_steps) in
    let last : kept (later ∷ []) ≡ later ∷ [] = rw one refl in
    filter-append is_kept (emptied later xs) (later ∷ []) ∙ (ap (λ ys. kept (emptied later xs) ++ ys) last ∙ ap (λ ys. ys ++ later ∷ []) (kept-emptied later xs some))

-- an emptied place keeps what all others and it keep
All-emptied : (P : O → Type 0) (later : O) (xs : List O) → P taken → All P xs → All P (emptied later xs)
All-emptied P later [] one h = h
All-emptied P later (x ∷ xs) one h = by_test (replaces later x) refl (All-emptied P later xs one (All-tail P x xs h))
  where
    by_test : (b : Bool) → replaces later x ≡ b → All P (emptied later xs) → All P (emptied later (x ∷ xs))
    by_test true e rest = rw e (All-cons P taken xs one (All-tail P x xs h))
    by_test false e rest = rw e (All-cons P x (emptied later xs) (All-head P x xs h) rest)

taken_replaces_none : (x : O) → Stays x taken
taken_replaces_none x = refl

apart-emptied : (later : O) (xs : List O) → AllPairs Stays xs → AllPairs Stays (emptied later xs)
apart-emptied later [] h = h
apart-emptied later (x ∷ xs) h = by_test (replaces later x) refl (apart-emptied later xs (pairs-tail Stays x xs h))
  where
    by_test : (b : Bool) → replaces later x ≡ b → AllPairs Stays (emptied later xs) → AllPairs Stays (emptied later (x ∷ xs))
    by_test true e rest = rw e (AllPairs-cons Stays taken xs (λ k d inside. taken-stays (get_or xs k d)) (pairs-tail Stays x xs h))
    by_test false e rest = rw e (AllPairs-cons Stays x (emptied later xs) (All-emptied (Stays x) later xs (taken_replaces_none x) (pairs-head Stays x xs h)) rest)

pub none-emptied : (later : O) (xs : List O) → AllPairs Stays xs → All (λ earlier. Stays earlier later) (emptied later xs)
none-emptied later [] h = λ k d inside. absurd (omega (arith, inside))
none-emptied later (x ∷ xs) h = by_test (replaces later x) refl (none-emptied later xs (pairs-tail Stays x xs h)) (none_left later (x ∷ xs) h)
  where
    by_test : (b : Bool) → replaces later x ≡ b → All (λ earlier. Stays earlier later) (emptied later xs) → All (λ earlier. Stays earlier later) (without_first (replaces later) (x ∷ xs)) → All (λ earlier. Stays earlier later) (emptied later (x ∷ xs))
    by_test true e rest left = rw e (All-cons (λ earlier. Stays earlier later) taken xs (taken-stays later) (rw e at left))
    by_test false e rest left = rw e (All-cons (λ earlier. Stays earlier later) x (emptied later xs) e rest)

pub apart-put : (later : O) (xs : List O) → AllPairs Stays xs → AllPairs Stays (emptied later xs ++ later ∷ [])
apart-put later xs h = all_pairs_push Stays (emptied later xs) later (apart-emptied later xs h) (none-emptied later xs h)

-- places of others stay
position-other : (other later : O) (i : ℕ) (xs : List O) → ((x : O) → replaces later x ≡ true → replaces other x ≡ false)
    → position_from (replaces other) i (emptied later xs) ≡ position_from (replaces other) i xs
position-other other later i [] apart = refl
position-other other later i (x ∷ xs) apart = by_test (replaces later x) refl (position-other other later (i + 1) xs apart)
  where
    by_test : (b : Bool) → replaces later x ≡ b → position_from (replaces other) (i + 1) (emptied later xs) ≡ position_from (replaces other) (i + 1) xs
        → position_from (replaces other) i (emptied later (x ∷ xs)) ≡ position_from (replaces other) i (x ∷ xs)
    by_test true e rest = rw (e, apart x e, taken-stays other) refl
    by_test false e rest = rw e (ap (λ o. cond (replaces other x) (Some i) o) rest)

position-last : (other later : O) (i : ℕ) (xs : List O) → All (λ earlier. Stays earlier other) xs → replaces other later ≡ true → position_from (replaces other) i (xs ++ later ∷ []) ≡ Some (i + length xs)
position-last other later i [] h e = rw e (ap Some (let at : i ≡ i + 0 = omega arith in at))
position-last other later i (x ∷ xs) h e =
    let first : replaces other x ≡ false = All-head (λ earlier. Stays earlier other) x xs h in
    rw first (position-last other later (i + 1) xs (All-tail (λ earlier. Stays earlier other) x xs h) e ∙ ap Some (let at : i + 1 + length xs ≡ i + suc (length xs) = omega arith in at))

position-before : (other later : O) (i : ℕ) (xs : List O) → replaces other later ≡ false → position_from (replaces other) i (xs ++ later ∷ []) ≡ position_from (replaces other) i xs
position-before other later i [] e = rw e refl
position-before other later i (x ∷ xs) e = ap (λ o. cond (replaces other x) (Some i) o) (position-before other later (i + 1) xs e)

-- the numbers of layer and kind are told by the key
kind_few : (o : Op) → kind_of o < 16
kind_few (op.Create _ _) = omega arith
kind_few op.Destroy = omega arith
kind_few (op.Reparent _) = omega arith
kind_few (op.Z _) = omega arith
kind_few (op.Relative _ _) = omega arith
kind_few (op.Position _ _) = omega arith
kind_few (op.Crop _) = omega arith
kind_few (op.Alpha _) = omega arith
kind_few (op.Hidden _) = omega arith
kind_few (op.Opaque _) = omega arith
kind_few (op.Colour _) = omega arith
kind_few (op.Backpressure _) = omega arith
kind_few (op.Show _) = omega arith
kind_few (op.Orient _) = omega arith

by_key : (a k b l : ℕ) → k < 16 → l < 16 → a * 16 + k ≡ b * 16 + l → (a ≡ b) × (k ≡ l)
by_key a k b l few less same = (omega (arith, few, less, same), omega (arith, few, less, same))

pub is_at_number : (a b : ℕ) → is_at (nat_cmp a) b ≡ eqb a b
is_at_number a b = grind (arith, common_steps)

-- an operation of this key replaces another where the other of the key does
pub same_key : (later other x : O) → is_cumulative later.1 ≡ false → key_of later ≡ key_of other → replaces other x ≡ replaces later x
same_key later other x plain same =
    let both = by_key later.0.0 (kind_of later.1) other.0.0 (kind_of other.1) (kind_few later.1) (kind_few other.1) same in
    let cumulative : is_cumulative other.1 ≡ false = cumulative_by_kind other.1 ∙ (ap (λ k. nat_le k 1) (sym both.1) ∙ (sym (cumulative_by_kind later.1) ∙ plain)) in
    rw (cumulative, plain, both.0, both.1) refl

same_of : (later x : O) → replaces later x ≡ true → key_of later ≡ key_of x
same_of later x h = rw (layer_of later x h, kind_is later x h) refl

pub self_replaces : (later : O) → is_cumulative later.1 ≡ false → replaces later later ≡ true
self_replaces later plain =
    let layer : (later.0.0 == later.0.0) ≡ true = grind (arith, common_steps) in
    let kind : (kind_of later.1 == kind_of later.1) ≡ true = grind (arith, common_steps) in
    rw (plain, layer, kind) refl

other_key : (later other x : O) → eqb (key_of later) (key_of other) ≡ false → replaces later x ≡ true → replaces other x ≡ false
other_key later other x differ h = by_test (replaces other x) refl
  where
    by_test : (b : Bool) → replaces other x ≡ b → replaces other x ≡ false
    by_test false e = e
    by_test true e =
        let same : key_of later ≡ key_of other = same_of later x h ∙ sym (same_of other x e) in
        let differs : eqb (key_of later) (key_of other) ≡ false = differ in
        absurd (grind (arith, common_steps, same, differs))

pub not_other : (later other : O) → eqb (key_of later) (key_of other) ≡ false → replaces other later ≡ false
not_other later other differ = by_test (replaces other later) refl
  where
    by_test : (b : Bool) → replaces other later ≡ b → replaces other later ≡ false
    by_test false e = e
    by_test true e =
        let same : key_of other ≡ key_of later = same_of other later e in
        absurd (grind (arith, common_steps, same, differ))

-- after a put, a map has the places with that of the operation, unless that is create or destroy
abbrev pub After : O → ℕ → BTreeMap ℕ ℕ → BTreeMap ℕ ℕ → Type 0
After later at m n = (q : ℕ) → get nat_cmp n q ≡ cond (is_at (nat_cmp (key_of later)) q) (Some at) (get nat_cmp m q)

pub places-put : (later : O) (xs : List O) (m n : BTreeMap ℕ ℕ) → is_cumulative later.1 ≡ false → All (λ earlier. Stays earlier later) (emptied later xs) → HasPlaces xs m
    → After later (length xs) m n → HasPlaces (emptied later xs ++ later ∷ []) n
places-put later xs m n plain none found after other some = by_test (eqb (key_of later) (key_of other)) refl
  where
    by_test : (b : Bool) → eqb (key_of later) (key_of other) ≡ b → get nat_cmp n (key_of other) ≡ position_from (replaces other) 0 (emptied later xs ++ later ∷ [])
    by_test true e =
        let at : is_at (nat_cmp (key_of later)) (key_of other) ≡ true = is_at_number (key_of later) (key_of other) ∙ e in
        let same : key_of later ≡ key_of other = grind (arith, common_steps, e) in
        let others : All (λ earlier. Stays earlier other) (emptied later xs) = λ k d inside. same_key later other (get_or (emptied later xs) k d) plain same ∙ none k d inside in
        let last : replaces other later ≡ true = same_key later other later plain same ∙ self_replaces later plain in
        let place : length xs ≡ 0 + length (emptied later xs) = omega (arith, length-emptied later xs) in
        after (key_of other) ∙ (rw at (ap Some place) ∙ sym (position-last other later 0 (emptied later xs) others last))
    by_test false e =
        let at : is_at (nat_cmp (key_of later)) (key_of other) ≡ false = is_at_number (key_of later) (key_of other) ∙ e in
        let there : get nat_cmp n (key_of other) ≡ get nat_cmp m (key_of other) = after (key_of other) ∙ rw at refl in
        there ∙ (found other some ∙ (sym (position-other other later 0 xs (λ x. other_key later other x e)) ∙ sym (position-before other later 0 (emptied later xs) (not_other later other e))))

never : (later x : O) → is_cumulative later.1 ≡ true → replaces later x ≡ false
never later x h = rw h refl

pub not_it : (later other : O) → is_cumulative later.1 ≡ true → replaces other later ≡ false
not_it later other h = by_test (replaces other later) refl
  where
    by_test : (b : Bool) → replaces other later ≡ b → replaces other later ≡ false
    by_test false e = e
    by_test true e =
        let cumulative : is_cumulative other.1 ≡ true = cumulative_by_kind other.1 ∙ (ap (λ k. nat_le k 1) (kind_is other later e) ∙ (sym (cumulative_by_kind later.1) ∙ h)) in
        absurd (true≢false (sym cumulative ∙ (numbers other later e).0))

pub places-kept : (later : O) (xs : List O) (m : BTreeMap ℕ ℕ) → is_cumulative later.1 ≡ true → HasPlaces xs m → HasPlaces (emptied later xs ++ later ∷ []) m
places-kept later xs m cumulative found other some =
    found other some ∙ (sym (position-other other later 0 xs (λ x h. absurd (true≢false (sym h ∙ never later x cumulative))))
    ∙ sym (position-before other later 0 (emptied later xs) (not_it later other cumulative)))

pub places-noted : (later : O) (xs : List O) (m n : BTreeMap ℕ ℕ) → AllPairs Stays xs → HasPlaces xs m → IsNoted later (length xs) m n → HasPlaces (emptied later xs ++ later ∷ []) n
places-noted later xs m n apart found noted = by_kind (is_cumulative later.1) refl
  where
    by_kind : (b : Bool) → is_cumulative later.1 ≡ b → HasPlaces (emptied later xs ++ later ∷ []) n
    by_kind true c = λ other some. noted (key_of other) ∙ rw c (places-kept later xs m c found other some)
    by_kind false c = places-put later xs m n c (none-emptied later xs apart) found (λ q. noted q ∙ rw c refl)

-- where nothing is replaced, no place is emptied
pub emptied-none : (later : O) (xs : List O) → All (λ earlier. Stays earlier later) xs → emptied later xs ≡ xs
emptied-none later [] h = refl
emptied-none later (x ∷ xs) h =
    let first : replaces later x ≡ false = All-head (λ earlier. Stays earlier later) x xs h in
    rw first (ap (λ ys. x ∷ ys) (emptied-none later xs (All-tail (λ earlier. Stays earlier later) x xs h)))

-- an operation put where they are few
kept-without : (later : O) (xs : List O) → 0 < later.0.0 → kept (without_first (replaces later) xs) ≡ without_first (replaces later) (kept xs)
kept-without later [] some = refl
kept-without later (x ∷ xs) some = by_test (replaces later x) (is_kept x) refl refl (kept-without later xs some)
  where
    by_test : (b k : Bool) → replaces later x ≡ b → is_kept x ≡ k → kept (without_first (replaces later) xs) ≡ without_first (replaces later) (kept xs)
        → kept (without_first (replaces later) (x ∷ xs)) ≡ without_first (replaces later) (kept (x ∷ xs))
    by_test true true e f h = rw (e, f, e) refl
    by_test true false e f h = absurd (true≢false (sym (kept_one later x some e) ∙ f))
    by_test false true e f h = rw (e, f, e) (ap (λ ys. x ∷ ys) h)
    by_test false false e f h = rw (e, f) h

pub kept-with_op : (later : O) (xs : List O) → 0 < later.0.0 → kept (with_op xs later) ≡ with_op (kept xs) later
kept-with_op later xs some =
    let one : is_kept later ≡ true = grind (arith, common_steps) in
    let last : kept (later ∷ []) ≡ later ∷ [] = rw one refl in
    filter-append is_kept (without_first (replaces later) xs) (later ∷ []) ∙ (ap (λ ys. kept (without_first (replaces later) xs) ++ ys) last ∙ ap (λ ys. ys ++ later ∷ []) (kept-without later xs some))

-- places of one more
before-all : (ops : List O) (i : ℕ) (d : O) → i < length ops → AllPairs Stays ops → All (λ earlier. Stays earlier (get_or ops i d)) (take i ops)
before-all ops i d inside apart = λ k e less.
    let low : k < i = omega (arith, less, length-take i ops) in
    let there : get_or (take i ops) k e ≡ get_or ops k e = grind (arith, common_steps) in
    let default : get_or ops i d ≡ get_or ops i e = grind (arith, common_steps) in
    rw (there, default) (apart k i e low inside)

pub places-more : (ops : List O) (i : ℕ) (d : O) (m n : BTreeMap ℕ ℕ) → i < length ops → AllPairs Stays ops → HasPlaces (take i ops) m → is_cumulative (get_or ops i d).1 ≡ false
    → After (get_or ops i d) i m n → HasPlaces (take (i + 1) ops) n
places-more ops i d m n inside apart found plain after =
    let op : O = get_or ops i d in
    let none : All (λ earlier. Stays earlier op) (take i ops) = before-all ops i d inside apart in
    let same : emptied op (take i ops) ≡ take i ops = emptied-none op (take i ops) none in
    let at : i ≡ length (take i ops) = omega (arith, length-take i ops, inside) in
    let put : After op (length (take i ops)) m n = subst (λ k. After op k m n) at after in
    let placed : HasPlaces (emptied op (take i ops) ++ op ∷ []) n = places-put op (take i ops) m n plain (subst (All (λ earlier. Stays earlier op)) (sym same) none) found put in
    subst (λ xs. HasPlaces xs n) (ap (λ xs. xs ++ op ∷ []) same ∙ sym (take_more ops i d inside)) placed

pub places-same : (ops : List O) (i : ℕ) (d : O) (m : BTreeMap ℕ ℕ) → i < length ops → AllPairs Stays ops → HasPlaces (take i ops) m → is_cumulative (get_or ops i d).1 ≡ true → HasPlaces (take (i + 1) ops) m
places-same ops i d m inside apart found cumulative =
    let op : O = get_or ops i d in
    let none : All (λ earlier. Stays earlier op) (take i ops) = before-all ops i d inside apart in
    let same : emptied op (take i ops) ≡ take i ops = emptied-none op (take i ops) none in
    let placed : HasPlaces (emptied op (take i ops) ++ op ∷ []) m = places-kept op (take i ops) m cumulative found in
    subst (λ xs. HasPlaces xs m) (ap (λ xs. xs ++ op ∷ []) same ∙ sym (take_more ops i d inside)) placed

-- without the empty places
pub kept-kept : (xs : List O) → kept (kept xs) ≡ kept xs
kept-kept [] = refl
kept-kept (x ∷ xs) = by_test (is_kept x) refl (kept-kept xs)
  where
    by_test : (b : Bool) → is_kept x ≡ b → kept (kept xs) ≡ kept xs → kept (kept (x ∷ xs)) ≡ kept (x ∷ xs)
    by_test true e h = rw (e, e) (ap (λ ys. x ∷ ys) h)
    by_test false e h = rw e h

All-kept : (P : O → Type 0) (xs : List O) → All P xs → All P (kept xs)
All-kept P [] h = h
All-kept P (x ∷ xs) h = by_test (is_kept x) refl (All-kept P xs (All-tail P x xs h))
  where
    by_test : (b : Bool) → is_kept x ≡ b → All P (kept xs) → All P (kept (x ∷ xs))
    by_test true e rest = rw e (All-cons P x (kept xs) (All-head P x xs h) rest)
    by_test false e rest = rw e rest

pub apart-kept : (xs : List O) → AllPairs Stays xs → AllPairs Stays (kept xs)
apart-kept [] h = h
apart-kept (x ∷ xs) h = by_test (is_kept x) refl (apart-kept xs (pairs-tail Stays x xs h))
  where
    by_test : (b : Bool) → is_kept x ≡ b → AllPairs Stays (kept xs) → AllPairs Stays (kept (x ∷ xs))
    by_test true e rest = rw e (AllPairs-cons Stays x (kept xs) (All-kept (Stays x) xs (pairs-head Stays x xs h)) rest)
    by_test false e rest = rw e rest

pub length-kept : (xs : List O) → length (kept xs) ≤ length xs
length-kept [] = omega arith
length-kept (x ∷ xs) = by_test (is_kept x) refl (length-kept xs)
  where
    by_test : (b : Bool) → is_kept x ≡ b → length (kept xs) ≤ length xs → length (kept (x ∷ xs)) ≤ length (x ∷ xs)
    by_test true e h = rw e (omega (arith, h))
    by_test false e h = rw e (omega (arith, h))

pub no_index : {X : Type 0} (o : Option X) (b : Bool) → is_some o ≡ not b → b ≡ true → o ≡ None
no_index None b e h = refl
no_index (Some x) b e h = let off : not b ≡ false = rw h refl in absurd (true≢false (e ∙ off))
