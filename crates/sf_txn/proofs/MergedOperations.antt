-- Operations set after others: those of the earlier ones that none of the later ones replaces stand before the later ones.
use Rattle.std.proofs.Common.{◌≡◌, ℕ, ◌+◌, ◌<◌, ◌≤◌, Bool, true, false, cond, List, [], ◌∷◌, ◌++◌, length, filter, Some, None, refl, ap, ◌∙◌, sym, subst, arith, true≢false}
use Rattle.std.specs.Prelude.{Option, is_some}
use Rattle.std.specs.List.{All, AllPairs, position_from}
use Rattle.std.proofs.lemmas.List.{append-nil}
use Rattle.std.proofs.lemmas.List.Elements.{All-cons, All-head, All-tail, filter-append}
use Rattle.std.proofs.lemmas.List.Kept.{AllPairs-cons}
use Rattle.sf_base.specs.declared.ids.LayerId.{LayerId}
use Rattle.sf_layer.specs.declared.op.Op.{Op}
use Rattle.sf_txn.specs.Places.{is_kept, kept}
use Rattle.sf_txn.specs.Transactions.{Stays, replaces, with_op, with_ops, without_first}
use Rattle.sf_txn.proofs.Apart.{between, none_left, pairs-head, pairs-tail, stay-with_op}
use Rattle.sf_txn.proofs.Places.{apart-kept, kept_one, numbers, self_replaces}

abbrev O : Type 0
O = LayerId × Op

-- none of these replaces the operation
abbrev pub survives : List O → O → Bool
survives [] x = true
survives (b ∷ bs) x = cond (replaces b x) false (survives bs x)

survives-all : (x : O) (bs : List O) → All (Stays x) bs → survives bs x ≡ true
survives-all x [] h = refl
survives-all x (b ∷ bs) h =
    let first : replaces b x ≡ false = All-head (Stays x) b bs h in
    rw first (survives-all x bs (All-tail (Stays x) b bs h))

all-survive : (xs : List O) → filter (survives []) xs ≡ xs
all-survive [] = refl
all-survive (x ∷ xs) = ap (λ ys. x ∷ ys) (all-survive xs)

append-assoc : (xs ys zs : List O) → (xs ++ ys) ++ zs ≡ xs ++ (ys ++ zs)
append-assoc [] ys zs = refl
append-assoc (x ∷ xs) ys zs = ap (λ ws. x ∷ ws) (append-assoc xs ys zs)

survive-same : (b : O) (bs xs : List O) → All (λ earlier. Stays earlier b) xs → filter (survives bs) xs ≡ filter (survives (b ∷ bs)) xs
survive-same b bs [] h = refl
survive-same b bs (x ∷ xs) h =
    let first : replaces b x ≡ false = All-head (λ earlier. Stays earlier b) x xs h in
    rw first (ap (λ ys. cond (survives bs x) (x ∷ ys) ys) (survive-same b bs xs (All-tail (λ earlier. Stays earlier b) x xs h)))

survive-first : (b : O) (bs xs : List O) → AllPairs Stays xs → filter (survives bs) (without_first (replaces b) xs) ≡ filter (survives (b ∷ bs)) xs
survive-first b bs [] h = refl
survive-first b bs (x ∷ xs) h = by_test (replaces b x) refl (survive-first b bs xs (pairs-tail Stays x xs h)) (none_left b (x ∷ xs) h)
  where
    by_test : (t : Bool) → replaces b x ≡ t → filter (survives bs) (without_first (replaces b) xs) ≡ filter (survives (b ∷ bs)) xs → All (λ earlier. Stays earlier b) (without_first (replaces b) (x ∷ xs))
        → filter (survives bs) (without_first (replaces b) (x ∷ xs)) ≡ filter (survives (b ∷ bs)) (x ∷ xs)
    by_test true e rest left = rw e (survive-same b bs xs (rw e at left))
    by_test false e rest left = rw e (ap (λ ys. cond (survives bs x) (x ∷ ys) ys) rest)

pub with_ops-is : (xs more : List O) → AllPairs Stays xs → AllPairs Stays more → with_ops xs more ≡ filter (survives more) xs ++ more
with_ops-is xs [] h m = sym (append-nil (filter (survives []) xs) ∙ all-survive xs)
with_ops-is xs (b ∷ bs) h m =
    let last : filter (survives bs) (b ∷ []) ≡ b ∷ [] = rw (survives-all b bs (pairs-head Stays b bs m)) refl in
    let before : filter (survives bs) (with_op xs b) ≡ filter (survives (b ∷ bs)) xs ++ b ∷ [] =
    filter-append (survives bs) (without_first (replaces b) xs) (b ∷ []) ∙ (ap (λ ys. filter (survives bs) (without_first (replaces b) xs) ++ ys) last ∙ ap (λ ys. ys ++ b ∷ []) (survive-first b bs xs h)) in
    with_ops-is (with_op xs b) bs (stay-with_op xs b h) (pairs-tail Stays b bs m)
    ∙ (ap (λ ys. ys ++ bs) before ∙ append-assoc (filter (survives (b ∷ bs)) xs) (b ∷ []) bs)

-- set after none, operations stay as they are
pub with_ops-none : (more : List O) → AllPairs Stays more → with_ops [] more ≡ more
with_ops-none more m = with_ops-is [] more (λ i j d before inside. absurd (omega (arith, inside))) m

All-last : (P : O → Type 0) (xs : List O) (s : O) → All P (xs ++ s ∷ []) → P s
All-last P [] s h = All-head P s [] h
All-last P (x ∷ xs) s h = All-last P xs s (All-tail P x (xs ++ s ∷ []) h)

All-init : (P : O → Type 0) (xs : List O) (s : O) → All P (xs ++ s ∷ []) → All P xs
All-init P [] s h = λ k d inside. absurd (omega (arith, inside))
All-init P (x ∷ xs) s h = All-cons P x xs (All-head P x (xs ++ s ∷ []) h) (All-init P xs s (All-tail P x (xs ++ s ∷ []) h))

pairs-last : (xs : List O) (s : O) → AllPairs Stays (xs ++ s ∷ []) → All (λ earlier. Stays earlier s) xs
pairs-last [] s h = λ k d inside. absurd (omega (arith, inside))
pairs-last (x ∷ xs) s h =
    All-cons (λ earlier. Stays earlier s) x xs (All-last (Stays x) xs s (pairs-head Stays x (xs ++ s ∷ []) h)) (pairs-last xs s (pairs-tail Stays x (xs ++ s ∷ []) h))

pub pairs-init : (xs : List O) (s : O) → AllPairs Stays (xs ++ s ∷ []) → AllPairs Stays xs
pairs-init [] s h = λ i j d before inside. absurd (omega (arith, inside))
pairs-init (x ∷ xs) s h =
    AllPairs-cons Stays x xs (All-init (Stays x) xs s (pairs-head Stays x (xs ++ s ∷ []) h)) (pairs-init xs s (pairs-tail Stays x (xs ++ s ∷ []) h))

without-none : (s : O) (xs : List O) → All (λ earlier. Stays earlier s) xs → without_first (replaces s) xs ≡ xs
without-none s [] h = refl
without-none s (x ∷ xs) h =
    let first : replaces s x ≡ false = All-head (λ earlier. Stays earlier s) x xs h in
    rw first (ap (λ ys. x ∷ ys) (without-none s xs (All-tail (λ earlier. Stays earlier s) x xs h)))

-- the last of the earlier operations goes before the later ones
pub with_ops-first : (earlier : List O) (s : O) (more : List O) → AllPairs Stays (earlier ++ s ∷ []) → with_ops earlier (s ∷ more) ≡ with_ops (earlier ++ s ∷ []) more
with_ops-first earlier s more h = ap (λ ys. with_ops (ys ++ s ∷ []) more) (without-none s earlier (pairs-last earlier s h))

-- or one of the later ones replaces it
pub with_ops-replaced : (earlier : List O) (s : O) (more : List O) → AllPairs Stays (earlier ++ s ∷ []) → AllPairs Stays more → survives more s ≡ false → with_ops earlier more ≡ with_ops (earlier ++ s ∷ []) more
with_ops-replaced earlier s more h m gone =
    let none : filter (survives more) (s ∷ []) ≡ [] = rw gone refl in
    let same : filter (survives more) (earlier ++ s ∷ []) ≡ filter (survives more) earlier =
    filter-append (survives more) earlier (s ∷ []) ∙ (ap (λ ys. filter (survives more) earlier ++ ys) none ∙ append-nil (filter (survives more) earlier)) in
    with_ops-is earlier more (pairs-init earlier s h) m ∙ (ap (λ ys. ys ++ more) (sym same) ∙ sym (with_ops-is (earlier ++ s ∷ []) more h m))

-- one that replaces another is replaced by it as well
back : (s x : O) → replaces s x ≡ true → replaces x s ≡ true
back s x e = between s x s (self_replaces s (numbers s x e).0) e

-- where it is found that an operation replaces one of these, that one replaces it
pub replaced-at : (s : O) (i k : ℕ) (xs : List O) → 0 < s.0.0 → position_from (replaces s) i xs ≡ Some k → survives (kept xs) s ≡ false
replaced-at s i k [] some h = cc
replaced-at s i k (x ∷ xs) some h = by_test (replaces s x) refl (is_kept x) refl (replaced-at s (i + 1) k xs some)
  where
    either : (b : Bool) → cond b false false ≡ false
    either true = refl
    either false = refl

    by_test : (b : Bool) → replaces s x ≡ b → (t : Bool) → is_kept x ≡ t → (position_from (replaces s) (i + 1) xs ≡ Some k → survives (kept xs) s ≡ false) → survives (kept (x ∷ xs)) s ≡ false
    by_test true e t f rest = rw (kept_one s x some e, back s x e) refl
    by_test false e true f rest = let next : position_from (replaces s) (i + 1) xs ≡ Some k = rw e at h in rw (f, rest next) (either (replaces x s))
    by_test false e false f rest = let next : position_from (replaces s) (i + 1) xs ≡ Some k = rw e at h in rw f (rest next)

not_back : (s x : O) → replaces s x ≡ false → replaces x s ≡ false
not_back s x e = by_test (replaces x s) refl
  where
    by_test : (b : Bool) → replaces x s ≡ b → replaces x s ≡ false
    by_test false t = t
    by_test true t = absurd (true≢false (sym (back x s t) ∙ e))

-- where none is found, none replaces it
pub none-replaces : (s : O) (i : ℕ) (xs : List O) → position_from (replaces s) i xs ≡ None → All (Stays s) xs
none-replaces s i [] h = λ k d inside. absurd (omega (arith, inside))
none-replaces s i (x ∷ xs) h = by_test (replaces s x) refl (none-replaces s (i + 1) xs)
  where
    by_test : (b : Bool) → replaces s x ≡ b → (position_from (replaces s) (i + 1) xs ≡ None → All (Stays s) xs) → All (Stays s) (x ∷ xs)
    by_test true e rest = let same : Some i ≡ None = rw e at h in cc
    by_test false e rest = let next : position_from (replaces s) (i + 1) xs ≡ None = rw e at h in All-cons (Stays s) x xs (not_back s x e) (rest next)

pub found-replaces : (s : O) (xs : List O) (place : Option ℕ) → 0 < s.0.0 → place ≡ position_from (replaces s) 0 xs → is_some place ≡ true → survives (kept xs) s ≡ false
found-replaces s xs (Some k) some at h = replaced-at s 0 k xs some (sym at)
found-replaces s xs None some at h = absurd (true≢false (sym h))

pub found-none : (s : O) (xs : List O) (place : Option ℕ) → place ≡ position_from (replaces s) 0 xs → is_some place ≡ false → All (Stays s) xs
found-none s xs (Some k) at h = absurd (true≢false h)
found-none s xs None at h = none-replaces s 0 xs (sym at)

-- the last operation, where it was not taken out, and where it was
pub kept-last : (xs : List O) (s : O) → is_kept s ≡ true → kept (xs ++ s ∷ []) ≡ kept xs ++ s ∷ []
kept-last xs s e = let last : kept (s ∷ []) ≡ s ∷ [] = rw e refl in filter-append is_kept xs (s ∷ []) ∙ ap (λ ys. kept xs ++ ys) last

pub kept-gone : (xs : List O) (s : O) → is_kept s ≡ false → kept (xs ++ s ∷ []) ≡ kept xs
kept-gone xs s e =
    let last : kept (s ∷ []) ≡ [] = rw e refl in
    filter-append is_kept xs (s ∷ []) ∙ (ap (λ ys. kept xs ++ ys) last ∙ append-nil (kept xs))

apart-last : (xs : List O) (s : O) → is_kept s ≡ true → AllPairs Stays (xs ++ s ∷ []) → AllPairs Stays (kept xs ++ s ∷ [])
apart-last xs s e h = subst (AllPairs Stays) (kept-last xs s e) (apart-kept (xs ++ s ∷ []) h)

pub merged-first : (earlier : List O) (s : O) (more : List O) → is_kept s ≡ true → AllPairs Stays (earlier ++ s ∷ []) → with_ops (kept earlier) (s ∷ more) ≡ with_ops (kept (earlier ++ s ∷ [])) more
merged-first earlier s more e h = with_ops-first (kept earlier) s more (apart-last earlier s e h) ∙ ap (λ ys. with_ops ys more) (sym (kept-last earlier s e))

pub merged-replaced : (earlier : List O) (s : O) (more : List O) → is_kept s ≡ true → AllPairs Stays (earlier ++ s ∷ []) → AllPairs Stays more → survives more s ≡ false → with_ops (kept earlier) more ≡ with_ops (kept (earlier ++ s ∷ [])) more
merged-replaced earlier s more e h m gone = with_ops-replaced (kept earlier) s more (apart-last earlier s e h) m gone ∙ ap (λ ys. with_ops ys more) (sym (kept-last earlier s e))

pub merged-gone : (earlier : List O) (s : O) (more : List O) → is_kept s ≡ false → with_ops (kept earlier) more ≡ with_ops (kept (earlier ++ s ∷ [])) more
merged-gone earlier s more e = ap (λ ys. with_ops ys more) (sym (kept-gone earlier s e))

length-last : (xs : List O) (s : O) → length (xs ++ s ∷ []) ≡ length xs + 1
length-last [] s = refl
length-last (x ∷ xs) s = omega (arith, length-last xs s)

pub room-kept : (xs : List O) (s : O) (f : ℕ) → is_kept s ≡ true → length (kept (xs ++ s ∷ [])) ≤ f → length (kept xs) + 1 ≤ f
room-kept xs s f e h = let same : length (kept (xs ++ s ∷ [])) ≡ length (kept xs) + 1 = ap (λ ys. length ys) (kept-last xs s e) ∙ length-last (kept xs) s in omega (arith, same, h)

pub room-any : (xs : List O) (s : O) (f : ℕ) → length (kept (xs ++ s ∷ [])) ≤ f → length (kept xs) ≤ f
room-any xs s f h = by_test (is_kept s) refl
  where
    by_test : (b : Bool) → is_kept s ≡ b → length (kept xs) ≤ f
    by_test true e = omega (arith, room-kept xs s f e h)
    by_test false e = let same : length (kept (xs ++ s ∷ [])) ≡ length (kept xs) = ap (λ ys. length ys) (kept-gone xs s e) in omega (arith, same, h)

pub none-of : (xs : List O) → length xs ≡ 0 → xs ≡ []
none-of [] h = refl
none-of (x ∷ xs) h = absurd (omega (arith, h))
