-- Lists of operations with empty places in front.
use Rattle.std.proofs.Common.{◌≡◌, ℕ, zero, suc, ◌+◌, ◌-◌, ◌<◌, ◌≤◌, Bool, true, false, List, [], ◌∷◌, ◌++◌, length, get_or, set, replicate, Some, None, refl, ap, ◌∙◌, sym, subst, arith}
use Rattle.std.specs.BTreeMap.{BTreeMap, get, is_at}
use Rattle.std.specs.List.{All, AllPairs, position_from}
use Rattle.std.specs.Ordering.{nat_cmp}
use Rattle.std.specs.Prelude.{eqb, Box, Option, IfSome, IsSomeAnd}
use Rattle.std.proofs.lemmas.Grind.{common_steps}
use Rattle.std.proofs.lemmas.List.Elements.{All-cons, All-head, All-tail}
use Rattle.std.proofs.lemmas.List.Kept.{AllPairs-cons}
use Rattle.sf_base.specs.declared.ids.LayerId.{LayerId}
use Rattle.sf_layer.specs.declared.op.Op.{Op}
use Rattle.sf_txn.specs.declared.index.Index.{Index}
use Rattle.sf_txn.specs.Places.{HasFront, HasPlaces, IsIndexed, IsListed, IsNoted, emptied, is_kept, kept, key_of, taken}
use Rattle.sf_txn.specs.Transactions.{Stays, is_cumulative, replaces}
use Rattle.sf_txn.proofs.Apart.{pairs-head, pairs-tail}
use Rattle.sf_txn.proofs.Places.{apart-put, is_at_number, layer_of, not_it, not_other, places-noted, same_key, self_replaces, taken-stays}

abbrev O : Type 0
O = LayerId × Op

pub front-inside : (n : ℕ) (xs : List O) → HasFront n xs → n ≤ length xs
front-inside zero xs h = omega arith
front-inside (suc n) [] h = absurd (omega (arith, h))
front-inside (suc n) (x ∷ xs) h = omega (arith, front-inside n xs h.1)

pub front-emptied : (later : O) (n : ℕ) (xs : List O) → HasFront n xs → HasFront n (emptied later xs)
front-emptied later zero xs h = tt
front-emptied later (suc n) [] h = h
front-emptied later (suc n) (x ∷ xs) h = by_test (replaces later x) refl (front-emptied later n xs h.1)
  where
    by_test : (b : Bool) → replaces later x ≡ b → HasFront n (emptied later xs) → HasFront (suc n) (emptied later (x ∷ xs))
    by_test true e rest = rw e (refl, h.1)
    by_test false e rest = rw e (h.0, rest)

pub front-append : (n : ℕ) (xs ys : List O) → HasFront n xs → HasFront n (xs ++ ys)
front-append zero xs ys h = tt
front-append (suc n) [] ys h = absurd (omega (arith, h))
front-append (suc n) (x ∷ xs) ys h = (h.0, front-append n xs ys h.1)

pub front-replicate : (n : ℕ) (xs : List O) → HasFront n (replicate n taken ++ xs)
front-replicate zero xs = tt
front-replicate (suc n) xs = (refl, front-replicate n xs)

pub kept-replicate : (n : ℕ) (xs : List O) → kept (replicate n taken ++ xs) ≡ kept xs
kept-replicate zero xs = refl
kept-replicate (suc n) xs = kept-replicate n xs

pub apart-replicate : (n : ℕ) (xs : List O) → AllPairs Stays xs → AllPairs Stays (replicate n taken ++ xs)
apart-replicate zero xs h = h
apart-replicate (suc n) xs h = AllPairs-cons Stays taken (replicate n taken ++ xs) (λ k d inside. taken-stays (get_or (replicate n taken ++ xs) k d)) (apart-replicate n xs h)

-- an operation in the last of the places in front
pub front-set : (s : O) (n : ℕ) (xs : List O) → HasFront (suc n) xs → HasFront n (set xs n s)
front-set s zero xs h = tt
front-set s (suc n) [] h = absurd (omega (arith, h))
front-set s (suc n) (x ∷ xs) h = (h.0, front-set s n xs h.1)

empty_goes : (x : O) → x.0.0 ≡ 0 → is_kept x ≡ false
empty_goes x e = grind (arith, common_steps)

some_stays : (s : O) → 0 < s.0.0 → is_kept s ≡ true
some_stays s some = grind (arith, common_steps)

pub kept-set : (s : O) (n : ℕ) (xs : List O) → 0 < s.0.0 → HasFront (suc n) xs → kept (set xs n s) ≡ s ∷ kept xs
kept-set s n [] some h = absurd (omega (arith, h))
kept-set s zero (x ∷ xs) some h = rw (some_stays s some, empty_goes x h.0) refl
kept-set s (suc n) (x ∷ xs) some h = rw (empty_goes x h.0) (kept-set s n xs some h.1)

-- what is for another layer replaces it not
apart_layers : (later earlier : O) → earlier.0.0 ≡ 0 → 0 < later.0.0 → replaces later earlier ≡ false
apart_layers later earlier none some = by_test (replaces later earlier) refl
  where
    by_test : (b : Bool) → replaces later earlier ≡ b → replaces later earlier ≡ false
    by_test false e = e
    by_test true e = absurd (omega (arith, layer_of later earlier e, none, some))

All-set : (P : O → Type 0) (s : O) (n : ℕ) (xs : List O) → P s → All P xs → All P (set xs n s)
All-set P s n [] one h = h
All-set P s zero (x ∷ xs) one h = All-cons P s xs one (All-tail P x xs h)
All-set P s (suc n) (x ∷ xs) one h = All-cons P x (set xs n s) (All-head P x xs h) (All-set P s n xs one (All-tail P x xs h))

pub apart-set : (s : O) (n : ℕ) (xs : List O) → 0 < s.0.0 → HasFront (suc n) xs → All (Stays s) xs → AllPairs Stays xs → AllPairs Stays (set xs n s)
apart-set s n [] some h none apart = absurd (omega (arith, h))
apart-set s zero (x ∷ xs) some h none apart = AllPairs-cons Stays s xs (All-tail (Stays s) x xs none) (pairs-tail Stays x xs apart)
apart-set s (suc n) (x ∷ xs) some h none apart =
    AllPairs-cons Stays x (set xs n s) (All-set (Stays x) s n xs (apart_layers s x h.0 some) (pairs-head Stays x xs apart))
    (apart-set s n xs some h.1 (All-tail (Stays s) x xs none) (pairs-tail Stays x xs apart))

-- it is found there, and all others where they were
position-set-it : (other s : O) (i n : ℕ) (xs : List O) → 0 < other.0.0 → HasFront (suc n) xs → replaces other s ≡ true → position_from (replaces other) i (set xs n s) ≡ Some (i + n)
position-set-it other s i n [] some h e = absurd (omega (arith, h))
position-set-it other s i zero (x ∷ xs) some h e = rw e (ap Some (let at : i ≡ i + 0 = omega arith in at))
position-set-it other s i (suc n) (x ∷ xs) some h e =
    rw (apart_layers other x h.0 some) (position-set-it other s (i + 1) n xs some h.1 e ∙ ap Some (let at : i + 1 + n ≡ i + suc n = omega arith in at))

position-set-other : (other s : O) (i n : ℕ) (xs : List O) → 0 < other.0.0 → HasFront (suc n) xs → replaces other s ≡ false → position_from (replaces other) i (set xs n s) ≡ position_from (replaces other) i xs
position-set-other other s i n [] some h e = absurd (omega (arith, h))
position-set-other other s i zero (x ∷ xs) some h e = rw (e, apart_layers other x h.0 some) refl
position-set-other other s i (suc n) (x ∷ xs) some h e = rw (apart_layers other x h.0 some) (position-set-other other s (i + 1) n xs some h.1 e)

pub places-set : (s : O) (n : ℕ) (xs : List O) (old new : BTreeMap ℕ ℕ) → 0 < s.0.0 → HasFront (suc n) xs → HasPlaces xs old → IsNoted s n old new → HasPlaces (set xs n s) new
places-set s n xs old new layer h found noted other some = by_kind (is_cumulative s.1) refl
  where
    by_key : (b : Bool) → eqb (key_of s) (key_of other) ≡ b → is_cumulative s.1 ≡ false → get nat_cmp new (key_of other) ≡ position_from (replaces other) 0 (set xs n s)
    by_key true e plain =
        let at : is_at (nat_cmp (key_of s)) (key_of other) ≡ true = is_at_number (key_of s) (key_of other) ∙ e in
        let same : key_of s ≡ key_of other = grind (arith, common_steps, e) in
        let it : replaces other s ≡ true = same_key s other s plain same ∙ self_replaces s plain in
        let place : n ≡ 0 + n = omega arith in
        noted (key_of other) ∙ (rw (plain, at) (ap Some place) ∙ sym (position-set-it other s 0 n xs some h it))
    by_key false e plain =
        let at : is_at (nat_cmp (key_of s)) (key_of other) ≡ false = is_at_number (key_of s) (key_of other) ∙ e in
        noted (key_of other) ∙ (rw (plain, at) (found other some) ∙ sym (position-set-other other s 0 n xs some h (not_other s other e)))

    by_kind : (b : Bool) → is_cumulative s.1 ≡ b → get nat_cmp new (key_of other) ≡ position_from (replaces other) 0 (set xs n s)
    by_kind true c = noted (key_of other) ∙ (rw c (found other some) ∙ sym (position-set-other other s 0 n xs some h (not_it s other c)))
    by_kind false c = by_key (eqb (key_of s) (key_of other)) refl c

-- an index after an operation was put last
noted-last : (s : O) (place : ℕ) (xs : List O) (old new : Option (BTreeMap ℕ ℕ)) → place ≡ length xs → AllPairs Stays xs → IfSome old (HasPlaces xs) → IfSome new (λ n. IsSomeAnd old (λ o. IsNoted s place o n)) → IfSome new (HasPlaces (emptied s xs ++ s ∷ []))
noted-last s place xs old None at apart found noted = tt
noted-last s place xs None (Some n) at apart found noted = absurd noted
noted-last s place xs (Some o) (Some n) at apart found noted = places-noted s xs o n apart found (subst (λ k. IsNoted s k o n) at noted)

pub last-indexed : (s : O) (place gaps : ℕ) (xs : List O) (index : Index) (places : Option (BTreeMap ℕ ℕ)) → place ≡ length xs → IsIndexed xs index → IfSome places (λ n. IsSomeAnd index.places (λ o. IsNoted s place o n)) → IsIndexed (emptied s xs ++ s ∷ []) (record { places = places; gaps = gaps; front = index.front })
last-indexed s place gaps xs index places at h noted = record {
  apart = apart-put s xs h.apart;
  found = noted-last s place xs index.places places at h.apart h.found noted;
  front = front-append index.front (emptied s xs) (s ∷ []) (front-emptied s index.front xs h.front);
}

-- an index after an operation was put first
noted-first : (s : O) (n : ℕ) (xs : List O) (old new : Option (BTreeMap ℕ ℕ)) → 0 < s.0.0 → HasFront (suc n) xs → IfSome old (HasPlaces xs) → IfSome new (λ m. IsSomeAnd old (λ o. IsNoted s n o m)) → IfSome new (HasPlaces (set xs n s))
noted-first s n xs old None some front found noted = tt
noted-first s n xs None (Some m) some front found noted = absurd noted
noted-first s n xs (Some o) (Some m) some front found noted = places-set s n xs o m some front found noted

front_before : (f : ℕ) (xs : List O) → 0 < f → HasFront f xs → HasFront (suc (f - 1)) xs
front_before f xs room h = let next : f ≡ suc (f - 1) = omega (arith, room) in subst (λ k. HasFront k xs) next h

pub first-indexed : (s : O) (xs : List O) (index : Index) (places : Option (BTreeMap ℕ ℕ)) → 0 < s.0.0 → 0 < index.front → IsIndexed xs index → All (Stays s) xs → IfSome places (λ n. IsSomeAnd index.places (λ o. IsNoted s (index.front - 1) o n)) → IsIndexed (set xs (index.front - 1) s) (record { places = places; gaps = index.gaps; front = index.front - 1 })
first-indexed s xs index places some room h none noted =
    let front = front_before index.front xs room h.front in
    record {
      apart = apart-set s (index.front - 1) xs some front none h.apart;
      found = noted-first s (index.front - 1) xs index.places places some front h.found noted;
      front = front-set s (index.front - 1) xs front;
    }

pub kept-first : (s : O) (f : ℕ) (xs : List O) → 0 < s.0.0 → 0 < f → HasFront f xs → kept (set xs (f - 1) s) ≡ s ∷ kept xs
kept-first s f xs some room h = kept-set s (f - 1) xs some (front_before f xs room h)

-- an index made anew
pub listed-behind : {Z : Type 0} (front : ℕ) (ops items : List O) (places : BTreeMap ℕ ℕ) (held : Box Index Z) → items ≡ replicate front taken ++ ops → AllPairs Stays ops → HasPlaces items places
    → held.value ≡ record { places = Some places; gaps = 0; front = front } → IsListed items (Some held)
listed-behind front ops items places held is apart found value =
    let all : AllPairs Stays items = subst (AllPairs Stays) (sym is) (apart-replicate front ops apart) in
    let index : Index = record { places = Some places; gaps = 0; front = front } in
    let anew : IsIndexed items index = record { apart = all; found = found; front = subst (HasFront front) (sym is) (front-replicate front ops) } in
    record { apart = all; indexed = subst (IsIndexed items) (sym value) anew; whole = λ e. some_none held items e }
  where
    some_none : {X : Type 0} (x : X) (xs : List O) → Some x ≡ None → kept xs ≡ xs
    some_none x xs e = cc
