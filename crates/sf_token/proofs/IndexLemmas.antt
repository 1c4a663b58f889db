-- The index by token, with one number more, with one less, and what it tells of heads.
use Rattle.std.proofs.Common.{◌≡◌, ◌∙◌, sym, ap, subst, ℕ, ◌<◌, ◌==◌, Bool, true, false, cond, ◌||◌, List, [], ◌∷◌, ◌++◌, drop, map, Option, Some, None, is_some, refl, arith, append-nil, Result, Ok, Err, IfOk, OnErr, OnOk, is_err}
use borrow.Author.Tests.{eqb-true, ne_eqb}
use Rattle.std.proofs.lemmas.Bool.Decides.{nat_tests}
use Rattle.std.specs.BTreeMap.{BTreeMap, get, is_at, keys}
use Rattle.std.specs.List.{AllZip, find, list_any, slice_get}
use Rattle.std.specs.List.Sorted.{IsStrictlySortedBy}
use Rattle.std.specs.Map.{keys_of, lookup}
use Rattle.std.specs.Ordering.{nat_cmp}
use Rattle.std.specs.Option.{option_map, option_map_or}
use Rattle.sf_base.specs.declared.ids.TokenId.{TokenId}
use Rattle.sf_txn.specs.Transactions.{without_first}
use Rattle.sf_txn.specs.declared.lease.Lease.{Ghosts}
use Rattle.sf_token.specs.Index.{Becomes, IsIndex, first_in, numbers_in, numbers_of, queue_with}
use Rattle.sf_token.specs.Loads.{IsLookedArrival}
use Rattle.sf_token.specs.Pending.{Arrival, AreTokens, IsRisingFrom, has_number, is_of}
use Rattle.sf_token.proofs.StoreLemmas.{tied}

is_itself : (n : ℕ) → (n == n) ≡ true
is_itself n = grind (arith, nat_tests)

same_numbers : (ns : List ℕ) → numbers_in (queue_with ns) ≡ ns
same_numbers [] = refl
same_numbers (n ∷ ns) = refl

first_queue : (ns : List ℕ) → first_in (queue_with ns) ≡ slice_get ns 0
first_queue [] = refl
first_queue (n ∷ ns) = refl

queue-snoc : (ns : List ℕ) (n : ℕ) → queue_with (ns ++ n ∷ []) ≡ Some (ns ++ n ∷ [])
queue-snoc [] n = refl
queue-snoc (m ∷ ns) n = refl

module _ (old new : ℕ → Option (List ℕ)) (token : ℕ) (queue : Option (List ℕ)) (b : Becomes old new token queue) where
  -- what became of the token's queue, and of another's
  pub here : new token ≡ queue
  here = b token ∙ ap (λ c. cond c queue (old token)) (is_itself token)

  pub there : (t : ℕ) → (token == t) ≡ false → new t ≡ old t
  there t e = b t ∙ ap (λ c. cond c queue (old t)) e

-- what holds of a token's queue and of each other
at_each : (P : ℕ → Type 0) (token : ℕ) → P token → ((t : ℕ) → (token == t) ≡ false → P t) → (t : ℕ) → P t
at_each P token same other t = by_test (token == t) refl
  where
    by_test : (b : Bool) → (token == t) ≡ b → P t
    by_test true e = subst P (eqb-true token t e) same
    by_test false e = other t e

module _ {L : Type 0} where
  numbers_of-cons : (t : ℕ) (x : Arrival L) (xs : List (Arrival L)) (b : Bool) → (x.txn.token.0 == t) ≡ b → numbers_of t (x ∷ xs) ≡ cond b (x.number ∷ numbers_of t xs) (numbers_of t xs)
  numbers_of-cons t x xs true e = rw e refl
  numbers_of-cons t x xs false e = rw e refl

  numbers_of-snoc : (t : ℕ) (xs : List (Arrival L)) (a : Arrival L) → numbers_of t (xs ++ a ∷ []) ≡ numbers_of t xs ++ numbers_of t (a ∷ [])
  numbers_of-snoc t [] a = refl
  numbers_of-snoc t (x ∷ xs) a = by_test (x.txn.token.0 == t) refl (numbers_of-snoc t xs a)
    where
      by_test : (b : Bool) → (x.txn.token.0 == t) ≡ b → numbers_of t (xs ++ a ∷ []) ≡ numbers_of t xs ++ numbers_of t (a ∷ []) → numbers_of t ((x ∷ xs) ++ a ∷ []) ≡ numbers_of t (x ∷ xs) ++ numbers_of t (a ∷ [])
      by_test true e rest = numbers_of-cons t x (xs ++ a ∷ []) true e ∙ ap (λ ns. x.number ∷ ns) rest ∙ sym (ap (λ ns. ns ++ numbers_of t (a ∷ [])) (numbers_of-cons t x xs true e))
      by_test false e rest = numbers_of-cons t x (xs ++ a ∷ []) false e ∙ rest ∙ sym (ap (λ ns. ns ++ numbers_of t (a ∷ [])) (numbers_of-cons t x xs false e))

  -- a transaction arrives: its number goes to the end of its token's queue, which may have been made for it
  pub IsIndex-push : (q r s : ℕ → Option (List ℕ)) (pending : List (Arrival L)) (a : Arrival L) (token number : ℕ) → a.txn.token.0 ≡ token → a.number ≡ number → IsIndex q pending
      → Becomes q r token (Some (numbers_in (q token))) → Becomes r s token (Some (numbers_in (r token) ++ number ∷ [])) → IsIndex s (pending ++ a ∷ [])
  IsIndex-push q r s pending a token number of is index opened pushed =
      at_each (λ t. s t ≡ queue_with (numbers_of t (pending ++ a ∷ []))) token
      (here r s token _ pushed ∙ ap (λ ns. Some (ns ++ number ∷ [])) old ∙ sym (ap queue_with own ∙ queue-snoc (numbers_of token pending) number))
      (λ t apart. there r s token _ pushed t apart ∙ there q r token _ opened t apart ∙ index t ∙ ap queue_with (sym (other t apart)))
    where
      old : numbers_in (r token) ≡ numbers_of token pending
      old = ap numbers_in (here q r token _ opened) ∙ ap numbers_in (index token) ∙ same_numbers (numbers_of token pending)

      own : numbers_of token (pending ++ a ∷ []) ≡ numbers_of token pending ++ number ∷ []
      own = numbers_of-snoc token pending a ∙ ap (λ ns. numbers_of token pending ++ ns) (numbers_of-cons token a [] true (ap (λ t. t == token) of ∙ is_itself token) ∙ ap (λ n. n ∷ []) is)

      other : (t : ℕ) → (token == t) ≡ false → numbers_of t (pending ++ a ∷ []) ≡ numbers_of t pending
      other t apart = numbers_of-snoc t pending a ∙ ap (λ ns. numbers_of t pending ++ ns) (numbers_of-cons t a [] false (ap (λ n. n == t) of ∙ apart)) ∙ append-nil (numbers_of t pending)

  -- a queue that was made for nothing goes again
  pub IsIndex-close : (q r s : ℕ → Option (List ℕ)) (pending : List (Arrival L)) (token : ℕ) → IsIndex q pending → Becomes q r token (Some (numbers_in (q token)))
      → Becomes r s token (queue_with (numbers_in (r token))) → IsIndex s pending
  IsIndex-close q r s pending token index opened closed =
      at_each (λ t. s t ≡ queue_with (numbers_of t pending)) token
      (here r s token _ closed ∙ ap (λ o. queue_with (numbers_in o)) (here q r token _ opened) ∙ ap (λ o. queue_with (numbers_in o)) (index token) ∙ ap queue_with (same_numbers (numbers_of token pending)))
      (λ t apart. there r s token _ closed t apart ∙ there q r token _ opened t apart ∙ index t)

  own-pop : (t : ℕ) (xs : List (Arrival L)) → numbers_of t (without_first (is_of (record { 0 = t })) xs) ≡ drop 1 (numbers_of t xs)
  own-pop t [] = refl
  own-pop t (x ∷ xs) = by_test (x.txn.token.0 == t) refl (own-pop t xs)
    where
      by_test : (b : Bool) → (x.txn.token.0 == t) ≡ b → numbers_of t (without_first (is_of (record { 0 = t })) xs) ≡ drop 1 (numbers_of t xs) → numbers_of t (without_first (is_of (record { 0 = t })) (x ∷ xs)) ≡ drop 1 (numbers_of t (x ∷ xs))
      by_test true e rest = rw e refl
      by_test false e rest = rw e (numbers_of-cons t x _ false e ∙ rest)

  other-pop : (token t : ℕ) → (token == t) ≡ false → (xs : List (Arrival L)) → numbers_of t (without_first (is_of (record { 0 = token })) xs) ≡ numbers_of t xs
  other-pop token t apart [] = refl
  other-pop token t apart (x ∷ xs) = by_test (x.txn.token.0 == token) refl (other-pop token t apart xs)
    where
      by_other : (c : Bool) → (x.txn.token.0 == t) ≡ c → numbers_of t (without_first (is_of (record { 0 = token })) xs) ≡ numbers_of t xs → numbers_of t (x ∷ without_first (is_of (record { 0 = token })) xs) ≡ numbers_of t (x ∷ xs)
      by_other c e rest = numbers_of-cons t x _ c e ∙ ap (λ ns. cond c (x.number ∷ ns) ns) rest ∙ sym (numbers_of-cons t x xs c e)

      by_test : (b : Bool) → (x.txn.token.0 == token) ≡ b → numbers_of t (without_first (is_of (record { 0 = token })) xs) ≡ numbers_of t xs → numbers_of t (without_first (is_of (record { 0 = token })) (x ∷ xs)) ≡ numbers_of t (x ∷ xs)
      by_test true e rest =
          let not_of : (x.txn.token.0 == t) ≡ false = subst (λ n. (n == t) ≡ false) (sym (eqb-true x.txn.token.0 token e)) apart in
          ap (λ b. numbers_of t (cond b xs (x ∷ without_first (is_of (record { 0 = token })) xs))) e ∙ sym (numbers_of-cons t x xs false not_of)
      by_test false e rest =
          ap (λ b. numbers_of t (cond b xs (x ∷ without_first (is_of (record { 0 = token })) xs))) e ∙ by_other (x.txn.token.0 == t) refl rest

  -- the head of a token goes, and its number with it
  pub IsIndex-pop : (q r : ℕ → Option (List ℕ)) (pending : List (Arrival L)) (token : ℕ) → IsIndex q pending → Becomes q r token (queue_with (drop 1 (numbers_in (q token)))) → IsIndex r (without_first (is_of (record { 0 = token })) pending)
  IsIndex-pop q r pending token index popped =
      at_each (λ t. r t ≡ queue_with (numbers_of t (without_first (is_of (record { 0 = token })) pending))) token
      (here q r token _ popped ∙ ap (λ ns. queue_with (drop 1 ns)) (ap numbers_in (index token) ∙ same_numbers (numbers_of token pending)) ∙ ap queue_with (sym (own-pop token pending)))
      (λ t apart. there q r token _ popped t apart ∙ index t ∙ ap queue_with (sym (other-pop token t apart pending)))

  -- the first number of a token is above what comes before it
  first_above : (before last t n : ℕ) (xs : List (Arrival L)) → IsRisingFrom before xs last → slice_get (numbers_of t xs) 0 ≡ Some n → before < n
  first_above before last t n [] rising e = cc
  first_above before last t n (x ∷ xs) rising e = by_test (x.txn.token.0 == t) refl (first_above x.number last t n xs rising.1)
    where
      by_test : (b : Bool) → (x.txn.token.0 == t) ≡ b → (slice_get (numbers_of t xs) 0 ≡ Some n → x.number < n) → before < n
      by_test true is rest = let same : x.number ≡ n = cc (sym (ap (λ ns. slice_get ns 0) (numbers_of-cons t x xs true is)) ∙ e) in subst (λ k. before < k) same rising.0
      by_test false is rest = let low = rest (sym (ap (λ ns. slice_get ns 0) (numbers_of-cons t x xs false is)) ∙ e) in omega (arith, low, rising.0)

  -- the transaction of a token's first number is its head
  pub head_is : (before last t n : ℕ) (xs : List (Arrival L)) → IsRisingFrom before xs last → slice_get (numbers_of t xs) 0 ≡ Some n
      → (find (has_number n) xs ≡ find (is_of (record { 0 = t })) xs) × (without_first (has_number n) xs ≡ without_first (is_of (record { 0 = t })) xs)
  head_is before last t n [] rising e = cc
  head_is before last t n (x ∷ xs) rising e = by_test (x.txn.token.0 == t) refl (head_is x.number last t n xs rising.1)
    where
      IsHead : List (Arrival L) → Type 0
      IsHead ys = (find (has_number n) ys ≡ find (is_of (record { 0 = t })) ys) × (without_first (has_number n) ys ≡ without_first (is_of (record { 0 = t })) ys)

      both : (b : Bool) → (x.number == n) ≡ b → (x.txn.token.0 == t) ≡ b → IsHead xs → IsHead (x ∷ xs)
      both true a c h = (
        ap (λ b. cond b (Some x) (find (has_number n) xs)) a ∙ sym (ap (λ b. cond b (Some x) (find (is_of (record { 0 = t })) xs)) c),
        ap (λ b. cond b xs (x ∷ without_first (has_number n) xs)) a ∙ sym (ap (λ b. cond b xs (x ∷ without_first (is_of (record { 0 = t })) xs)) c),
      )
      both false a c h = (
        ap (λ b. cond b (Some x) (find (has_number n) xs)) a ∙ h.0 ∙ sym (ap (λ b. cond b (Some x) (find (is_of (record { 0 = t })) xs)) c),
        ap (λ b. cond b xs (x ∷ without_first (has_number n) xs)) a ∙ ap (λ ys. x ∷ ys) h.1 ∙ sym (ap (λ b. cond b xs (x ∷ without_first (is_of (record { 0 = t })) xs)) c),
      )

      by_test : (b : Bool) → (x.txn.token.0 == t) ≡ b → (slice_get (numbers_of t xs) 0 ≡ Some n → IsHead xs) → IsHead (x ∷ xs)
      by_test true is rest =
          let same : x.number ≡ n = cc (sym (ap (λ ns. slice_get ns 0) (numbers_of-cons t x xs true is)) ∙ e) in
          let passes : (x.number == n) ≡ true = subst (λ k. (x.number == k) ≡ true) same (is_itself x.number) in (
            ap (λ b. cond b (Some x) (find (has_number n) xs)) passes ∙ sym (ap (λ b. cond b (Some x) (find (is_of (record { 0 = t })) xs)) is),
            ap (λ b. cond b xs (x ∷ without_first (has_number n) xs)) passes ∙ sym (ap (λ b. cond b xs (x ∷ without_first (is_of (record { 0 = t })) xs)) is),
          )
      by_test false is rest =
          let later = sym (ap (λ ns. slice_get ns 0) (numbers_of-cons t x xs false is)) ∙ e in
          let low = first_above x.number last t n xs rising.1 later in
          both false (ne_eqb x.number n (λ (same : x.number ≡ n). absurd (omega (arith, low, same)))) is (rest later)

  -- a token without a number has nothing pending
  pub nothing_is : (t : ℕ) (xs : List (Arrival L)) → slice_get (numbers_of t xs) 0 ≡ None → (find (is_of (record { 0 = t })) xs ≡ None) × (without_first (is_of (record { 0 = t })) xs ≡ xs)
  nothing_is t [] e = (refl, refl)
  nothing_is t (x ∷ xs) e = by_test (x.txn.token.0 == t) refl (nothing_is t xs)
    where
      by_test : (b : Bool) → (x.txn.token.0 == t) ≡ b → (slice_get (numbers_of t xs) 0 ≡ None → (find (is_of (record { 0 = t })) xs ≡ None) × (without_first (is_of (record { 0 = t })) xs ≡ xs))
          → (find (is_of (record { 0 = t })) (x ∷ xs) ≡ None) × (without_first (is_of (record { 0 = t })) (x ∷ xs) ≡ x ∷ xs)
      by_test true is rest = let some : Some x.number ≡ None = sym (ap (λ ns. slice_get ns 0) (numbers_of-cons t x xs true is)) ∙ e in cc
      by_test false is rest =
          let h = rest (sym (ap (λ ns. slice_get ns 0) (numbers_of-cons t x xs false is)) ∙ e) in
          (ap (λ b. cond b (Some x) (find (is_of (record { 0 = t })) xs)) is ∙ h.0, ap (λ b. cond b xs (x ∷ without_first (is_of (record { 0 = t })) xs)) is ∙ ap (λ ys. x ∷ ys) h.1)

  -- the first number of a token, in its queue and among what is pending
  pub first_of : (q : ℕ → Option (List ℕ)) (pending : List (Arrival L)) (t : ℕ) → IsIndex q pending → first_in (q t) ≡ slice_get (numbers_of t pending) 0
  first_of q pending t index = ap first_in (index t) ∙ first_queue (numbers_of t pending)

  -- the number of a token's head is its first one
  head_number : (t : ℕ) (xs : List (Arrival L)) → option_map (λ (a : Arrival L). a.number) (find (is_of (record { 0 = t })) xs) ≡ slice_get (numbers_of t xs) 0
  head_number t [] = refl
  head_number t (x ∷ xs) = by_test (x.txn.token.0 == t) refl (head_number t xs)
    where
      number_of : Option (Arrival L) → Option ℕ
      number_of found = option_map (λ (a : Arrival L). a.number) found

      by_test : (b : Bool) → (x.txn.token.0 == t) ≡ b → number_of (find (is_of (record { 0 = t })) xs) ≡ slice_get (numbers_of t xs) 0
          → number_of (find (is_of (record { 0 = t })) (x ∷ xs)) ≡ slice_get (numbers_of t (x ∷ xs)) 0
      by_test true e rest =
          ap (λ b. number_of (cond b (Some x) (find (is_of (record { 0 = t })) xs))) e ∙ sym (ap (λ ns. slice_get ns 0) (numbers_of-cons t x xs true e))
      by_test false e rest =
          ap (λ b. number_of (cond b (Some x) (find (is_of (record { 0 = t })) xs))) e ∙ rest ∙ sym (ap (λ ns. slice_get ns 0) (numbers_of-cons t x xs false e))

  by_number : (found : Option (Arrival L)) (number : ℕ)
      → option_map_or (λ (first : Arrival L). first.number == number) found false ≡ option_map_or (λ n. n == number) (option_map (λ (a : Arrival L). a.number) found) false
  by_number None number = refl
  by_number (Some first) number = refl

  -- whether a token's head has a number is told by the first number of its queue
  pub is_first_by : (q : ℕ → Option (List ℕ)) (pending : List (Arrival L)) (t number : ℕ) → IsIndex q pending
      → option_map_or (λ n. n == number) (first_in (q t)) false ≡ option_map_or (λ (first : Arrival L). first.number == number) (find (is_of (record { 0 = t })) pending) false
  is_first_by q pending t number index =
      ap (λ (first : Option ℕ). option_map_or (λ n. n == number) first false) (first_of q pending t index ∙ sym (head_number t pending))
      ∙ sym (by_number (find (is_of (record { 0 = t })) pending) number)

  is_pending : (t : ℕ) (xs : List (Arrival L)) → is_some (queue_with (numbers_of t xs)) ≡ list_any (is_of (record { 0 = t })) xs
  is_pending t [] = refl
  is_pending t (x ∷ xs) = by_test (x.txn.token.0 == t) refl (is_pending t xs)
    where
      by_test : (b : Bool) → (x.txn.token.0 == t) ≡ b → is_some (queue_with (numbers_of t xs)) ≡ list_any (is_of (record { 0 = t })) xs → is_some (queue_with (numbers_of t (x ∷ xs))) ≡ list_any (is_of (record { 0 = t })) (x ∷ xs)
      by_test true e rest = ap (λ ns. is_some (queue_with ns)) (numbers_of-cons t x xs true e) ∙ sym (ap (λ b. b || list_any (is_of (record { 0 = t })) xs) e)
      by_test false e rest = ap (λ ns. is_some (queue_with ns)) (numbers_of-cons t x xs false e) ∙ rest ∙ sym (ap (λ b. b || list_any (is_of (record { 0 = t })) xs) e)

  -- looks leave each transaction its number and its token
  numbers_of-looked : {E R C : Type 0} (lease : Ghosts L E R C) (t : ℕ) (xs ys : List (Arrival L)) → AllZip (IsLookedArrival lease) xs ys → numbers_of t ys ≡ numbers_of t xs
  numbers_of-looked lease t [] [] all = refl
  numbers_of-looked lease t [] (y ∷ ys) all = absurd all
  numbers_of-looked lease t (x ∷ xs) [] all = absurd all
  numbers_of-looked lease t (x ∷ xs) (y ∷ ys) all =
      let token = ap (λ txn. txn.token.0) all.0.rest in
      numbers_of-cons t y ys (x.txn.token.0 == t) (ap (λ n. n == t) token)
      ∙ ap (λ n. cond (x.txn.token.0 == t) (n ∷ numbers_of t ys) (numbers_of t ys)) all.0.number
      ∙ ap (λ ns. cond (x.txn.token.0 == t) (x.number ∷ ns) ns) (numbers_of-looked lease t xs ys all.1)
      ∙ sym (numbers_of-cons t x xs (x.txn.token.0 == t) refl)

  pub IsIndex-looked : {E R C : Type 0} (lease : Ghosts L E R C) (q : ℕ → Option (List ℕ)) (xs ys : List (Arrival L)) → AllZip (IsLookedArrival lease) xs ys → IsIndex q xs → IsIndex q ys
  IsIndex-looked lease q xs ys all index = λ t. index t ∙ ap queue_with (sym (numbers_of-looked lease t xs ys all))

module _ {A : Type 0} where
  -- a key is among the entries where a look-up finds it
  has_key : (t : ℕ) (es : List (ℕ × A)) → list_any (λ n. n == t) (keys_of es) ≡ is_some (lookup (is_at (nat_cmp t)) es)
  has_key t [] = refl
  has_key t (e ∷ es) = by_test (e.0 == t) refl (has_key t es)
    where
      by_test : (b : Bool) → (e.0 == t) ≡ b → list_any (λ n. n == t) (keys_of es) ≡ is_some (lookup (is_at (nat_cmp t)) es) → list_any (λ n. n == t) (keys_of (e ∷ es)) ≡ is_some (lookup (is_at (nat_cmp t)) (e ∷ es))
      by_test true is rest = ap (λ b. b || list_any (λ n. n == t) (keys_of es)) is ∙ sym (ap (λ b. is_some (cond b (Some e.1) (lookup (is_at (nat_cmp t)) es))) (tied t e.0 ∙ is))
      by_test false is rest = ap (λ b. b || list_any (λ n. n == t) (keys_of es)) is ∙ rest ∙ sym (ap (λ b. is_some (cond b (Some e.1) (lookup (is_at (nat_cmp t)) es))) (tied t e.0 ∙ is))

  same_some : {B : Type 0} (f : A → B) (o : Option A) → is_some o ≡ is_some (option_map f o)
  same_some f None = refl
  same_some f (Some a) = refl

numbered : (keys : List ℕ) → map (λ (token : TokenId). token.0) (map (λ n. record { 0 = n }) keys) ≡ keys
numbered [] = refl
numbered (key ∷ keys) = ap (λ ks. key ∷ ks) (numbered keys)

any_numbered : (t : ℕ) (keys : List ℕ) → list_any (λ (other : TokenId). other.0 == t) (map (λ n. record { 0 = n }) keys) ≡ list_any (λ n. n == t) keys
any_numbered t [] = refl
any_numbered t (key ∷ keys) = ap (λ b. (key == t) || b) (any_numbered t keys)

-- the tokens that have a queue
pub tokens_of : {L A : Type 0} (items : A → List ℕ) (queues : BTreeMap ℕ A) (pending : List (Arrival L)) (tokens : List TokenId) → IsIndex (λ t. option_map items (get nat_cmp queues t)) pending
    → tokens ≡ map (λ n. record { 0 = n }) (keys queues) → IsStrictlySortedBy nat_cmp (keys queues) → AreTokens pending tokens
tokens_of items queues pending tokens index are rising = record {
  rising = rw (are, numbered (keys queues)) rising;
  those = λ token.
      rw are (any_numbered token.0 (keys queues) ∙ has_key token.0 queues.entries ∙ same_some items (get nat_cmp queues token.0)
      ∙ ap is_some (index token.0) ∙ is_pending token.0 pending);
}

-- what holds where a call answers
pub both_ok : {A E : Type 0} (r : Result A E) (P Q S : A → Type 0) → IfOk r P → IfOk r Q → ((a : A) → P a → Q a → S a) → IfOk r S
both_ok (Ok a) P Q S p q then = then a p q
both_ok (Err e) P Q S p q then = tt

-- what a call left, both where it answers and where it changed nothing
pub either_way : {A E X : Type 0} (r : Result A E) (Q : Type 0) (old new : X) (P : X → Type 0) → OnOk r Q → OnErr r (new ≡ old) → (Q → P new) → P old → P new
either_way (Ok a) Q old new P q same then unchanged = then q
either_way (Err e) Q old new P q same then unchanged = subst P (sym same) unchanged

-- a call without an error answers
pub on_ok : {A E : Type 0} (r : Result A E) (P : Type 0) → is_err r ≡ false → OnOk r P → P
on_ok (Ok a) P went p = p
on_ok (Err e) P went p = cc

-- a call with an error says what it left
pub on_err : {A E : Type 0} (r : Result A E) (P : Type 0) → is_err r ≡ true → OnErr r P → P
on_err (Ok a) P failed p = cc
on_err (Err e) P failed p = p
