-- Arrivals whose numbers rise: each is found by its number, and a commit takes the first that waits of its token.
use Rattle.std.proofs.Common.{◌≡◌, ℕ, ◌+◌, ◌<◌, ◌≤◌, drop, get_or, length, Bool, true, false, not, cond, ◌&&◌, ◌||◌, List, [], ◌∷◌, ◌++◌, filter, map, Option, Some, None, refl, ap, sym, ◌∙◌, subst, true≢false, arith}
use Rattle.std.specs.Prelude.{◌==◌, is_some}
use Rattle.std.specs.List.{All, find, list_any, range_with_len}
use Rattle.std.specs.Option.{option_or}
use Rattle.std.proofs.lemmas.Bool.{eq-eqb, eqb-true, ne_eqb}
use Rattle.std.proofs.lemmas.List.{append_assoc, length-append, map-append}
use Rattle.std.proofs.lemmas.List.Elements.{All-append, All-cons, All-filter, All-head, All-nil, All-tail, All-weaker, filter-append, filter_agree}
use Rattle.std.proofs.lemmas.List.Folds.{find-append, list_any-append, list_any_none}
use Rattle.std.proofs.lemmas.Option.{none-some, same_Some}
use Rattle.sf_base.specs.declared.ids.TokenId.{TokenId}
use Rattle.sf_commit.specs.sf_token.Pending.{Arrival, IsRisingFrom, has_number, head_of, is_of}
use Rattle.sf_commit.specs.sf_txn.Transactions.{without_first}
use Rattle.sf_commit.proofs.FollowLemmas.{lower, rising_append}
use Rattle.sf_commit.specs.Handlers.{last_of}
use Rattle.sf_actor.specs.Names.{FrameOf}
use Rattle.sf_record.specs.declared.record.CommitRecord.{CommitRecord}
use Rattle.law_played.specs.Arrivals.{number_of}
use Rattle.law_played.specs.Commits.{arrival_of, arrived_of, committed_of}
use Rattle.law_played.specs.Framing.{framed_arrival}
use Rattle.law_played.specs.Holds.{is_uncommitted, uncommitted}
use Rattle.law_played.specs.Progress.{AreInOrder, IsOfArrival}

-- what is found passes
pub found_passes : {X : Type 0} (p : X → Bool) (xs : List X) (x : X) → find p xs ≡ Some x → p x ≡ true
found_passes p [] x e = absurd (none-some x e)
found_passes p (y ∷ ys) x e = by_test (found_passes p ys x) (p y) refl e
  where
    by_test : (find p ys ≡ Some x → p x ≡ true) → (b : Bool) → p y ≡ b → find p (y ∷ ys) ≡ Some x → p x ≡ true
    by_test rest true h found = ap p (sym (same_Some y x (rw h at found))) ∙ h
    by_test rest false h found = rest (rw h at found)

-- what holds of all holds of the one that is found
pub found_has : {X : Type 0} (P : X → Type 0) (p : X → Bool) (xs : List X) (x : X) → All P xs → find p xs ≡ Some x → P x
found_has P p [] x all e = absurd (none-some x e)
found_has P p (y ∷ ys) x all e = by_test (found_has P p ys x (All-tail P y ys all)) (p y) refl e
  where
    by_test : (find p ys ≡ Some x → P x) → (b : Bool) → p y ≡ b → find p (y ∷ ys) ≡ Some x → P x
    by_test rest true h found = subst P (same_Some y x (rw h at found)) (All-head P y ys all)
    by_test rest false h found = rest (rw h at found)

-- what all pass is kept whole
pub kept_whole : {X : Type 0} (p : X → Bool) (xs : List X) → All (λ x. p x ≡ true) xs → filter p xs ≡ xs
kept_whole p [] all = refl
kept_whole p (x ∷ xs) all = rw (All-head (λ x. p x ≡ true) x xs all) (ap (λ r. x ∷ r) (kept_whole p xs (All-tail (λ x. p x ≡ true) x xs all)))

-- of what is kept, what is kept
pub kept_twice : {X : Type 0} (p q : X → Bool) (xs : List X) → filter (λ x. p x && q x) xs ≡ filter q (filter p xs)
kept_twice p q [] = refl
kept_twice p q (x ∷ xs) = by_test (kept_twice p q xs) (p x)
  where
    by_test : filter (λ x. p x && q x) xs ≡ filter q (filter p xs) → (b : Bool)
        → cond (b && q x) (x ∷ filter (λ x. p x && q x) xs) (filter (λ x. p x && q x) xs) ≡ filter q (cond b (x ∷ filter p xs) (filter p xs))
    by_test rest true = ap (λ r. cond (q x) (x ∷ r) r) rest
    by_test rest false = rest

module _ {L : Type 0} where
  -- all that rises from a number is above it
  pub above : (n : ℕ) (xs : List (Arrival L)) (last : ℕ) → IsRisingFrom n xs last → All (λ (a : Arrival L). n < a.number) xs
  above n [] last h = All-nil (λ (a : Arrival L). n < a.number)
  above n (x ∷ xs) last h =
      let first = h.0 in
      All-cons (λ (a : Arrival L). n < a.number) x xs first
      (All-weaker (λ (a : Arrival L). x.number < a.number) (λ (a : Arrival L). n < a.number) (λ a m. omega (arith, m, first)) xs (above x.number xs last h.1))

  -- and at most the last
  pub below : (n : ℕ) (xs : List (Arrival L)) (last : ℕ) → IsRisingFrom n xs last → (n ≤ last) × All (λ (a : Arrival L). a.number ≤ last) xs
  below n [] last h = (h, All-nil (λ (a : Arrival L). a.number ≤ last))
  below n (x ∷ xs) last h =
      let first = h.0 in
      let rest = below x.number xs last h.1 in
      let most = rest.0 in
      (omega (arith, first, most), All-cons (λ (a : Arrival L). a.number ≤ last) x xs most rest.1)

  -- some of them rise
  pub rising_filter : (p : Arrival L → Bool) (n : ℕ) (xs : List (Arrival L)) (last : ℕ) → IsRisingFrom n xs last → IsRisingFrom n (filter p xs) last
  rising_filter p n [] last h = h
  rising_filter p n (x ∷ xs) last h = by_test (rising_filter p x.number xs last h.1) (p x)
    where
      by_test : IsRisingFrom x.number (filter p xs) last → (b : Bool) → IsRisingFrom n (cond b (x ∷ filter p xs) (filter p xs)) last
      by_test rest true = (h.0, rest)
      by_test rest false = let less = h.0 in lower n x.number last (filter p xs) (omega (arith, less)) rest

  -- each is found by its number
  pub found_all : (n : ℕ) (xs : List (Arrival L)) (last : ℕ) → IsRisingFrom n xs last → All (λ (a : Arrival L). find (has_number a.number) xs ≡ Some a) xs
  found_all n [] last h = All-nil (λ (a : Arrival L). find (has_number a.number) [] ≡ Some a)
  found_all n (x ∷ xs) last h =
      All-cons (λ (a : Arrival L). find (has_number a.number) (x ∷ xs) ≡ Some a) x xs
      (rw (eq-eqb x.number x.number refl) refl)
      (λ k d in'. skipped _ (above x.number xs last h.1 k d in') (found_all x.number xs last h.1 k d in'))
    where
      skipped : (a : Arrival L) → x.number < a.number → find (has_number a.number) xs ≡ Some a → find (has_number a.number) (x ∷ xs) ≡ Some a
      skipped a less e = rw (ne_eqb x.number a.number (λ same. omega (arith, less, same))) e

  -- the first of its token goes: the others are those of other numbers
  pub goes_first : (n last : ℕ) (xs : List (Arrival L)) (a : Arrival L) → IsRisingFrom n xs last → head_of a.txn.token xs ≡ Some a
      → filter (λ (x : Arrival L). not (a.number == x.number)) xs ≡ without_first (is_of a.txn.token) xs
  goes_first n last [] a h e = refl
  goes_first n last (x ∷ xs) a h e = by_test (goes_first x.number last xs a h.1) (is_of a.txn.token x) refl e
    where
      others : x ≡ a → filter (λ (y : Arrival L). not (a.number == y.number)) xs ≡ xs
      others same = kept_whole (λ (y : Arrival L). not (a.number == y.number)) xs
          (All-weaker (λ (y : Arrival L). x.number < y.number) (λ (y : Arrival L). not (a.number == y.number) ≡ true)
          (λ y less. rw (ne_eqb a.number y.number (λ e. let f = ap (λ (z : Arrival L). z.number) same in omega (arith, less, e, f))) refl)
          xs (above x.number xs last h.1))

      by_test : (head_of a.txn.token xs ≡ Some a → filter (λ (x : Arrival L). not (a.number == x.number)) xs ≡ without_first (is_of a.txn.token) xs)
          → (b : Bool) → is_of a.txn.token x ≡ b → head_of a.txn.token (x ∷ xs) ≡ Some a
          → filter (λ (x : Arrival L). not (a.number == x.number)) (x ∷ xs) ≡ without_first (is_of a.txn.token) (x ∷ xs)
      by_test rest true t found =
          let same : x ≡ a = same_Some x a (rw t at found) in
          rw (t, eq-eqb a.number x.number (ap (λ (z : Arrival L). z.number) (sym same))) (others same)
      by_test rest false t found =
          let later = rw t at found in
          let less = found_has (λ (y : Arrival L). x.number < y.number) (is_of a.txn.token) xs a (above x.number xs last h.1) later in
          rw (t, ne_eqb a.number x.number (λ e. omega (arith, less, e))) (ap (λ r. x ∷ r) (rest later))

  abbrev pub numbers_of : ℕ → List (Arrival L) → List ℕ
  numbers_of token xs = map (λ (a : Arrival L). a.number) (filter (is_of (record { 0 = token })) xs)

  -- the numbers of each token, after the first of one token went
  pub numbers_after : (token : ℕ) (xs : List (Arrival L)) (a : Arrival L) → head_of a.txn.token xs ≡ Some a
      → cond (a.txn.token.0 == token) (a.number ∷ []) [] ++ numbers_of token (without_first (is_of a.txn.token) xs) ≡ numbers_of token xs
  numbers_after token [] a e = absurd (none-some a e)
  numbers_after token (x ∷ xs) a e = by_test (numbers_after token xs a) (is_of a.txn.token x) refl e
    where
      here : (b : Bool) (rest : List (Arrival L)) → cond b (x.number ∷ []) [] ++ map (λ (a : Arrival L). a.number) rest ≡ map (λ (a : Arrival L). a.number) (cond b (x ∷ rest) rest)
      here true rest = refl
      here false rest = refl

      -- what is of another token than the first is not of that one
      apart : (b c : Bool) (rest : List (Arrival L)) (front : List ℕ) (whole : List (Arrival L))
          → (is_of (record { 0 = token }) x ≡ b) → ((a.txn.token.0 == token) ≡ c) → is_of a.txn.token x ≡ false
          → cond c (a.number ∷ []) [] ++ map (λ (a : Arrival L). a.number) rest ≡ map (λ (a : Arrival L). a.number) whole
          → cond c (a.number ∷ []) [] ++ map (λ (a : Arrival L). a.number) (cond b (x ∷ rest) rest) ≡ map (λ (a : Arrival L). a.number) (cond b (x ∷ whole) whole)
      apart true true rest front whole s t other same =
          absurd (true≢false (sym (eq-eqb x.txn.token.0 a.txn.token.0 (eqb-true x.txn.token.0 token s ∙ sym (eqb-true a.txn.token.0 token t))) ∙ other))
      apart true false rest front whole s t other same = ap (λ r. x.number ∷ r) same
      apart false c rest front whole s t other same = same

      by_test : (head_of a.txn.token xs ≡ Some a → cond (a.txn.token.0 == token) (a.number ∷ []) [] ++ numbers_of token (without_first (is_of a.txn.token) xs) ≡ numbers_of token xs)
          → (b : Bool) → is_of a.txn.token x ≡ b → head_of a.txn.token (x ∷ xs) ≡ Some a
          → cond (a.txn.token.0 == token) (a.number ∷ []) [] ++ numbers_of token (without_first (is_of a.txn.token) (x ∷ xs)) ≡ numbers_of token (x ∷ xs)
      by_test rest true t found =
          let same : x ≡ a = same_Some x a (rw t at found) in
          rw t (ap (λ (z : Arrival L). cond (z.txn.token.0 == token) (z.number ∷ []) [] ++ numbers_of token xs) (sym same)
          ∙ here (x.txn.token.0 == token) (filter (is_of (record { 0 = token })) xs))
      by_test rest false t found =
          rw t (apart (is_of (record { 0 = token }) x) (a.txn.token.0 == token) (filter (is_of (record { 0 = token })) (without_first (is_of a.txn.token) xs)) []
          (filter (is_of (record { 0 = token })) xs) refl refl t (rest (rw t at found)))

  -- a token's first is first still after another's went
  pub head_before : (token : TokenId) (other : TokenId) (xs : List (Arrival L)) → (token.0 ≡ other.0 → ⊥) → head_of token (without_first (is_of other) xs) ≡ head_of token xs
  head_before token other [] apart = refl
  head_before token other (x ∷ xs) apart = by_test (head_before token other xs apart) (is_of other x) refl (is_of token x) refl
    where
      by_test : head_of token (without_first (is_of other) xs) ≡ head_of token xs → (b : Bool) → is_of other x ≡ b → (c : Bool) → is_of token x ≡ c
          → head_of token (without_first (is_of other) (x ∷ xs)) ≡ head_of token (x ∷ xs)
      by_test rest true s true t = absurd (apart (sym (eqb-true x.txn.token.0 token.0 t) ∙ eqb-true x.txn.token.0 other.0 s))
      by_test rest true s false t = rw (s, t) refl
      by_test rest false s true t = rw (s, t) refl
      by_test rest false s false t = rw (s, t) rest

module _ {L M : Type 0} (frame : L → M) where
  -- numbers and tokens are told alike
  pub rising_framed : (n : ℕ) (xs : List (Arrival L)) (last : ℕ) → IsRisingFrom n xs last → IsRisingFrom n (map (framed_arrival frame) xs) last
  rising_framed n [] last h = h
  rising_framed n (x ∷ xs) last h = (h.0, rising_framed x.number xs last h.1)

  pub rising_unframed : (n : ℕ) (xs : List (Arrival L)) (last : ℕ) → IsRisingFrom n (map (framed_arrival frame) xs) last → IsRisingFrom n xs last
  rising_unframed n [] last h = h
  rising_unframed n (x ∷ xs) last h = (h.0, rising_unframed x.number xs last h.1)

  pub filter_framed : (p : Arrival L → Bool) (q : Arrival M → Bool) → ((x : Arrival L) → q (framed_arrival frame x) ≡ p x) → (xs : List (Arrival L))
      → filter q (map (framed_arrival frame) xs) ≡ map (framed_arrival frame) (filter p xs)
  filter_framed p q same [] = refl
  filter_framed p q same (x ∷ xs) = rw (same x) (by_test (filter_framed p q same xs) (p x))
    where
      by_test : filter q (map (framed_arrival frame) xs) ≡ map (framed_arrival frame) (filter p xs) → (b : Bool)
          → cond b (framed_arrival frame x ∷ filter q (map (framed_arrival frame) xs)) (filter q (map (framed_arrival frame) xs)) ≡ map (framed_arrival frame) (cond b (x ∷ filter p xs) (filter p xs))
      by_test rest true = ap (λ r. framed_arrival frame x ∷ r) rest
      by_test rest false = rest

  pub numbers_framed : (token : ℕ) (xs : List (Arrival L)) → numbers_of token (map (framed_arrival frame) xs) ≡ numbers_of token xs
  numbers_framed token [] = refl
  numbers_framed token (x ∷ xs) = by_test (numbers_framed token xs) (x.txn.token.0 == token)
    where
      by_test : numbers_of token (map (framed_arrival frame) xs) ≡ numbers_of token xs → (b : Bool)
          → map (λ (a : Arrival M). a.number) (cond b (framed_arrival frame x ∷ filter (is_of (record { 0 = token })) (map (framed_arrival frame) xs)) (filter (is_of (record { 0 = token })) (map (framed_arrival frame) xs)))
          ≡ map (λ (a : Arrival L). a.number) (cond b (x ∷ filter (is_of (record { 0 = token })) xs) (filter (is_of (record { 0 = token })) xs))
      by_test rest true = ap (λ r. x.number ∷ r) rest
      by_test rest false = rest

-- commits, one more
any_more : {X : Type 0} (p : X → Bool) (xs : List X) (x : X) → not (list_any p (xs ++ x ∷ [])) ≡ (not (list_any p xs) && not (p x))
any_more p xs x = rw (list_any-append p xs (x ∷ [])) (by_tests (list_any p xs) (p x))
  where
    by_tests : (b c : Bool) → not (b || (c || false)) ≡ (not b && not c)
    by_tests true c = refl
    by_tests false true = refl
    by_tests false false = refl

left_more : (arrivals : List (Arrival FrameOf)) (commits : List CommitRecord) (c : CommitRecord)
    → uncommitted arrivals (commits ++ c ∷ []) ≡ filter (λ (x : Arrival FrameOf). not (c.arrival == x.number)) (uncommitted arrivals commits)
left_more arrivals commits c =
    filter_agree (is_uncommitted (commits ++ c ∷ [])) (λ x. is_uncommitted commits x && not (c.arrival == x.number))
    (λ x. any_more (λ (k : CommitRecord). k.arrival == x.number) commits c) arrivals
    ∙ kept_twice (is_uncommitted commits) (λ (x : Arrival FrameOf). not (c.arrival == x.number)) arrivals

committed_more : (token : ℕ) (commits : List CommitRecord) (c : CommitRecord)
    → committed_of token (commits ++ c ∷ []) ≡ committed_of token commits ++ cond (c.token == token) (c.arrival ∷ []) []
committed_more token commits c =
    ap (map arrival_of) (filter-append (λ (k : CommitRecord). k.token == token) commits (c ∷ []))
    ∙ (map-append arrival_of (filter (λ (k : CommitRecord). k.token == token) commits) (cond (c.token == token) (c ∷ []) [])
    ∙ ap (λ r. committed_of token commits ++ r) (by_test (c.token == token)))
  where
    by_test : (b : Bool) → map arrival_of (cond b (c ∷ []) []) ≡ cond b (c.arrival ∷ []) []
    by_test true = refl
    by_test false = refl

-- a commit is one of this arrival
pub record IsCommitOf {L : Type 0} (c : CommitRecord) (a : Arrival L) : Type 0 where
  pub number : c.arrival ≡ a.number
  pub token : c.token ≡ a.txn.token.0

module _ {L : Type 0} (frame : L → FrameOf) where
  -- what waits after a commit of the first of its token
  pub waits_after : (arrivals : List (Arrival FrameOf)) (last : ℕ) (commits : List CommitRecord) (pending : List (Arrival L)) (a : Arrival L) (c : CommitRecord)
      → IsRisingFrom 0 arrivals last → map (framed_arrival frame) pending ≡ uncommitted arrivals commits → head_of a.txn.token pending ≡ Some a → IsCommitOf c a
      → map (framed_arrival frame) (without_first (is_of a.txn.token) pending) ≡ uncommitted arrivals (commits ++ c ∷ [])
  waits_after arrivals last commits pending a c rising waits head of =
      let rises = rising_unframed frame 0 pending last (subst (λ xs. IsRisingFrom 0 xs last) (sym waits) (rising_filter (is_uncommitted commits) 0 arrivals last rising)) in
      ap (map (framed_arrival frame)) (sym (goes_first 0 last pending a rises head))
      ∙ (sym (filter_framed frame (λ (x : Arrival L). not (a.number == x.number)) (λ (x : Arrival FrameOf). not (a.number == x.number)) (λ x. refl) pending)
      ∙ ((λ i. filter (λ (x : Arrival FrameOf). not (sym of.number i == x.number)) (waits i))
      ∙ sym (left_more arrivals commits c)))

  -- what is pending is found among the arrivals
  pub waiting_found : (arrivals : List (Arrival FrameOf)) (last : ℕ) (commits : List CommitRecord) (pending : List (Arrival L))
      → IsRisingFrom 0 arrivals last → map (framed_arrival frame) pending ≡ uncommitted arrivals commits
      → All (λ (a : Arrival L). find (has_number a.number) arrivals ≡ Some (framed_arrival frame a)) pending
  waiting_found arrivals last commits pending rising waits =
      unmapped pending (subst (All (λ (x : Arrival FrameOf). find (has_number x.number) arrivals ≡ Some x)) (sym waits)
      (All-filter (is_uncommitted commits) (λ (x : Arrival FrameOf). find (has_number x.number) arrivals ≡ Some x) arrivals (found_all 0 arrivals last rising)))
    where
      unmapped : (xs : List (Arrival L)) → All (λ (x : Arrival FrameOf). find (has_number x.number) arrivals ≡ Some x) (map (framed_arrival frame) xs)
          → All (λ (a : Arrival L). find (has_number a.number) arrivals ≡ Some (framed_arrival frame a)) xs
      unmapped [] all = All-nil (λ (a : Arrival L). find (has_number a.number) arrivals ≡ Some (framed_arrival frame a))
      unmapped (x ∷ xs) all =
          All-cons (λ (a : Arrival L). find (has_number a.number) arrivals ≡ Some (framed_arrival frame a)) x xs
          (All-head (λ (x : Arrival FrameOf). find (has_number x.number) arrivals ≡ Some x) (framed_arrival frame x) (map (framed_arrival frame) xs) all)
          (unmapped xs (All-tail (λ (x : Arrival FrameOf). find (has_number x.number) arrivals ≡ Some x) (framed_arrival frame x) (map (framed_arrival frame) xs) all))

  -- each token's commits are still its first arrivals
  pub order_after : (arrivals : List (Arrival FrameOf)) (last : ℕ) (commits : List CommitRecord) (pending : List (Arrival L)) (a : Arrival L) (c : CommitRecord)
      → AreInOrder arrivals last commits → map (framed_arrival frame) pending ≡ uncommitted arrivals commits → head_of a.txn.token pending ≡ Some a → IsCommitOf c a
      → AreInOrder arrivals last (commits ++ c ∷ [])
  order_after arrivals last commits pending a c order waits head of = record {
    rising = order.rising;
    of_arrivals = All-append (IsOfArrival arrivals) commits (c ∷ []) order.of_arrivals (All-cons (IsOfArrival arrivals) c [] known (All-nil (IsOfArrival arrivals)));
    of_each_token = λ token. in_order token;
  }
    where
      known : IsOfArrival arrivals c
      known =
          let found = found_has (λ (x : Arrival L). find (has_number x.number) arrivals ≡ Some (framed_arrival frame x)) (is_of a.txn.token) pending a
          (waiting_found arrivals last commits pending order.rising waits) head in
          ap (λ n. is_some (find (has_number n) arrivals)) of.number ∙ ap (λ o. is_some o) found

      in_order : (token : ℕ) → committed_of token (commits ++ c ∷ []) ++ arrived_of token (uncommitted arrivals (commits ++ c ∷ [])) ≡ arrived_of token arrivals
      in_order token =
          let left = without_first (is_of a.txn.token) pending in
          let here : cond (c.token == token) (c.arrival ∷ []) [] ≡ cond (a.txn.token.0 == token) (a.number ∷ []) [] =
          λ i. cond (of.token i == token) (of.number i ∷ []) [] in
          let rest : arrived_of token (uncommitted arrivals (commits ++ c ∷ [])) ≡ numbers_of token left =
          ap (numbers_of token) (sym (waits_after arrivals last commits pending a c order.rising waits head of)) ∙ numbers_framed frame token left in
          (λ i. (committed_more token commits c ∙ ap (λ r. committed_of token commits ++ r) here) i ++ rest i)
          ∙ (append_assoc (committed_of token commits) (cond (a.txn.token.0 == token) (a.number ∷ []) []) (numbers_of token left)
          ∙ (ap (λ r. committed_of token commits ++ r) (numbers_after token pending a head ∙ (sym (numbers_framed frame token pending) ∙ ap (numbers_of token) waits))
          ∙ order.of_each_token token))

-- more arrives
module _ (arrivals more : List (Arrival FrameOf)) (last end : ℕ) (commits : List CommitRecord) where
  -- nothing of it is committed
  pub all_left : AreInOrder arrivals last commits → IsRisingFrom last more end → uncommitted (arrivals ++ more) commits ≡ uncommitted arrivals commits ++ more
  all_left order rises =
      filter-append (is_uncommitted commits) arrivals more
      ∙ ap (λ r. uncommitted arrivals commits ++ r) (kept_whole (is_uncommitted commits) more
      (All-weaker (λ (x : Arrival FrameOf). last < x.number) (λ (x : Arrival FrameOf). is_uncommitted commits x ≡ true)
      (λ x less. ap not (list_any_none (λ (k : CommitRecord). k.arrival == x.number) commits
      (All-weaker (IsOfArrival arrivals) (λ (k : CommitRecord). (k.arrival == x.number) ≡ false) (λ k found. apart x k less found (find (has_number k.arrival) arrivals) refl) commits order.of_arrivals)))
      more (above last more end rises)))
    where
      apart : (x : Arrival FrameOf) (k : CommitRecord) → last < x.number → IsOfArrival arrivals k → (o : Option (Arrival FrameOf)) → find (has_number k.arrival) arrivals ≡ o
          → (k.arrival == x.number) ≡ false
      apart x k less found None e = absurd (true≢false (sym found ∙ ap (λ o. is_some o) e))
      apart x k less found (Some y) e =
          let most = found_has (λ (a : Arrival FrameOf). a.number ≤ last) (has_number k.arrival) arrivals y (below 0 arrivals last order.rising).1 e in
          let same : y.number ≡ k.arrival = eqb-true y.number k.arrival (found_passes (has_number k.arrival) arrivals y e) in
          ne_eqb k.arrival x.number (λ f. omega (arith, less, most, same, f))

  pub order_more : AreInOrder arrivals last commits → IsRisingFrom last more end → AreInOrder (arrivals ++ more) end commits
  order_more order rises = record {
    rising = rising_append 0 last end arrivals more order.rising rises;
    of_arrivals = All-weaker (IsOfArrival arrivals) (IsOfArrival (arrivals ++ more)) (λ k found. found_still k found) commits order.of_arrivals;
    of_each_token = λ token.
        ap (λ xs. committed_of token commits ++ arrived_of token xs) (all_left order rises)
        ∙ (ap (λ r. committed_of token commits ++ r) (split token (uncommitted arrivals commits))
        ∙ (sym (append_assoc (committed_of token commits) (arrived_of token (uncommitted arrivals commits)) (arrived_of token more))
        ∙ (ap (λ r. r ++ arrived_of token more) (order.of_each_token token)
        ∙ sym (split token arrivals))));
  }
    where
      split : (token : ℕ) (xs : List (Arrival FrameOf)) → arrived_of token (xs ++ more) ≡ arrived_of token xs ++ arrived_of token more
      split token xs =
          ap (map number_of) (filter-append (is_of (record { 0 = token })) xs more) ∙ map-append number_of (filter (is_of (record { 0 = token })) xs) (filter (is_of (record { 0 = token })) more)

      found_still : (k : CommitRecord) → IsOfArrival arrivals k → IsOfArrival (arrivals ++ more) k
      found_still k found = ap (λ o. is_some o) (find-append (has_number k.arrival) arrivals more) ∙ by_found (find (has_number k.arrival) arrivals) found
        where
          by_found : (o : Option (Arrival FrameOf)) → is_some o ≡ true → is_some (option_or o (find (has_number k.arrival) more)) ≡ true
          by_found None none = absurd (true≢false (sym none))
          by_found (Some y) some = refl

-- arrivals that are numbered on rise
pub numbered_rise : {L : Type 0} (before : ℕ) (arrived : List (Arrival L)) → map (λ (a : Arrival L). a.number) arrived ≡ range_with_len (before + 1) (length arrived)
    → IsRisingFrom before arrived (last_of before arrived) × (last_of before arrived ≡ before + length arrived)
numbered_rise before [] e = (omega arith, omega arith)
numbered_rise before (a ∷ later) e =
    let number : a.number ≡ before + 1 = ap (λ ns. get_or ns 0 0) e in
    let rest : map (λ (a : Arrival _). a.number) later ≡ range_with_len (before + 1 + 1) (length later) = ap (drop 1) e in
    let on = numbered_rise a.number later (rest ∙ ap (λ n. range_with_len (n + 1) (length later)) (sym number)) in
    let last = on.1 in
    ((omega (arith, number), on.0), omega (arith, last, number))

-- behind earlier ones, too, where all of them are numbered
pub numbers_behind : {L : Type 0} (before : ℕ) (earlier arrived : List (Arrival L))
    → map (λ (a : Arrival L). a.number) (earlier ++ arrived) ≡ range_with_len (before + 1) (length (earlier ++ arrived))
    → map (λ (a : Arrival L). a.number) arrived ≡ range_with_len (before + length earlier + 1) (length arrived)
numbers_behind before [] arrived e = let same : before + 1 ≡ before + 0 + 1 = omega arith in e ∙ ap (λ n. range_with_len n (length arrived)) same
numbers_behind before (a ∷ earlier) arrived e =
    let same : before + 1 + length earlier + 1 ≡ before + length (a ∷ earlier) + 1 = omega arith in
    numbers_behind (before + 1) earlier arrived (ap (drop 1) e) ∙ ap (λ n. range_with_len n (length arrived)) same

pub numbered_behind : {L : Type 0} (earlier arrived : List (Arrival L))
    → map (λ (a : Arrival L). a.number) (earlier ++ arrived) ≡ range_with_len 1 (length (earlier ++ arrived))
    → IsRisingFrom (length earlier) arrived (last_of (length earlier) arrived) × (last_of (length earlier) arrived ≡ length (earlier ++ arrived))
numbered_behind earlier arrived e =
    let rises = numbered_rise (length earlier) arrived (numbers_behind 0 earlier arrived e ∙ ap (λ n. range_with_len n (length arrived)) (omega arith)) in
    (rises.0, rises.1 ∙ sym (length-append earlier arrived))
