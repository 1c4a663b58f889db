-- Pending transactions by number, with one more, with one less, and looked at.
use Rattle.std.proofs.Common.{◌≡◌, ◌≢◌, ◌∙◌, sym, ap, subst, ℕ, ◌<◌, ◌==◌, Bool, true, false, cond, List, [], ◌∷◌, ◌++◌, Option, Some, None, IsSome, refl, arith, nat_eq}
use borrow.Author.Tests.{eqb-true, eqb-false, ne_eqb}
use Rattle.std.proofs.lemmas.Bool.Decides.{nat_tests}
use Rattle.std.proofs.lemmas.List.{map-append}
use Rattle.std.proofs.lemmas.Map.Keys.{IsDistinct-cons, sorted_head, sorted_tail}
use Rattle.std.specs.BTreeMap.{insert_entry, is_at}
use Rattle.std.specs.Cmp.{nat_eq_equiv, unsigned_tied}
use Rattle.std.specs.List.{AllByRecursion, AllZip, IsDistinct, find}
use Rattle.std.specs.List.Sorted.{IsStrictlySortedBy}
use Rattle.std.specs.Map.{keys_of, lookup, remove_entry, values_of}
use Rattle.std.specs.Option.{option_and_then, option_to_list}
use Rattle.std.specs.Ordering.{match_ordering, nat_cmp}
use Rattle.std.specs.declared.cmp.Ordering.TheVariants.{Greater, Less}
use Rattle.slab.specs.Slab.{Slab, Updates, get}
use Rattle.sf_txn.specs.Transactions.{without_first}
use Rattle.sf_txn.specs.declared.lease.Lease.{Ghosts}
use Rattle.sf_token.specs.Loads.{IsLookedArrival}
use Rattle.sf_token.specs.Pending.{Arrival, has_number}
use Rattle.sf_token.specs.Slots.{AreFiled, number_in, picked}
use Rattle.sf_token.proofs.SlotLemmas.{kept_of, picked-same, picked-snoc}

-- a query for a number finds the equal one
pub tied : (n k : ℕ) → is_at (nat_cmp n) k ≡ (k == n)
tied n k = unsigned_tied n k ∙ nat_eq_equiv.symm n k

distinct_nil : IsDistinct nat_eq []
unfolding IsDistinct
distinct_nil = tt

lesser_differs : (a b : ℕ) → nat_cmp a b ≡ Less → b ≢ a
lesser_differs a b h same = let self : nat_cmp a a ≡ Less = subst (λ n. nat_cmp a n ≡ Less) same h in grind (arith, nat_tests)

later_differ : (n : ℕ) (ks : List ℕ) → AllByRecursion (λ k. nat_cmp n k ≡ Less) ks → AllByRecursion (λ k. k ≢ n) ks
later_differ n [] h = tt
later_differ n (k ∷ ks) h = (lesser_differs n k h.0, later_differ n ks h.1)

lesser_is : (n k : ℕ) → k < n → nat_cmp n k ≡ Greater
lesser_is n k h = grind (arith, nat_tests)

-- a number above all others goes last
insert-last : (es : List (ℕ × ℕ)) (n key : ℕ) → AllByRecursion (λ e. e.0 < n) es → insert_entry nat_cmp es n key ≡ es ++ (n, key) ∷ []
insert-last [] n key h = refl
insert-last (e ∷ es) n key h =
    ap (λ o. match_ordering o ((n, key) ∷ e ∷ es) ((e.0, key) ∷ es) (e ∷ insert_entry nat_cmp es n key)) (lesser_is n e.0 h.0) ∙ ap (λ xs. e ∷ xs) (insert-last es n key h.1)

-- no number that is left is the one that went
gone_apart : (n : ℕ) (es : List (ℕ × ℕ)) → IsStrictlySortedBy nat_cmp (keys_of es) → AllByRecursion (λ k. k ≢ n) (keys_of (remove_entry (is_at (nat_cmp n)) es))
gone_apart n [] s = tt
gone_apart n (e ∷ es) s = by_test (e.0 == n) refl (gone_apart n es (sorted_tail nat_cmp e.0 (keys_of es) s))
  where
    by_test : (b : Bool) → (e.0 == n) ≡ b → AllByRecursion (λ k. k ≢ n) (keys_of (remove_entry (is_at (nat_cmp n)) es)) → AllByRecursion (λ k. k ≢ n) (keys_of (remove_entry (is_at (nat_cmp n)) (e ∷ es)))
    by_test true t rest =
        rw (tied n e.0 ∙ t) (subst (λ m. AllByRecursion (λ k. k ≢ m) (keys_of es)) (eqb-true e.0 n t) (later_differ e.0 (keys_of es) (sorted_head nat_cmp e.0 (keys_of es) s)))
    by_test false t rest = rw (tied n e.0 ∙ t) (eqb-false e.0 n t, rest)

module _ {A : Type 0} where
  some_is : (o : Option A) → IsSome o → (a : A) × (o ≡ Some a)
  some_is None h = cc
  some_is (Some a) h = (a, refl)

  -- a slot of a key that is vacant in f
  not_vacant : (f : ℕ → Option A) (key k : ℕ) → f key ≡ None → IsSome (f k) → k ≢ key
  not_vacant f key k none some e = let both = sym (ap f e ∙ none) in let taken : IsSome {T = A} None = subst (λ (o : Option A). IsSome o) (sym both) some in cc

module _ {L : Type 0} where
  filed_is : (o : Option (Arrival L)) (n : ℕ) → number_in o ≡ Some n → (a : Arrival L) × (o ≡ Some a) × (a.number ≡ n)
  filed_is None n h = cc
  filed_is (Some a) n h = let same : a.number ≡ n = cc in (a, refl, same)

  is_taken : (o : Option (Arrival L)) (n : ℕ) → number_in o ≡ Some n → IsSome o
  is_taken None n h = cc
  is_taken (Some a) n h = refl

  module _ (f : ℕ → Option (Arrival L)) where
    picked-first : (e : ℕ × ℕ) (es : List (ℕ × ℕ)) (a : Arrival L) → f e.1 ≡ Some a → picked f (values_of (e ∷ es)) ≡ a ∷ picked f (values_of es)
    picked-first e es a is = ap (λ o. option_to_list o ++ picked f (values_of es)) is

    -- each key has something
    pub all_taken : (es : List (ℕ × ℕ)) → AreFiled f es → AllByRecursion (λ key. IsSome (f key)) (values_of es)
    all_taken [] h = tt
    all_taken (e ∷ es) h = (is_taken (f e.1) e.0 h.0, all_taken es h.1)

    -- the transaction of a number is what the key of the number has
    pub find-filed : (n : ℕ) (es : List (ℕ × ℕ)) → AreFiled f es → find (has_number n) (picked f (values_of es)) ≡ option_and_then f (lookup (is_at (nat_cmp n)) es)
    find-filed n [] h = refl
    find-filed n (e ∷ es) h = by_test (e.0 == n) refl (find-filed n es h.1)
      where
        by_test : (b : Bool) → (e.0 == n) ≡ b → find (has_number n) (picked f (values_of es)) ≡ option_and_then f (lookup (is_at (nat_cmp n)) es)
            → find (has_number n) (picked f (values_of (e ∷ es))) ≡ option_and_then f (lookup (is_at (nat_cmp n)) (e ∷ es))
        by_test true t rest =
            let filed = filed_is (f e.1) e.0 h.0 in
            ap (find (has_number n)) (picked-first e es filed.0 filed.1) ∙ ap (λ b. cond b (Some filed.0) (find (has_number n) (picked f (values_of es)))) (ap (λ k. k == n) filed.2 ∙ t)
            ∙ sym filed.1 ∙ sym (ap (λ b. option_and_then f (cond b (Some e.1) (lookup (is_at (nat_cmp n)) es))) (tied n e.0 ∙ t))
        by_test false t rest =
            let filed = filed_is (f e.1) e.0 h.0 in
            ap (find (has_number n)) (picked-first e es filed.0 filed.1) ∙ ap (λ b. cond b (Some filed.0) (find (has_number n) (picked f (values_of es)))) (ap (λ k. k == n) filed.2 ∙ t)
            ∙ rest ∙ sym (ap (λ b. option_and_then f (cond b (Some e.1) (lookup (is_at (nat_cmp n)) es))) (tied n e.0 ∙ t))

    -- what the key of a number has is of the number
    lookup-filed : (n key : ℕ) (es : List (ℕ × ℕ)) → AreFiled f es → lookup (is_at (nat_cmp n)) es ≡ Some key → number_in (f key) ≡ Some n
    lookup-filed n key [] h is = cc
    lookup-filed n key (e ∷ es) h is = by_test (e.0 == n) refl (lookup-filed n key es h.1)
      where
        by_test : (b : Bool) → (e.0 == n) ≡ b → (lookup (is_at (nat_cmp n)) es ≡ Some key → number_in (f key) ≡ Some n) → number_in (f key) ≡ Some n
        by_test true t rest =
            let here : e.1 ≡ key = cc (sym (ap (λ b. cond b (Some e.1) (lookup (is_at (nat_cmp n)) es)) (tied n e.0 ∙ t)) ∙ is) in
            subst (λ k. number_in (f k) ≡ Some n) here (h.0 ∙ ap Some (eqb-true e.0 n t))
        by_test false t rest = rest (sym (ap (λ b. cond b (Some e.1) (lookup (is_at (nat_cmp n)) es)) (tied n e.0 ∙ t)) ∙ is)

    -- numbers that differ from one have other keys
    keys_apart : (n key : ℕ) (es : List (ℕ × ℕ)) → number_in (f key) ≡ Some n → AreFiled f es → AllByRecursion (λ k. k ≢ n) (keys_of es) → AllByRecursion (λ k. k ≢ key) (values_of es)
    keys_apart n key [] is h apart = tt
    keys_apart n key (e ∷ es) is h apart = ((λ same. apart.0 (clash same)), keys_apart n key es is h.1 apart.1)
      where
        clash : e.1 ≡ key → e.0 ≡ n
        clash same = let both : Some e.0 ≡ Some n = sym h.0 ∙ (ap (λ k. number_in (f k)) same ∙ is) in cc

    AreFiled-rest : (n : ℕ) (es : List (ℕ × ℕ)) → AreFiled f es → AreFiled f (remove_entry (is_at (nat_cmp n)) es)
    AreFiled-rest n [] h = tt
    AreFiled-rest n (e ∷ es) h = by_test (is_at (nat_cmp n) e.0) refl (AreFiled-rest n es h.1)
      where
        by_test : (b : Bool) → is_at (nat_cmp n) e.0 ≡ b → AreFiled f (remove_entry (is_at (nat_cmp n)) es) → AreFiled f (remove_entry (is_at (nat_cmp n)) (e ∷ es))
        by_test true t rest = rw t h.1
        by_test false t rest = rw t (h.0, rest)

    -- without the entry of a number its transaction is not picked
    pub picked-rest : (n : ℕ) (es : List (ℕ × ℕ)) → AreFiled f es → picked f (values_of (remove_entry (is_at (nat_cmp n)) es)) ≡ without_first (has_number n) (picked f (values_of es))
    picked-rest n [] h = refl
    picked-rest n (e ∷ es) h = by_test (e.0 == n) refl (picked-rest n es h.1)
      where
        by_test : (b : Bool) → (e.0 == n) ≡ b → picked f (values_of (remove_entry (is_at (nat_cmp n)) es)) ≡ without_first (has_number n) (picked f (values_of es))
            → picked f (values_of (remove_entry (is_at (nat_cmp n)) (e ∷ es))) ≡ without_first (has_number n) (picked f (values_of (e ∷ es)))
        by_test true t rest =
            let filed = filed_is (f e.1) e.0 h.0 in
            ap (λ b. picked f (values_of (cond b es (e ∷ remove_entry (is_at (nat_cmp n)) es)))) (tied n e.0 ∙ t)
            ∙ sym (ap (without_first (has_number n)) (picked-first e es filed.0 filed.1) ∙ ap (λ b. cond b (picked f (values_of es)) (filed.0 ∷ without_first (has_number n) (picked f (values_of es)))) (ap (λ k. k == n) filed.2 ∙ t))
        by_test false t rest =
            let filed = filed_is (f e.1) e.0 h.0 in
            ap (λ b. picked f (values_of (cond b es (e ∷ remove_entry (is_at (nat_cmp n)) es)))) (tied n e.0 ∙ t)
            ∙ picked-first e (remove_entry (is_at (nat_cmp n)) es) filed.0 filed.1 ∙ ap (λ xs. filed.0 ∷ xs) rest
            ∙ sym (ap (without_first (has_number n)) (picked-first e es filed.0 filed.1) ∙ ap (λ b. cond b (picked f (values_of es)) (filed.0 ∷ without_first (has_number n) (picked f (values_of es)))) (ap (λ k. k == n) filed.2 ∙ t))

    vacant_apart : (key : ℕ) (es : List (ℕ × ℕ)) → f key ≡ None → AreFiled f es → AllByRecursion (λ k. k ≢ key) (values_of es)
    vacant_apart key [] none h = tt
    vacant_apart key (e ∷ es) none h = (not_vacant f key e.1 none (is_taken (f e.1) e.0 h.0), vacant_apart key es none h.1)

    -- numbers below one, as the transactions have them
    all_below : (n : ℕ) (es : List (ℕ × ℕ)) → AreFiled f es → AllByRecursion (λ a. a.number < n) (picked f (values_of es)) → AllByRecursion (λ e. e.0 < n) es
    all_below n [] h below = tt
    all_below n (e ∷ es) h below =
        let filed = filed_is (f e.1) e.0 h.0 in
        let all = subst (λ (list : List (Arrival L)). AllByRecursion (λ a. a.number < n) list) (picked-first e es filed.0 filed.1) below in
        (subst (λ k. k < n) filed.2 all.0, all_below n es h.1 all.1)

    -- numbers that rise have keys that differ
    pub distinct_keys : (es : List (ℕ × ℕ)) → AreFiled f es → IsStrictlySortedBy nat_cmp (keys_of es) → IsDistinct nat_eq (values_of es)
    distinct_keys [] h s = distinct_nil
    distinct_keys (e ∷ es) h s =
        IsDistinct-cons nat_eq e.1 (values_of es)
        (tests (values_of es) (keys_apart e.0 e.1 es h.0 h.1 (later_differ e.0 (keys_of es) (sorted_head nat_cmp e.0 (keys_of es) s))))
        (distinct_keys es h.1 (sorted_tail nat_cmp e.0 (keys_of es) s))
      where
        tests : (ks : List ℕ) → AllByRecursion (λ k. k ≢ e.1) ks → AllByRecursion (λ k. nat_eq e.1 k ≡ false) ks
        tests [] apart = tt
        tests (k ∷ ks) apart = (ne_eqb e.1 k (λ same. apart.0 (sym same)), tests ks apart.1)

  module _ (f g : ℕ → Option (Arrival L)) (key : ℕ) (others : (other : ℕ) → other ≢ key → g other ≡ f other) where
    filed_kept : (es : List (ℕ × ℕ)) → AllByRecursion (λ k. k ≢ key) (values_of es) → AreFiled f es → AreFiled g es
    filed_kept [] apart h = tt
    filed_kept (e ∷ es) apart h = (ap number_in (others e.1 apart.0) ∙ h.0, filed_kept es apart.1 h.1)

    filed_snoc : (n : ℕ) (es : List (ℕ × ℕ)) → AreFiled g es → number_in (g key) ≡ Some n → AreFiled g (es ++ (n, key) ∷ [])
    filed_snoc n [] h is = (is, tt)
    filed_snoc n (e ∷ es) h is = (h.0, filed_snoc n es h.1 is)

    rest_apart : (n : ℕ) (es : List (ℕ × ℕ)) → lookup (is_at (nat_cmp n)) es ≡ Some key → AreFiled f es → IsStrictlySortedBy nat_cmp (keys_of es) → AllByRecursion (λ k. k ≢ key) (values_of (remove_entry (is_at (nat_cmp n)) es))
    rest_apart n es is h s = keys_apart f n key _ (lookup-filed f n key es h is) (AreFiled-rest f n es h) (gone_apart n es s)

    -- the transaction of a number goes, and its key with it
    pub AreFiled-remove : (n : ℕ) (es : List (ℕ × ℕ)) → lookup (is_at (nat_cmp n)) es ≡ Some key → AreFiled f es → IsStrictlySortedBy nat_cmp (keys_of es) → AreFiled g (remove_entry (is_at (nat_cmp n)) es)
    AreFiled-remove n es is h s = filed_kept _ (rest_apart n es is h s) (AreFiled-rest f n es h)

    pub picked-remove : (n : ℕ) (es : List (ℕ × ℕ)) → lookup (is_at (nat_cmp n)) es ≡ Some key → AreFiled f es → IsStrictlySortedBy nat_cmp (keys_of es)
        → picked g (values_of (remove_entry (is_at (nat_cmp n)) es)) ≡ without_first (has_number n) (picked f (values_of es))
    picked-remove n es is h s = picked-same f g _ (kept_of f g key others _ (rest_apart n es is h s)) ∙ picked-rest f n es h

  -- a key that was vacant takes a transaction, whose number is above all others
  filed_more : (f g : ℕ → Option (Arrival L)) (key : ℕ) (a : Arrival L) (es : List (ℕ × ℕ)) → ((other : ℕ) → other ≢ key → g other ≡ f other) → f key ≡ None → g key ≡ Some a → AreFiled f es
      → AllByRecursion (λ earlier. earlier.number < a.number) (picked f (values_of es))
      → AreFiled g (insert_entry nat_cmp es a.number key) × (picked g (values_of (insert_entry nat_cmp es a.number key)) ≡ picked f (values_of es) ++ a ∷ [])
  filed_more f g key a es others none some h below =
      let last = insert-last es a.number key (all_below f a.number es h below) in
      let apart = vacant_apart f key es none h in (
        subst (λ (list : List (ℕ × ℕ)). AreFiled g list) (sym last) (filed_snoc f g key others a.number es (filed_kept f g key others es apart h) (ap number_in some)),
        ap (λ list. picked g (values_of list)) last ∙ ap (picked g) (map-append (λ (e : ℕ × ℕ). e.1) es ((a.number, key) ∷ [])) ∙ picked-snoc g (values_of es) key a some
            ∙ ap (λ xs. xs ++ a ∷ []) (picked-same f g (values_of es) (kept_of f g key others (values_of es) apart)),
      )

  -- the same of a slab with room, and of keys that a map has then
  pub filed_push : (slots reserved new : Slab (Arrival L)) (key vacant number : ℕ) (a : Arrival L) (es entries : List (ℕ × ℕ)) → reserved ≡ record slots { capacity = reserved.capacity }
      → key ≡ reserved.vacant_key → vacant ≡ reserved.vacant_key → get reserved key ≡ None → Updates reserved new key (Some a) → number ≡ a.number → entries ≡ insert_entry nat_cmp es number vacant
      → AreFiled (get slots) es → AllByRecursion (λ earlier. earlier.number < a.number) (picked (get slots) (values_of es))
      → AreFiled (get new) entries × (picked (get new) (values_of entries) ≡ picked (get slots) (values_of es) ++ a ∷ [])
  filed_push slots reserved new key vacant number a es entries kept is told none updates numbered put h below =
      let same = λ (k : ℕ). ap (λ (s : Slab (Arrival L)). get s k) kept in
      let all = put ∙ ap (λ n. insert_entry nat_cmp es n vacant) numbered ∙ ap (λ k. insert_entry nat_cmp es a.number k) (told ∙ sym is) in
      let more = filed_more (get slots) (get new) key a es (λ other apart. updates.others other apart ∙ same other) (sym (same key) ∙ none) updates.changed h below in
      (subst (λ (list : List (ℕ × ℕ)). AreFiled (get new) list) (sym all) more.0, ap (λ list. picked (get new) (values_of list)) all ∙ more.1)

  -- looks leave each number its key
  pub AreFiled-looked : {E R C : Type 0} (lease : Ghosts L E R C) (f g : ℕ → Option (Arrival L)) (es : List (ℕ × ℕ)) → ((key : ℕ) → IsSome (f key) → IsSome (g key))
      → AllZip (IsLookedArrival lease) (picked f (values_of es)) (picked g (values_of es)) → AreFiled f es → AreFiled g es
  AreFiled-looked lease f g [] kept all h = tt
  AreFiled-looked lease f g (e ∷ es) kept all h =
      let filed = filed_is (f e.1) e.0 h.0 in
      let there = some_is (g e.1) (kept e.1 (is_taken (f e.1) e.0 h.0)) in
      let zipped = subst (λ (list : List (Arrival L)). AllZip (IsLookedArrival lease) list (there.0 ∷ picked g (values_of es))) (picked-first f e es filed.0 filed.1)
      (subst (λ (list : List (Arrival L)). AllZip (IsLookedArrival lease) (picked f (values_of (e ∷ es))) list) (picked-first g e es there.0 there.1) all) in
      (ap number_in there.1 ∙ ap Some (zipped.0.number ∙ filed.2), AreFiled-looked lease f g es kept zipped.1 h.1)
