-- What arrived, was looked at and decided is one vsync.
use Rattle.std.proofs.Common.{◌≡◌, ℕ, ◌+◌, ◌<◌, ◌≤◌, Bool, true, false, List, [], ◌∷◌, ◌++◌, map, get_or, refl, sym, ◌∙◌, subst, append_assoc, arith}
use Rattle.std.specs.Prelude.{◌==◌}
use Rattle.std.specs.List.{All, AllZip}
use Rattle.std.proofs.lemmas.Bool.{eqb-true, eq-eqb}
use Rattle.std.proofs.lemmas.List.{append-nil}
use Rattle.std.proofs.lemmas.List.Elements.{All-cons, All-nil}
use Rattle.sf_commit_next.specs.sf_token.Loads.{IsLookedArrival, looks_at, looks_of}
use Rattle.sf_commit_next.specs.sf_token.Pending.{Arrival, IsRisingFrom, QueuesOf}
use Rattle.sf_commit_next.specs.sf_token.declared.looks.Looks.{Looks}
use Rattle.sf_commit_next.specs.sf_txn.declared.lease.Lease.{Ghosts}
use Rattle.sf_commit_next.specs.Next.{AreRising, IsLookedAt, drawn_for}
use Rattle.sf_commit.specs.Handlers.{last_of}

module _ {L : Type 0} where
  pub lower : (less before last : ℕ) (xs : List (Arrival L)) → less ≤ before → IsRisingFrom before xs last → IsRisingFrom less xs last
  lower less before last [] l h = omega (arith, l, h)
  lower less before last (x ∷ xs) l h = (omega (arith, l, h.0), h.1)

  -- what arrives later rises behind what waits
  pub rising_append : (before last end : ℕ) (xs ys : List (Arrival L)) → IsRisingFrom before xs last → IsRisingFrom last ys end → IsRisingFrom before (xs ++ ys) end
  rising_append before last end [] ys h k = lower before last end ys h k
  rising_append before last end (x ∷ xs) ys h k = (h.0, rising_append x.number last end xs ys h.1 k)

  beyond : (before last : ℕ) (xs : List (Arrival L)) → IsRisingFrom before xs last → All (λ (a : Arrival L). before < a.number) xs
  beyond before last [] h = All-nil (λ (a : Arrival L). before < a.number)
  beyond before last (x ∷ xs) h =
      All-cons (λ (a : Arrival L). before < a.number) x xs h.0 (λ k d lt. let more = beyond x.number last xs h.1 k d lt in omega (arith, h.0, more))

module _ {L E R C : Type 0} (lease : Ghosts L E R C) where
  -- looks keep the numbers
  pub rising_looked : (before last : ℕ) (xs ys : List (Arrival L)) → AllZip (IsLookedArrival lease) xs ys → IsRisingFrom before xs last → IsRisingFrom before ys last
  rising_looked before last [] [] zip h = h
  rising_looked before last [] (y ∷ ys) zip h = absurd zip
  rising_looked before last (x ∷ xs) [] zip h = absurd zip
  rising_looked before last (x ∷ xs) (y ∷ ys) zip h = (
    subst (λ n. before < n) (sym zip.0.number) h.0,
    rising_looked y.number last xs ys zip.1 (subst (λ n. IsRisingFrom n xs last) (sym zip.0.number) h.1),
  )

  one_more : (x a : Arrival L) (looks : List Looks) → x.number < a.number → IsLookedAt lease.shown looks a → IsLookedAt lease.shown (looks_at lease x ∷ looks) a
  one_more x a looks less is = record { same = by_test (x.number == a.number) refl }
    where
      by_test : (b : Bool) → (x.number == a.number) ≡ b → drawn_for (looks_at lease x ∷ looks) a.number ≡ map (λ buffer. lease.shown buffer.lease) a.txn.buffers
      by_test true e = absurd (omega (arith, less, eqb-true x.number a.number e))
      by_test false e = rw e is.same

  -- looks at transactions whose numbers rise have rising numbers
  pub looks_rise : (before last : ℕ) (pending : List (Arrival L)) → IsRisingFrom before pending last → AreRising before (looks_of lease pending)
  looks_rise before last [] h = tt
  looks_rise before last (x ∷ xs) h = (h.0, looks_rise x.number last xs h.1)

  -- the looks at transactions whose numbers rise are found by their numbers
  pub looked_all : (before last : ℕ) (pending : List (Arrival L)) → IsRisingFrom before pending last → All (IsLookedAt lease.shown (looks_of lease pending)) pending
  looked_all before last [] h = All-nil (IsLookedAt lease.shown [])
  looked_all before last (x ∷ xs) h =
      All-cons (IsLookedAt lease.shown (looks_of lease (x ∷ xs))) x xs (record { same = rw (eq-eqb x.number x.number refl) refl })
      (λ k d lt. one_more x (get_or xs k d) (looks_of lease xs) (beyond x.number last xs h.1 k d lt) (looked_all x.number last xs h.1 k d lt))

module _ {L : Type 0} where
  -- what waits after some of what arrived was received, and what of it is left
  pub record Received (old : QueuesOf L) (arrived : List (Arrival L)) (now : QueuesOf L) (rest : List (Arrival L)) : Type 0 where
    pub pending : now.pending ++ rest ≡ old.pending ++ arrived
    pub last : last_of now.last rest ≡ last_of old.last arrived
    pub rising : IsRisingFrom now.last rest (last_of now.last rest)

  pub received_none : (old : QueuesOf L) (arrived rest : List (Arrival L)) → rest ≡ arrived → IsRisingFrom old.last arrived (last_of old.last arrived) → Received old arrived old rest
  received_none old arrived rest same rising = subst (Received old arrived old) (sym same) (record { pending = refl; last = refl; rising = rising })

  pub received_above : (old : QueuesOf L) (arrived : List (Arrival L)) (now : QueuesOf L) (before : List (Arrival L)) (one : Arrival L) (rest : List (Arrival L)) → before ≡ one ∷ rest
      → Received old arrived now before → now.last < one.number
  received_above old arrived now before one rest steps so =
      let at : Received old arrived now (one ∷ rest) = subst (Received old arrived now) steps so in
      at.rising.0

  pub received_more : (old : QueuesOf L) (arrived : List (Arrival L)) (now next : QueuesOf L) (before : List (Arrival L)) (one : Arrival L) (rest : List (Arrival L)) → before ≡ one ∷ rest
      → next ≡ record { pending = now.pending ++ one ∷ []; last = one.number } → Received old arrived now before → Received old arrived next rest
  received_more old arrived now next before one rest steps pushed so =
      let at : Received old arrived now (one ∷ rest) = subst (Received old arrived now) steps so in
      subst (λ (q : QueuesOf L). Received old arrived q rest) (sym pushed)
      (record { pending = append_assoc now.pending (one ∷ []) rest ∙ at.pending; last = at.last; rising = at.rising.1 })

  pub received_all : (old : QueuesOf L) (arrived : List (Arrival L)) (now : QueuesOf L) (rest : List (Arrival L)) → rest ≡ [] → Received old arrived now rest
      → now ≡ record { pending = old.pending ++ arrived; last = last_of old.last arrived }
  received_all old arrived now rest none so =
      let at : Received old arrived now [] = subst (Received old arrived now) none so in
      let pending : now.pending ≡ old.pending ++ arrived = sym (append-nil now.pending) ∙ at.pending in
      λ i. record { pending = pending i; last = at.last i }
