-- Looks at what the keys of slots have, one after another.
use Rattle.std.proofs.Common.{◌≡◌, ◌≢◌, ◌∙◌, sym, ap, subst, ℕ, false, List, [], ◌∷◌, ◌++◌, arith, map, Option, Some, None, IsSome, refl, nat_eq, inl, inr, append-nil}
use borrow.Author.Tests.{eqb-false}
use Rattle.std.specs.List.{All, AllByRecursion, AllZip, IsDistinct}
use Rattle.std.specs.Option.{option_to_list}
use Rattle.std.proofs.lemmas.Bool.{cases_eq}
use Rattle.std.proofs.lemmas.List.{map-append}
use Rattle.std.proofs.lemmas.List.Elements.{All-head, All-push, All-tail, All-weaker}
use Rattle.std.proofs.lemmas.Map.Keys.{IsDistinct-head, IsDistinct-tail}
use Rattle.std.proofs.lemmas.Slice.Zip.{all_zipped_more}
use Rattle.sf_txn.specs.Buffers.{Buffer}
use Rattle.sf_txn.specs.Leases.{IsEyeAfter, IsShownTo}
use Rattle.sf_txn.specs.declared.lease.Lease.{Ghosts}
use Rattle.sf_txn.proofs.BufferLooks.{eye_then, shown_earlier, shown_later}
use Rattle.sf_token.specs.Loads.{AllLeases, IsLookedArrival, looks_at, looks_of}
use Rattle.sf_token.specs.Pending.{Arrival, IsRisingFrom}
use Rattle.sf_token.specs.inner.Rooms.{AreLooked, Fits, IsLookedSlot}
use Rattle.sf_token.specs.Slots.{picked}
use Rattle.sf_token.specs.declared.looking.Room.{Room}
use Rattle.sf_token.specs.declared.looks.Looks.{Looks}
use Rattle.sf_token.proofs.SlotLemmas.{each_apart, kept_of, picked-same, picked-snoc}

all_at : (P : ℕ → Type 0) (done : List ℕ) (key : ℕ) (left : List ℕ) → AllByRecursion P (done ++ key ∷ left) → P key
all_at P [] key left h = h.0
all_at P (k ∷ done) key left h = all_at P done key left h.1

-- no key before or after one of distinct keys is that one
pub apart_at : (done : List ℕ) (key : ℕ) (left : List ℕ) → IsDistinct nat_eq (done ++ key ∷ left) → AllByRecursion (λ k. k ≢ key) done × AllByRecursion (λ k. k ≢ key) left
apart_at [] key left d = (tt, each_apart key left (IsDistinct-head nat_eq key left d))
apart_at (k ∷ done) key left d =
    let rest = apart_at done key left (IsDistinct-tail nat_eq k (done ++ key ∷ left) d) in
    let apart = all_at (λ y. nat_eq k y ≡ false) done key left (IsDistinct-head nat_eq k (done ++ key ∷ left) d) in
    ((eqb-false k key apart, rest.0), rest.1)

-- the keys that are left have what they had before one of another key changed
pub same_left : {A : Type 0} (f g h : ℕ → Option A) (key : ℕ) → ((other : ℕ) → other ≢ key → h other ≡ g other) → (rooms : List Room) → AllByRecursion (λ k. k ≢ key) (map (λ (room : Room). room.key) rooms) → AllByRecursion (λ (room : Room). g room.key ≡ f room.key) rooms → AllByRecursion (λ (room : Room). h room.key ≡ f room.key) rooms
same_left f g h key others [] apart same = tt
same_left f g h key others (room ∷ rooms) apart same = (others room.key apart.0 ∙ same.0, same_left f g h key others rooms apart.1 same.1)

pub same_all : {A : Type 0} (f : ℕ → Option A) (rooms : List Room) → AllByRecursion (λ (room : Room). f room.key ≡ f room.key) rooms
same_all f [] = tt
same_all f (room ∷ rooms) = (refl, same_all f rooms)

-- what fits each pending transaction fits what each key has
pub fits_rooms : {L : Type 0} (P : L → Type 0) (f : ℕ → Option (Arrival L)) (rooms : List Room) → AllLeases P (picked f (map (λ (room : Room). room.key) rooms)) → AllByRecursion (λ (room : Room). Fits P (f room.key)) rooms
fits_rooms P f [] all = tt
fits_rooms {L} P f (room ∷ rooms) all = by_slot (f room.key) refl (fits_rooms P f rooms)
  where
    keys : List ℕ
    keys = map (λ (r : Room). r.key) rooms

    by_slot : (o : Option (Arrival L)) → f room.key ≡ o → (AllLeases P (picked f keys) → AllByRecursion (λ (r : Room). Fits P (f r.key)) rooms) → AllByRecursion (λ (r : Room). Fits P (f r.key)) (room ∷ rooms)
    by_slot None e rest = (subst (λ (o : Option (Arrival L)). Fits P o) (sym e) tt, rest (subst (λ (o : Option (Arrival L)). AllLeases P (option_to_list o ++ picked f keys)) e all))
    by_slot (Some arrived) e rest =
        let each : AllLeases P (arrived ∷ picked f keys) = subst (λ (o : Option (Arrival L)). AllLeases P (option_to_list o ++ picked f keys)) e all in
        (subst (λ (o : Option (Arrival L)). Fits P o) (sym e) (All-head (λ (a : Arrival L). Fits P (Some a)) arrived (picked f keys) each), rest (All-tail (λ (a : Arrival L). Fits P (Some a)) arrived (picked f keys) each))

module _ {L E R C : Type 0} (lease : Ghosts L E R C) where
  all_later : (a b c : E) (arrived : Arrival L) → IsEyeAfter lease b c [] → All (λ buffer. IsShownTo lease a b buffer.lease) arrived.txn.buffers → All (λ buffer. IsShownTo lease a c buffer.lease) arrived.txn.buffers
  all_later a b c arrived q all = All-weaker (λ (buffer : Buffer L). IsShownTo lease a b buffer.lease) (λ buffer. IsShownTo lease a c buffer.lease) (λ buffer s. shown_later lease a b c buffer.lease q s) arrived.txn.buffers all

  all_earlier : (a b c : E) (arrived : Arrival L) → IsEyeAfter lease a b [] → All (λ buffer. IsShownTo lease b c buffer.lease) arrived.txn.buffers → All (λ buffer. IsShownTo lease a c buffer.lease) arrived.txn.buffers
  all_earlier a b c arrived p all = All-weaker (λ (buffer : Buffer L). IsShownTo lease b c buffer.lease) (λ buffer. IsShownTo lease a c buffer.lease) (λ buffer s. shown_earlier lease a b c buffer.lease p s) arrived.txn.buffers all

  -- nothing was looked at yet
  pub AreLooked-nil : (eye : E) (f : ℕ → Option (Arrival L)) → AreLooked lease eye eye f f [] []
  AreLooked-nil eye f = record {
    looked = tt;
    told = λ i d within. absurd (omega (arith, within));
    told_by = refl;
    kept = λ key some. some;
    eye = record { mark = refl; ends = sym (append-nil (lease.ends eye)); keeps = λ l h. h };
  }

  -- what one key more has was looked at
  pub AreLooked-more : (before mid after : E) (f g h : ℕ → Option (Arrival L)) (done : List ℕ) (key : ℕ) (list : List Looks) (looks : Looks) → AllByRecursion (λ k. k ≢ key) done → g key ≡ f key → AreLooked lease before mid f g done list → IsLookedSlot lease mid after (g key) (h key) looks → ((other : ℕ) → other ≢ key → h other ≡ g other) → IsEyeAfter lease mid after [] → AreLooked lease before after f h (done ++ key ∷ []) (list ++ looks ∷ [])
  AreLooked-more before mid after f g h done key list looks apart same d s others eye = record {
    looked = rw (picked_old, picked_new) (all_zipped_more (IsLookedArrival lease) (picked f done) (picked g done) s.from s.to d.looked s.looked);
    told = rw picked_new (All-push (λ arrived. All (λ buffer. IsShownTo lease before after buffer.lease) arrived.txn.buffers) (picked g done) s.to
        (All-weaker (λ arrived. All (λ buffer. IsShownTo lease before mid buffer.lease) arrived.txn.buffers) (λ arrived. All (λ buffer. IsShownTo lease before after buffer.lease) arrived.txn.buffers) (λ arrived all. all_later before mid after arrived eye all) (picked g done) d.told)
        (all_earlier before mid after s.to d.eye s.told));
    told_by = rw (picked_new, map-append (looks_at lease) (picked g done) (s.to ∷ [])) (ap (λ xs. xs ++ looks ∷ []) d.told_by ∙ ap (λ x. looks_of lease (picked g done) ++ x ∷ []) s.told_by);
    kept = λ k some. elim (cases_eq k key) [
      | inl equal ↦ subst (λ n. IsSome (h n)) (sym equal) (subst (λ (o : Option (Arrival L)). IsSome o) (sym s.has) refl)
      | inr differs ↦ subst (λ (o : Option (Arrival L)). IsSome o) (sym (others k differs)) (d.kept k some)
    ];
    eye = eye_then lease before mid after d.eye eye;
  }
    where
      picked_old : picked f (done ++ key ∷ []) ≡ picked f done ++ s.from ∷ []
      picked_old = picked-snoc f done key s.from (sym same ∙ s.had)

      picked_new : picked h (done ++ key ∷ []) ≡ picked g done ++ s.to ∷ []
      picked_new = picked-snoc h done key s.to s.has ∙ ap (λ xs. xs ++ s.to ∷ []) (picked-same g h done (kept_of g h key others done apart))

  -- looks leave the numbers rising
  pub rising-looked : (before last : ℕ) (old new : List (Arrival L)) → AllZip (IsLookedArrival lease) old new → IsRisingFrom before old last → IsRisingFrom before new last
  rising-looked before last [] [] all h = h
  rising-looked before last [] (y ∷ ys) all h = absurd all
  rising-looked before last (x ∷ xs) [] all h = absurd all
  rising-looked before last (x ∷ xs) (y ∷ ys) all h = rw all.0.number (h.0, rising-looked x.number last xs ys all.1 h.1)
