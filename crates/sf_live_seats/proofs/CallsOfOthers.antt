-- Histories that go on without a call of one caller, with stamps and without them.
use Rattle.std.proofs.Common.{◌≡◌, ℕ, ◌+◌, ◌==◌, false, List, [], ◌∷◌, ◌++◌, inl, inr, length, arith, ap, ◌∙◌, sym, refl, subst}
use Rattle.std.specs.List.{list_any}
use Rattle.std.proofs.lemmas.Bool.{cases_Bool, eq-eqb}
use Rattle.std.proofs.lemmas.List.{append-nil, length-append, nil_from_length}
use Rattle.std.proofs.lemmas.List.Folds.{list_any-append}
use Rattle.sf_calls.specs.Histories.{Begins, GoesOnWithout, calls_by}
use Rattle.sf_calls.specs.declared.object.Entry.{Entry}
use Rattle.sf_calls_stamped.specs.Stamps.{unstamp, unstamped}
use Rattle.sf_actor.specs.sf_surface.Tokens.{ReadLeaseOf}
use Rattle.sf_intake.specs.sf_token.Arrivals.{arrival, sent}
use Rattle.sf_intake.specs.sf_token.Pending.{Arrival}
use Rattle.sf_intake.specs.sf_token.declared.arrivals.ArriveCall.TheVariants as arrive
use Rattle.sf_actor.specs.Known.{ArriveWithout, is_sent_by}
use Rattle.sf_live_seats.specs.Arriving.{Arrived, Arriving}

assoc : {X : Type 0} (xs ys zs : List X) → (xs ++ ys) ++ zs ≡ xs ++ (ys ++ zs)
assoc [] ys zs = refl
assoc (x ∷ xs) ys zs = ap (λ rest. x ∷ rest) (assoc xs ys zs)

module _ {C R : Type 0} where
  pub calls_joined : (by : ℕ) (more xs : List (Entry C R)) → calls_by by (more ++ xs) ≡ calls_by by more ++ calls_by by xs
  calls_joined by [] xs = refl
  calls_joined by (e ∷ more) xs =
      let rest = calls_joined by more xs in
      elim (cases_Bool (e.by == by)) [
        | inl met ↦ rw met (ap (λ (es : List (Entry C R)). e ∷ es) rest)
        | inr unmet ↦ rw unmet rest
      ]

  -- where a caller has as many calls as before, none of the later ones is its
  pub none_later : (by : ℕ) (more xs : List (Entry C R)) → calls_by by (more ++ xs) ≡ calls_by by xs → calls_by by more ≡ []
  none_later by more xs same =
      let joined = ap (λ (es : List (Entry C R)). length es) (sym (calls_joined by more xs) ∙ same) in
      let sum = length-append (calls_by by more) (calls_by by xs) in
      nil_from_length (calls_by by more) (omega (arith, joined, sum))

  own_call : (by : ℕ) (e : Entry C R) (earlier : List (Entry C R)) → e.by ≡ by → calls_by by (e ∷ earlier) ≡ e ∷ calls_by by earlier
  own_call by e earlier is = rw (eq-eqb e.by by is) refl

  abbrev tail_of : List (Entry C R) → List (Entry C R)
  tail_of [] = []
  tail_of (e ∷ earlier) = earlier

  -- the calls before the newest one, where that is the caller's only new one
  pub before_newest : (by : ℕ) (old new earlier : List (Entry C R)) (e : Entry C R) → e.by ≡ by → new ≡ e ∷ earlier → Begins old new → calls_by by new ≡ e ∷ calls_by by old → GoesOnWithout by old earlier
  before_newest by old new earlier e is newest begins own = by_more begins.0 begins.1
    where
      same_calls : calls_by by earlier ≡ calls_by by old
      same_calls = ap tail_of (sym (own_call by e earlier is) ∙ ap (calls_by by) (sym newest) ∙ own)

      by_more : (more : List (Entry C R)) → new ≡ more ++ old → GoesOnWithout by old earlier
      by_more [] same =
          let long = ap (λ (es : List (Entry C R)). length es) (sym own ∙ ap (calls_by by) same) in
          absurd (omega (arith, long))
      by_more (x ∷ more) same = record {
        begins = (more, ap tail_of (sym newest ∙ same));
        calls = same_calls;
      }

  unstamped_joined : (more xs : List (Entry (ℕ × C) (ℕ × R))) → unstamped (more ++ xs) ≡ unstamped more ++ unstamped xs
  unstamped_joined [] xs = refl
  unstamped_joined (e ∷ more) xs = ap (λ (es : List (Entry C R)). unstamp e ∷ es) (unstamped_joined more xs)

  pub calls_unstamped : (by : ℕ) (xs : List (Entry (ℕ × C) (ℕ × R))) → calls_by by (unstamped xs) ≡ unstamped (calls_by by xs)
  calls_unstamped by [] = refl
  calls_unstamped by (e ∷ xs) =
      let rest = calls_unstamped by xs in
      elim (cases_Bool (e.by == by)) [
        | inl met ↦ rw met (ap (λ (es : List (Entry C R)). unstamp e ∷ es) rest)
        | inr unmet ↦ rw unmet rest
      ]

  pub goes_unstamped : (by : ℕ) (xs ys : List (Entry (ℕ × C) (ℕ × R))) → GoesOnWithout by xs ys → GoesOnWithout by (unstamped xs) (unstamped ys)
  goes_unstamped by xs ys goes = record {
    begins = (unstamped goes.begins.0, ap unstamped goes.begins.1 ∙ unstamped_joined goes.begins.0 xs);
    calls = calls_unstamped by ys ∙ ap unstamped goes.calls ∙ sym (calls_unstamped by xs);
  }

abbrev Log : Type 0
Log = List (Entry Arriving Arrived)

one_sent : (by number : ℕ) (e : Entry Arriving Arrived) → (e.by == by) ≡ false → list_any (is_sent_by by) (arrival number e) ≡ false
one_sent by number e other = by_call e.call refl
  where
    by_call : (call : Arriving) → e.call ≡ call → list_any (is_sent_by by) (arrival number e) ≡ false
    by_call (arrive.Send step txn) is = rw is (rw other refl)
    by_call arrive.Take is = rw is refl

-- calls of others send nothing of the caller's
sent_later : (by : ℕ) (more xs : Log) → calls_by by more ≡ [] → ArriveWithout by (sent xs) (sent (more ++ xs))
sent_later by [] xs none = record { later = []; joined = sym (append-nil (sent xs)); none = refl }
sent_later by (e ∷ more) xs none = elim (cases_Bool (e.by == by)) [
  | inl met ↦ (let some = rw met at none in absurd (cc))
  | inr unmet ↦ (
      let rest = sent_later by more xs (rw unmet at none) in
      let last = arrival (length (sent (more ++ xs)) + 1) e in
      record {
        later = rest.later ++ last;
        joined = ap (λ (list : List (Arrival ReadLeaseOf)). list ++ last) rest.joined ∙ assoc (sent xs) rest.later last;
        none = list_any-append (is_sent_by by) rest.later last ∙ (rw (rest.none, one_sent by (length (sent (more ++ xs)) + 1) e unmet) refl);
      })
]

pub sent_goes : (by : ℕ) (xs ys : Log) → GoesOnWithout by xs ys → ArriveWithout by (sent xs) (sent ys)
sent_goes by xs ys goes =
    let none = none_later by goes.begins.0 xs (ap (calls_by by) (sym goes.begins.1) ∙ goes.calls) in
    subst (λ (zs : Log). ArriveWithout by (sent xs) (sent zs)) (sym goes.begins.1) (sent_later by goes.begins.0 xs none)
