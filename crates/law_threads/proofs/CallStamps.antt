-- The stamps of calls, by their places.
use Rattle.std.proofs.Common.{◌≡◌, ℕ, suc, ◌<◌, ◌≤◌, ◌==◌, ◌⊎◌, true, false, List, [], ◌∷◌, ◌++◌, arith, ap, ◌∙◌, sym, refl, inl, inr, subst, length, map}
use Rattle.std.specs.Prelude.{Contains}
use Rattle.std.specs.List.{AllByRecursion, AllZip}
use Rattle.std.proofs.lemmas.Bool.{cases_Bool, cases_lt, eq-eqb, eqb-true, false≢true}
use Rattle.std.proofs.lemmas.List.Elements.{Contains-append_left, Contains-append_right}
use Rattle.law_draws.specs.sf_calls.declared.object.Entry.{Entry}
use Rattle.law_draws.specs.sf_calls.Histories.{GoesOnWithout, calls_by}
use Rattle.sf_live_compositor.specs.sf_calls_stamped.Stamps.{StampsRise, newest_stamp, stamp_of, unstamp, unstamped}
use Rattle.sf_live_compositor.specs.sf_live_seats.declared.locks.QueueLock.{QueueLock}
use Rattle.sf_live_compositor.specs.sf_live_seats.Arriving.{ArrivalEntry, Arriving}
use Rattle.sf_live_compositor.specs.sf_live_seats.Seats.{IsPassOf, QueueEntry, QueuePass, calls_known, calls_made, is_at, mark_in, moment, sent_in, takes_in}
use Rattle.law_draws.specs.sf_token.Arrivals.{is_take}
use Rattle.law_draws.specs.sf_token.declared.arrivals.ArriveCall.TheVariants as arrive
use Rattle.law_threads.proofs.Arrivals.{NoTakes}
use Rattle.law_draws.specs.sf_surface.Tokens.{ReadLeaseOf}
use Rattle.law_draws.specs.sf_txn.Transactions.{Contents}
use Rattle.law_draws.proofs.law_played_lemmas.Members.{has_cases, has_here, has_later, has_map}
use Rattle.law_threads.specs.Members.{mine, seen_at, stamp_in}

module _ {C R : Type 0} where
  at_newest : (e : Entry (ℕ × C) (ℕ × R)) (earlier : List (Entry (ℕ × C) (ℕ × R))) → stamp_in (length earlier) (e ∷ earlier) ≡ stamp_of e
  at_newest e earlier = rw (eq-eqb (length earlier) (length earlier) refl) refl

  at_older : (place : ℕ) (e : Entry (ℕ × C) (ℕ × R)) (earlier : List (Entry (ℕ × C) (ℕ × R))) → place < length earlier → stamp_in place (e ∷ earlier) ≡ stamp_in place earlier
  at_older place e earlier low = elim (cases_Bool (length earlier == place)) [
    | inl met ↦ let same = eqb-true (length earlier) place met in absurd (omega (arith, low, same))
    | inr unmet ↦ rw unmet refl
  ]

  pub stamp_there : (more : List (Entry (ℕ × C) (ℕ × R))) (e : Entry (ℕ × C) (ℕ × R)) (earlier : List (Entry (ℕ × C) (ℕ × R))) → stamp_in (length earlier) (more ++ e ∷ earlier) ≡ stamp_of e
  stamp_there [] e earlier = at_newest e earlier
  stamp_there (m ∷ more) e earlier = at_older (length earlier) m (more ++ e ∷ earlier) (longer more) ∙ stamp_there more e earlier
    where
      longer : (more : List (Entry (ℕ × C) (ℕ × R))) → length earlier < length (more ++ e ∷ earlier)
      longer [] = omega arith
      longer (x ∷ more) = let rest = longer more in omega (arith, rest)

  below_newest : (seen : List (Entry (ℕ × C) (ℕ × R))) → StampsRise seen → (place : ℕ) → place < length seen → stamp_in place seen ≤ newest_stamp seen
  below_newest [] rise place low = absurd (omega (arith, low))
  below_newest (e ∷ earlier) rise place low = by_place (below_newest earlier rise.2 place) (cases_lt place (length earlier))
    where
      by_place : (place < length earlier → stamp_in place earlier ≤ newest_stamp earlier) → (place < length earlier) ⊎ (length earlier ≤ place) → stamp_in place (e ∷ earlier) ≤ stamp_of e
      by_place further (inl less) =
          let older = at_older place e earlier less in
          let rest = further less in
          let above = rise.1 in
          omega (arith, older, rest, above)
      by_place further (inr over) =
          let here : place ≡ length earlier = omega (arith, low, over) in
          let same = ap (λ (n : ℕ). stamp_in n (e ∷ earlier)) here ∙ at_newest e earlier in
          omega (arith, same)

  -- stamps rise with places
  pub stamps_rise : (seen : List (Entry (ℕ × C) (ℕ × R))) → StampsRise seen → (early late : ℕ) → early < late → late < length seen → stamp_in early seen < stamp_in late seen
  stamps_rise [] rise early late less low = absurd (omega (arith, low))
  stamps_rise (e ∷ earlier) rise early late less low = by_place (stamps_rise earlier rise.2 early late less) (cases_lt late (length earlier))
    where
      by_place : (late < length earlier → stamp_in early earlier < stamp_in late earlier) → (late < length earlier) ⊎ (length earlier ≤ late) → stamp_in early (e ∷ earlier) < stamp_in late (e ∷ earlier)
      by_place further (inl inside) =
          let a = at_older early e earlier (omega (arith, less, inside)) in
          let b = at_older late e earlier inside in
          let rest = further inside in
          omega (arith, a, b, rest)
      by_place further (inr over) =
          let here : late ≡ length earlier = omega (arith, low, over) in
          let a = at_older early e earlier (omega (arith, less, here)) in
          let b = ap (λ (n : ℕ). stamp_in n (e ∷ earlier)) here ∙ at_newest e earlier in
          let c = below_newest earlier rise.2 early (omega (arith, less, here)) in
          let above = rise.1 in
          omega (arith, a, b, c, above)

  pub unstamped_length : (seen : List (Entry (ℕ × C) (ℕ × R))) → length (unstamped seen) ≡ length seen
  unstamped_length [] = refl
  unstamped_length (e ∷ earlier) = ap suc (unstamped_length earlier)

  -- a call with its stamp
  pub record IsStampedAt (seen : List (Entry (ℕ × C) (ℕ × R))) (made : Entry C R) (earlier : List (Entry C R)) : Type 0 where
    pub more : List (Entry (ℕ × C) (ℕ × R))
    pub e : Entry (ℕ × C) (ℕ × R)
    pub before : List (Entry (ℕ × C) (ℕ × R))
    pub is : seen ≡ more ++ e ∷ before
    pub without : unstamp e ≡ made
    pub height : length before ≡ length earlier

  pub stamped_at : (seen : List (Entry (ℕ × C) (ℕ × R))) (later : List (Entry C R)) (made : Entry C R) (earlier : List (Entry C R)) → unstamped seen ≡ later ++ made ∷ earlier → IsStampedAt seen made earlier
  stamped_at [] [] made earlier same = absurd (cc same)
  stamped_at [] (l ∷ later) made earlier same = absurd (cc same)
  stamped_at (e ∷ seen) [] made earlier same = record {
    more = [];
    e = e;
    before = seen;
    is = refl;
    without = (let it : unstamp e ≡ made = cc in it);
    height = sym (unstamped_length seen) ∙ ap (λ (es : List (Entry C R)). length es) (let it : unstamped seen ≡ earlier = cc in it);
  }
  stamped_at (e ∷ seen) (l ∷ later) made earlier same =
      let rest = stamped_at seen later made earlier (let it : unstamped seen ≡ later ++ made ∷ earlier = cc in it) in
      record { more = e ∷ rest.more; e = rest.e; before = rest.before; is = ap (λ (es : List (Entry (ℕ × C) (ℕ × R))). e ∷ es) rest.is; without = rest.without; height = rest.height }

module _ {C R : Type 0} where
  pub by_there : (by : ℕ) (more : List (Entry C R)) (e : Entry C R) (earlier : List (Entry C R)) → e.by ≡ by → Contains (calls_by by (more ++ e ∷ earlier)) e
  by_there by [] e earlier own = rw (eq-eqb e.by by own) (has_here e (calls_by by earlier))
  by_there by (m ∷ more) e earlier own = by_caller (by_there by more e earlier own)
    where
      by_caller : Contains (calls_by by (more ++ e ∷ earlier)) e → Contains (calls_by by (m ∷ more ++ e ∷ earlier)) e
      by_caller rest = elim (cases_Bool (m.by == by)) [
        | inl met ↦ rw met (has_later m e (calls_by by (more ++ e ∷ earlier)) rest)
        | inr unmet ↦ rw unmet rest
      ]

module _ {B : Type 0} where
  pub known_seen : (queue : ℕ) (passes : List (QueuePass B)) → calls_known passes queue ≡ unstamped (seen_at queue passes)
  known_seen queue [] = refl
  known_seen queue (pass ∷ passes) = elim (cases_Bool (is_at queue pass)) [
    | inl met ↦ rw met refl
    | inr unmet ↦ rw unmet (known_seen queue passes)
  ]

  pub seen_rise : (queue : ℕ) (passes : List (QueuePass B)) → AllByRecursion (λ (pass : QueuePass B). StampsRise pass.seen) passes → StampsRise (seen_at queue passes)
  seen_rise queue [] all = tt
  seen_rise queue (pass ∷ passes) all = elim (cases_Bool (is_at queue pass)) [
    | inl met ↦ rw met all.0
    | inr unmet ↦ rw unmet (seen_rise queue passes all.1)
  ]

  -- passes of the same locks are at the same queues
  same_queue : (queue a b : ℕ) (lock : QueueLock B) (one other : QueuePass B) → IsPassOf a lock one → IsPassOf b lock other → is_at queue one ≡ is_at queue other
  same_queue queue a b lock one other is is_other = ap (λ mark. (mark_in mark).queue.0 == queue) (is.marked ∙ sym is_other.marked)

  -- a caller's call that all know is one that its own passes know
  pub made_there : (queue by a : ℕ) (locks : List (QueueLock B)) (lasts owns : List (QueuePass B)) → AllZip (IsPassOf a) locks lasts → AllZip (IsPassOf by) locks owns
      → AllZip (λ (last own : QueuePass B). GoesOnWithout by own.seen last.seen) lasts owns
      → (more : List (QueueEntry B)) (e : QueueEntry B) (earlier : List (QueueEntry B)) → seen_at queue lasts ≡ more ++ e ∷ earlier → e.by ≡ by → Contains (calls_made by owns) (moment e)
  made_there queue by a [] [] [] of_last of_own goes [] e earlier is own = absurd (cc is)
  made_there queue by a [] [] [] of_last of_own goes (m ∷ more) e earlier is own = absurd (cc is)
  made_there queue by a [] [] (o ∷ owns) of_last of_own goes more e earlier is own = absurd of_own
  made_there queue by a [] (l ∷ lasts) owns of_last of_own goes more e earlier is own = absurd of_last
  made_there queue by a (lock ∷ locks) [] owns of_last of_own goes more e earlier is own = absurd of_last
  made_there queue by a (lock ∷ locks) (last ∷ lasts) [] of_last of_own goes more e earlier is own = absurd of_own
  made_there queue by a (lock ∷ locks) (last ∷ lasts) (mine ∷ owns) of_last of_own goes more e earlier is own =
      by_queue (cases_Bool (is_at queue last)) (made_there queue by a locks lasts owns of_last.1 of_own.1 goes.1 more e earlier)
    where
      by_queue : (is_at queue last ≡ true) ⊎ (is_at queue last ≡ false) → (seen_at queue lasts ≡ more ++ e ∷ earlier → e.by ≡ by → Contains (calls_made by owns) (moment e)) → Contains (calls_made by (mine ∷ owns)) (moment e)
      by_queue (inl met) further =
          let here : last.seen ≡ more ++ e ∷ earlier = rw met at is in
          let there = subst (λ (es : List (QueueEntry B)). Contains es e) goes.0.calls (subst (λ (es : List (QueueEntry B)). Contains (calls_by by es) e) (sym here) (by_there by more e earlier own)) in
          Contains-append_left (map moment (calls_by by mine.seen)) (calls_made by owns) (moment e) (has_map moment (calls_by by mine.seen) e there)
      by_queue (inr unmet) further =
          let later : seen_at queue lasts ≡ more ++ e ∷ earlier = rw unmet at is in
          Contains-append_right (map moment (calls_by by mine.seen)) (calls_made by owns) (moment e) (further later own)

-- what was sent is among what was sent in calls
pub sent_there : (calls : List ArrivalEntry) (e : ArrivalEntry) (step : ℕ) (txn : Contents ReadLeaseOf) → Contains calls e → e.call.1 ≡ arrive.Send step txn → Contains (sent_in calls) (step, stamp_of e)
sent_there [] e step txn there sends = absurd (omega (arith, there.1))
sent_there (c ∷ calls) e step txn there sends = by_place (has_cases c e calls there) (λ (later : Contains calls e). sent_there calls e step txn later sends)
  where
    by_place : (c ≡ e) ⊎ Contains calls e → (Contains calls e → Contains (sent_in calls) (step, stamp_of e)) → Contains (sent_in (c ∷ calls)) (step, stamp_of e)
    by_place (inl same) further = subst (λ (x : ArrivalEntry). Contains (sent_in (x ∷ calls)) (step, stamp_of e)) (sym same)
        (subst (λ (asked : Arriving). Contains (sent_in (record { by = e.by; call = (e.call.0, asked); reply = e.reply } ∷ calls)) (step, stamp_of e)) (sym sends) (has_here (step, stamp_of e) (sent_in calls)))
    by_place (inr later) further = behind c.call.1 refl (further later)
      where
        behind : (asked : Arriving) → c.call.1 ≡ asked → Contains (sent_in calls) (step, stamp_of e) → Contains (sent_in (c ∷ calls)) (step, stamp_of e)
        behind (arrive.Send n other) is rest = subst (λ (a : Arriving). Contains (sent_in (record { by = c.by; call = (c.call.0, a); reply = c.reply } ∷ calls)) (step, stamp_of e)) (sym is) (has_later (n, stamp_of c) (step, stamp_of e) (sent_in calls) rest)
        behind arrive.Take is rest = subst (λ (a : Arriving). Contains (sent_in (record { by = c.by; call = (c.call.0, a); reply = c.reply } ∷ calls)) (step, stamp_of e)) (sym is) rest

pub cons_not : {A : Type 0} (x : A) (xs : List A) → x ∷ xs ≡ [] → ⊥
cons_not x xs same = cc

takes_more : (e : ArrivalEntry) (calls : List ArrivalEntry) → takes_in (e ∷ calls) ≡ [] → (takes_in calls ≡ []) × (is_take e.call.1 ≡ true → ⊥)
takes_more e calls none = by_call e.call.1 refl
  where
    by_call : (asked : Arriving) → e.call.1 ≡ asked → (takes_in calls ≡ []) × (is_take e.call.1 ≡ true → ⊥)
    by_call (arrive.Send n txn) is = (
      subst (λ (a : Arriving). takes_in (record { by = e.by; call = (e.call.0, a); reply = e.reply } ∷ calls) ≡ []) is none,
      λ takes. false≢true (sym (ap is_take is) ∙ takes),
    )
    by_call arrive.Take is = absurd (cons_not (stamp_of e) (takes_in calls) (subst (λ (a : Arriving). takes_in (record { by = e.by; call = (e.call.0, a); reply = e.reply } ∷ calls) ≡ []) is none))

-- a caller whose calls take nothing takes nothing
pub no_takes : (by : ℕ) (seen : List ArrivalEntry) → takes_in (calls_by by seen) ≡ [] → NoTakes by (unstamped seen)
no_takes by [] none = tt
no_takes by (e ∷ seen) none = by_caller (cases_Bool (e.by == by)) (no_takes by seen)
  where
    by_caller : ((e.by == by) ≡ true) ⊎ ((e.by == by) ≡ false) → (takes_in (calls_by by seen) ≡ [] → NoTakes by (unstamped seen)) → NoTakes by (unstamped (e ∷ seen))
    by_caller (inl met) further =
        let here : takes_in (e ∷ calls_by by seen) ≡ [] = rw met at none in
        let parts = takes_more e (calls_by by seen) here in
        (λ takes own. parts.1 takes, further parts.0)
    by_caller (inr unmet) further =
        let rest : takes_in (calls_by by seen) ≡ [] = rw unmet at none in
        (λ takes own. false≢true (sym unmet ∙ eq-eqb e.by by own), further rest)
