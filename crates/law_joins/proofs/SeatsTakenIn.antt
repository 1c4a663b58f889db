-- The first seats after they took others in: what they knew goes on without a call of their own, and what is signalled is theirs or the others'.
use Rattle.std.proofs.Common.{◌≡◌, ℕ, List, [], ◌∷◌, ◌++◌, ap, sym, ◌∙◌, subst, inl, inr, ◌⊎◌, arith}
use Rattle.std.specs.Prelude.{Contains}
use Rattle.std.proofs.lemmas.List.{append-nil, append_assoc}
use Rattle.std.proofs.lemmas.List.Elements.{Contains-append_left}
use Rattle.sf_base.proofs.PointLemmas.{greatest-append}
use Rattle.sf_base.specs.Points.{greatest}
use Rattle.law_threads.specs.sf_calls.declared.object.Entry.{Entry}
use Rattle.law_threads.specs.sf_calls.Histories.{GoesOnWithout, calls_by}
use Rattle.law_threads.specs.sf_times.declared.protocol.Knows.{Knows}
use Rattle.law_threads.specs.sf_turns.Views.{SeatView}
use Rattle.law_threads.specs.sf_actor.Known.{AreAmong, CountsRise}
use Rattle.law_threads.proofs.law_played_lemmas.Members.{has_cases, has_here, has_later}
use Rattle.law_threads.specs.sf_live_seats.declared.first.FirstSeats.{FirstSeats}
use Rattle.law_threads.specs.sf_live_seats.declared.seats.Seats.{Seats}
use Rattle.law_threads.specs.sf_live_seats.First.{Meets, took_of}
use Rattle.law_threads.specs.sf_live_seats.Seats.{view_of}
use Rattle.law_joins.proofs.Fronts.{begins_on, begins_same}
use Rattle.law_threads.specs.Joining.{MeetsAll}

pub goes_twice : {C R : Type 0} (by : ℕ) (xs ys zs : List (Entry C R)) → GoesOnWithout by xs ys → GoesOnWithout by ys zs → GoesOnWithout by xs zs
goes_twice by xs ys zs one two = record { begins = begins_on xs ys zs one.begins two.begins; calls = two.calls ∙ one.calls }

pub goes_same : {C R : Type 0} (by : ℕ) (xs ys : List (Entry C R)) → ys ≡ xs → GoesOnWithout by xs ys
goes_same by xs ys same = record { begins = begins_same xs ys same; calls = ap (calls_by by) same }

-- what is in two lists is in one of them
joined_cases : {X : Type 0} (xs ys : List X) (x : X) → Contains (xs ++ ys) x → Contains xs x ⊎ Contains ys x
joined_cases [] ys x there = inr there
joined_cases (y ∷ xs) ys x there = elim (has_cases y x (xs ++ ys) there) [
  | inl same ↦ inl (subst (Contains (y ∷ xs)) same (has_here y xs))
  | inr later ↦ elim (joined_cases xs ys x later) [
    | inl first ↦ inl (has_later y x xs first)
    | inr second ↦ inr second
  ]
]

module _ {B : Type 0} where
  pub meets_took : (start : FirstSeats B) (met : List (Seats B)) (new : FirstSeats B) → MeetsAll start met new → took_of new ≡ took_of start ++ met
  meets_took start [] new meets = ap (λ (f : FirstSeats B). took_of f) (sym meets) ∙ sym (append-nil (took_of start))
  meets_took start (seats ∷ met) new meets =
      meets_took meets.0 met new meets.2 ∙ ap (λ (l : List (Seats B)). l ++ met) meets.1.took ∙ append_assoc (took_of start) (seats ∷ []) met

  pub meets_number : (start : FirstSeats B) (met : List (Seats B)) (new : FirstSeats B) → MeetsAll start met new → new.seats.by ≡ start.seats.by
  meets_number start [] new meets = ap (λ (f : FirstSeats B). f.seats.by) (sym meets)
  meets_number start (seats ∷ met) new meets = meets_number meets.0 met new meets.2 ∙ meets.1.number

  pub meets_arrivals : (by : ℕ) (start : FirstSeats B) (met : List (Seats B)) (new : FirstSeats B) → start.seats.by ≡ by → MeetsAll start met new → GoesOnWithout by start.seats.arrivals.seen new.seats.arrivals.seen
  meets_arrivals by start [] new number meets = goes_same by start.seats.arrivals.seen new.seats.arrivals.seen (ap (λ (f : FirstSeats B). f.seats.arrivals.seen) (sym meets))
  meets_arrivals by start (seats ∷ met) new number meets =
      goes_twice by start.seats.arrivals.seen meets.0.seats.arrivals.seen new.seats.arrivals.seen
      (subst (λ (n : ℕ). GoesOnWithout n start.seats.arrivals.seen meets.0.seats.arrivals.seen) number meets.1.arrivals)
      (meets_arrivals by meets.0 met new (meets.1.number ∙ number) meets.2)

  pub meets_calls : (by queue : ℕ) (start : FirstSeats B) (met : List (Seats B)) (new : FirstSeats B) → start.seats.by ≡ by → MeetsAll start met new
      → GoesOnWithout by ((view_of start.seats).calls queue) ((view_of new.seats).calls queue)
  meets_calls by queue start [] new number meets = goes_same by ((view_of start.seats).calls queue) ((view_of new.seats).calls queue) (ap (λ (f : FirstSeats B). (view_of f.seats).calls queue) (sym meets))
  meets_calls by queue start (seats ∷ met) new number meets =
      goes_twice by ((view_of start.seats).calls queue) ((view_of meets.0.seats).calls queue) ((view_of new.seats).calls queue)
      (subst (λ (n : ℕ). GoesOnWithout n ((view_of start.seats).calls queue) ((view_of meets.0.seats).calls queue)) number (meets.1.calls queue))
      (meets_calls by queue meets.0 met new (meets.1.number ∙ number) meets.2)

  one_shown : (seats : Seats B) (old new : FirstSeats B) → Meets seats old new → AreAmong old.seats.times.knows.shown new.seats.times.knows.shown
  one_shown seats old new meets p there =
      subst (λ (k : Knows). Contains k.shown p) (sym (ap (λ t. t.knows) meets.times)) (Contains-append_left old.seats.times.knows.shown seats.times.knows.shown p there)

  pub meets_shown : (start : FirstSeats B) (met : List (Seats B)) (new : FirstSeats B) → MeetsAll start met new → AreAmong start.seats.times.knows.shown new.seats.times.knows.shown
  meets_shown start [] new meets p there = subst (λ (f : FirstSeats B). Contains f.seats.times.knows.shown p) meets there
  meets_shown start (seats ∷ met) new meets p there = meets_shown meets.0 met new meets.2 p (one_shown seats start meets.0 meets.1 p there)

  one_counts : (seats : Seats B) (old new : FirstSeats B) → Meets seats old new → CountsRise old.seats.turns.seen new.seats.turns.seen
  one_counts seats old new meets buffer =
      let joined = greatest-append buffer old.seats.turns.seen seats.turns.seen in
      let same = ap (λ (v : SeatView). greatest buffer v.seen) meets.turns in
      omega (arith, joined, same)

  pub meets_counts : (start : FirstSeats B) (met : List (Seats B)) (new : FirstSeats B) → MeetsAll start met new → CountsRise start.seats.turns.seen new.seats.turns.seen
  meets_counts start [] new meets buffer = let same = ap (λ (f : FirstSeats B). greatest buffer f.seats.turns.seen) meets in omega (arith, same)
  meets_counts start (seats ∷ met) new meets buffer =
      let first = one_counts seats start meets.0 meets.1 buffer in
      let rest = meets_counts meets.0 met new meets.2 buffer in
      omega (arith, first, rest)

  -- a signal is the first seats' own, or one of those that they took in
  pub record IsOfMet (met : List (Seats B)) (p : ℕ × ℕ) : Type 0 where
    pub seats : Seats B
    pub there : Contains met seats
    pub signalled : Contains seats.times.knows.signals p

  pub meets_signals : (start : FirstSeats B) (met : List (Seats B)) (new : FirstSeats B) → MeetsAll start met new → (p : ℕ × ℕ) → Contains new.seats.times.knows.signals p
      → Contains start.seats.times.knows.signals p ⊎ IsOfMet met p
  meets_signals start [] new meets p there = inl (subst (λ (f : FirstSeats B). Contains f.seats.times.knows.signals p) (sym meets) there)
  meets_signals start (seats ∷ met) new meets p there = elim (meets_signals meets.0 met new meets.2 p there) [
    | inl own ↦ elim (joined_cases start.seats.times.knows.signals seats.times.knows.signals p (subst (λ (k : Knows). Contains k.signals p) (ap (λ t. t.knows) meets.1.times) own)) [
      | inl first ↦ inl first
      | inr second ↦ inr (record { seats = seats; there = has_here seats met; signalled = second })
    ]
    | inr later ↦ inr (record { seats = later.seats; there = has_later seats later.seats met later.there; signalled = later.signalled })
  ]
