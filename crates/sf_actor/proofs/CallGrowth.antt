-- What calls of a desk let grow: for the caller, and for any other actor.
use Rattle.std.proofs.Common.{◌≡◌, ◌≢◌, ℕ, ◌+◌, ◌-◌, ◌≤◌, ◌==◌, true, false, List, [], ◌∷◌, ◌++◌, length, inl, inr, arith, ap, ◌∙◌, sym, refl, subst}
use Rattle.std.proofs.lemmas.Bool.{cases_Bool, eq-eqb, eqb-true, false≢true, ne_eqb}
use Rattle.std.proofs.lemmas.List.{append-nil}
use Rattle.std.proofs.lemmas.List.Elements.{Contains-append_left}
use Rattle.std.proofs.lemmas.List.Folds.{list_any-append}
use Rattle.std.proofs.lemmas.List.FromFn.{get_or-map-range_with_len}
use Rattle.sf_base.specs.Fences.{value_of}
use Rattle.sf_base.specs.Points.{greatest}
use Rattle.sf_base.proofs.PointLemmas.{greatest-append}
use Rattle.sf_token.specs.sf_calls.Histories.{GoesOnWithout, calls_by, entry}
use Rattle.sf_surface.specs.declared.call.QCall.{QCall}
use Rattle.sf_surface.specs.declared.call.QReply.{QReply}
use Rattle.sf_surface.specs.Histories.{Made}
use Rattle.sf_surface.specs.Tokens.{ReadLeaseOf}
use Rattle.sf_times.specs.declared.protocol.Knows.{Knows}
use Rattle.sf_times.specs.Seats.{all_loaded, raised}
use Rattle.sf_token.specs.Pending.{Arrival}
use Rattle.sf_surface.specs.sf_turns.Views.{Leaves, Observes, SeatView}
use Rattle.sf_token.specs.sf_txn.Transactions.{Contents}
use Rattle.sf_actor.specs.Desks.{ChangesTimes, ChangesTurns, DeskHome, DeskView, IsAsBefore, MadeCall, MadeSend, WaitsForCall, known_of, values_of}
use Rattle.sf_actor.specs.Known.{AreAmong, ArriveWithout, CountsRise, GoesOn, Known, Rise, is_sent_by}

-- the value of a timeline among points is the greatest of it
pub value-values : (points : List (ℕ × ℕ)) (t : ℕ) → 1 ≤ t → t ≤ 64 → value_of (values_of points).values t ≡ greatest t points
value-values points t low high = get_or-map-range_with_len (λ t. greatest t points) 1 64 (t - 1) t 0 (omega (arith, low, high)) (omega (arith, low))

-- more points have no lower values
rise-more : (points more : List (ℕ × ℕ)) → Rise (values_of points) (values_of (points ++ more))
rise-more points more t low high =
    let a = value-values points t low high in
    let b = value-values (points ++ more) t low high in
    let c = greatest-append t points more in
    omega (arith, a, b, c)

rise-same : (points : List (ℕ × ℕ)) → Rise (values_of points) (values_of points)
rise-same points t low high = omega arith

still-among : (these : List (ℕ × ℕ)) → AreAmong these these
still-among these p there = there

more-among : (these more : List (ℕ × ℕ)) → AreAmong these (these ++ more)
more-among these more p there = Contains-append_left these more p there

arrives_same : (actor : ℕ) (arrivals : List (Arrival ReadLeaseOf)) → ArriveWithout actor arrivals arrivals
arrives_same actor arrivals = record { later = []; joined = sym (append-nil arrivals); none = refl }

arrives_twice : (actor : ℕ) (old mid new : List (Arrival ReadLeaseOf)) → ArriveWithout actor old mid → ArriveWithout actor mid new → ArriveWithout actor old new
arrives_twice actor old mid new first second = record {
  later = first.later ++ second.later;
  joined = second.joined ∙ ap (λ (xs : List (Arrival ReadLeaseOf)). xs ++ second.later) first.joined ∙ assoc old first.later second.later;
  none = list_any-append (is_sent_by actor) first.later second.later ∙ (rw (first.none, second.none) refl);
}
  where
    assoc : (xs ys zs : List (Arrival ReadLeaseOf)) → (xs ++ ys) ++ zs ≡ xs ++ (ys ++ zs)
    assoc [] ys zs = refl
    assoc (x ∷ xs) ys zs = ap (λ (rest : List (Arrival ReadLeaseOf)). x ∷ rest) (assoc xs ys zs)

counts-more : (seen more : List (ℕ × ℕ)) → CountsRise seen (seen ++ more)
counts-more seen more = λ b. let join = greatest-append b seen more in omega (arith, join)

module _ {B : Type 0} where
  calls_same : (actor : ℕ) (old new : List (Made B)) → new ≡ old → GoesOnWithout actor old new
  calls_same actor old new same = record { begins = ([], same); calls = ap (λ (xs : List (Made B)). calls_by actor xs) same }

  -- what is known goes on as it is, and twice
  pub goes_same : (actor : ℕ) (known : Known B) → GoesOn actor known known
  goes_same actor known = record {
    marks = λ queue. refl;
    tells = refl;
    calls = λ queue. calls_same actor (known.calls queue) (known.calls queue) refl;
    arrivals = arrives_same actor known.arrivals;
    values = λ t low high. omega arith;
    signals = still-among known.signals;
    left = still-among known.left;
    counts = λ b. omega arith;
  }

  calls_twice : (actor : ℕ) (old mid new : List (Made B)) → GoesOnWithout actor old mid → GoesOnWithout actor mid new → GoesOnWithout actor old new
  calls_twice actor old mid new first second = record {
    begins = (second.begins.0 ++ first.begins.0, second.begins.1 ∙ ap (λ (xs : List (Made B)). second.begins.0 ++ xs) first.begins.1 ∙ sym (assoc second.begins.0 first.begins.0 old));
    calls = second.calls ∙ first.calls;
  }
    where
      assoc : (xs ys zs : List (Made B)) → (xs ++ ys) ++ zs ≡ xs ++ (ys ++ zs)
      assoc [] ys zs = refl
      assoc (x ∷ xs) ys zs = ap (λ (rest : List (Made B)). x ∷ rest) (assoc xs ys zs)

  pub goes_twice : (actor : ℕ) (old mid new : Known B) → GoesOn actor old mid → GoesOn actor mid new → GoesOn actor old new
  goes_twice actor old mid new first second = record {
    marks = λ queue. second.marks queue ∙ first.marks queue;
    tells = second.tells ∙ first.tells;
    calls = λ queue. calls_twice actor (old.calls queue) (mid.calls queue) (new.calls queue) (first.calls queue) (second.calls queue);
    arrivals = arrives_twice actor old.arrivals mid.arrivals new.arrivals first.arrivals second.arrivals;
    values = λ t low high. let a = first.values t low high in let b = second.values t low high in omega (arith, a, b);
    signals = λ p there. second.signals p (first.signals p there);
    left = λ p there. second.left p (first.left p there);
    counts = λ b. let one = first.counts b in let two = second.counts b in omega (arith, one, two);
  }

  -- where only a seat at the timelines changed, and knows more
  times_go : (actor : ℕ) (home : DeskHome) (view : DeskView B) (times : Knows) → Rise (values_of view.times.known) (values_of times.known) → AreAmong view.times.signals times.signals → GoesOn actor (known_of home view) (known_of home (record view { times = times }))
  times_go actor home view times values signals = record {
    marks = λ queue. refl;
    tells = refl;
    calls = λ queue. calls_same actor (view.calls queue) (view.calls queue) refl;
    arrivals = arrives_same actor view.arrivals;
    values = values;
    signals = signals;
    left = still-among view.turns.leaves;
    counts = λ b. omega arith;
  }

  -- where only a seat at the turns changed, and knows more
  turns_go : (actor : ℕ) (home : DeskHome) (view : DeskView B) (turns : SeatView) → AreAmong view.turns.leaves turns.leaves → CountsRise view.turns.seen turns.seen → GoesOn actor (known_of home view) (known_of home (record view { turns = turns }))
  turns_go actor home view turns leaves seen = record {
    marks = λ queue. refl;
    tells = refl;
    calls = λ queue. calls_same actor (view.calls queue) (view.calls queue) refl;
    arrivals = arrives_same actor view.arrivals;
    values = rise-same view.times.known;
    signals = still-among view.times.signals;
    left = leaves;
    counts = seen;
  }

  pub see_goes : (actor : ℕ) (home : DeskHome) (old new : DeskView B) (points : List (ℕ × ℕ)) → ChangesTimes old new → new.times ≡ all_loaded old.times points → GoesOn actor (known_of home old) (known_of home new)
  see_goes actor home old new points changes seen =
      subst (λ (view : DeskView B). GoesOn actor (known_of home old) (known_of home view)) (sym (changes ∙ ap (λ (times : Knows). record old { times = times }) seen))
      (times_go actor home old (all_loaded old.times points) (rise-more old.times.known points) (still-among old.times.signals))

  pub signal_goes : (actor : ℕ) (home : DeskHome) (old new : DeskView B) (point : ℕ × ℕ) → ChangesTimes old new → new.times ≡ raised old.times point → GoesOn actor (known_of home old) (known_of home new)
  signal_goes actor home old new point changes signalled =
      subst (λ (view : DeskView B). GoesOn actor (known_of home old) (known_of home view)) (sym (changes ∙ ap (λ (times : Knows). record old { times = times }) signalled))
      (times_go actor home old (raised old.times point) (rise-more old.times.known (point ∷ [])) (more-among old.times.signals (point ∷ [])))

  pub look_goes : (actor : ℕ) (home : DeskHome) (old new : DeskView B) (buffer count : ℕ) → ChangesTurns old new → Observes old.turns buffer count new.turns → GoesOn actor (known_of home old) (known_of home new)
  look_goes actor home old new buffer count changes looked =
      subst (λ (view : DeskView B). GoesOn actor (known_of home old) (known_of home view)) (sym (changes ∙ ap (λ (turns : SeatView). record old { turns = turns }) looked.0))
      (turns_go actor home old (record old.turns { seen = old.turns.seen ++ (buffer, count) ∷ [] }) (still-among old.turns.leaves) (counts-more old.turns.seen ((buffer, count) ∷ [])))

  pub end_goes : (actor : ℕ) (home : DeskHome) (old new : DeskView B) (buffer number : ℕ) → ChangesTurns old new → Leaves old.turns buffer number new.turns → GoesOn actor (known_of home old) (known_of home new)
  end_goes actor home old new buffer number changes left =
      subst (λ (view : DeskView B). GoesOn actor (known_of home old) (known_of home view)) (sym (changes ∙ ap (λ (turns : SeatView). record old { turns = turns }) left.1))
      (turns_go actor home old (record old.turns { leaves = old.turns.leaves ++ (buffer, number) ∷ []; seen = (old.turns.seen ++ left.0) ++ (buffer, number + 1) ∷ [] })
      (more-among old.turns.leaves ((buffer, number) ∷ []))
      (λ b. let one = counts-more old.turns.seen left.0 b in let two = counts-more (old.turns.seen ++ left.0) ((buffer, number + 1) ∷ []) b in omega (arith, one, two)))

  -- where the calls on one queue alone changed, and go on without the actor
  queue_goes : (actor : ℕ) (home : DeskHome) (old new : DeskView B) (queue : ℕ) → new ≡ record old { calls = new.calls; locked = new.locked } → ((other : ℕ) → other ≢ queue → new.calls other ≡ old.calls other) → GoesOnWithout actor (old.calls queue) (new.calls queue) → GoesOn actor (known_of home old) (known_of home new)
  queue_goes actor home old new queue same others here =
      let view : DeskView B = record old { calls = new.calls; locked = new.locked } in
      subst (λ (v : DeskView B). GoesOn actor (known_of home old) (known_of home v)) (sym same)
      (record {
        marks = λ q. refl;
        tells = refl;
        calls = λ q. elim (cases_Bool (q == queue)) [
          | inl met ↦ subst (λ (n : ℕ). GoesOnWithout actor (old.calls n) (new.calls n)) (sym (eqb-true q queue met)) here
          | inr unmet ↦ calls_same actor (old.calls q) (new.calls q) (others q (λ e. apart q unmet e))
        ];
        arrivals = arrives_same actor old.arrivals;
        values = rise-same old.times.known;
        signals = still-among old.times.signals;
        left = still-among old.turns.leaves;
        counts = λ b. omega arith;
      })
    where
      apart : (q : ℕ) → (q == queue) ≡ false → q ≡ queue → ⊥
      apart q unmet e = let met = eq-eqb q queue e in false≢true (sym unmet ∙ met)

  -- a call that waits is none of the caller's
  pub wait_goes : (home : DeskHome) (old new : DeskView B) (by queue : ℕ) (asked : ℕ × QCall B) → WaitsForCall home old new by queue asked → GoesOn by (known_of home old) (known_of home new)
  wait_goes home old new by queue asked waits = queue_goes by home old new queue waits.changes.same waits.changes.others waits.goes_on

  -- over a desk that is exact, a call that waits is no other actor's either, and a call that is made is only the caller's
  pub wait_alone : (actor : ℕ) (home : DeskHome) (old new : DeskView B) (by queue : ℕ) (asked : ℕ × QCall B) → home.is_exact ≡ true → WaitsForCall home old new by queue asked → GoesOn actor (known_of home old) (known_of home new)
  wait_alone actor home old new by queue asked exact waits =
      queue_goes actor home old new queue waits.changes.same waits.changes.others (calls_same actor (old.calls queue) (new.calls queue) (waits.alone exact))

  pub call_alone : (actor : ℕ) (home : DeskHome) (old new : DeskView B) (by queue : ℕ) (asked : ℕ × QCall B) (reply : QReply B) → home.is_exact ≡ true → by ≢ actor → MadeCall home old new by queue asked reply → GoesOn actor (known_of home old) (known_of home new)
  call_alone actor home old new by queue asked reply exact apart made =
      let made_now : new.calls queue ≡ (entry by asked reply ∷ []) ++ old.calls queue = made.newest ∙ ap (λ (xs : List (Made B)). entry by asked reply ∷ xs) (made.alone exact) in
      queue_goes actor home old new queue made.changes.same made.changes.others
      (record { begins = (entry by asked reply ∷ [], made_now); calls = ap (λ (xs : List (Made B)). calls_by actor xs) made_now ∙ (rw (ne_eqb by actor apart) refl) })

  -- want of memory adds nothing
  pub memory_goes : (actor : ℕ) (home : DeskHome) (old new : DeskView B) → IsAsBefore old new → GoesOn actor (known_of home old) (known_of home new)
  memory_goes actor home old new same =
      subst (λ (view : DeskView B). GoesOn actor (known_of home old) (known_of home view)) (sym same) (goes_same actor (known_of home old))

  -- over a desk that is exact, a transaction that is sent is only the caller's
  pub send_alone : (actor : ℕ) (home : DeskHome) (old new : DeskView B) (by step : ℕ) (txn : Contents ReadLeaseOf) (number : ℕ) → home.is_exact ≡ true → by ≢ actor → MadeSend home old new by step txn number → GoesOn actor (known_of home old) (known_of home new)
  send_alone actor home old new by step txn number exact apart made =
      let arrived : Arrival ReadLeaseOf = record { number = length made.earlier + 1; actor = record { 0 = by }; step = step; txn = txn } in
      subst (λ (view : DeskView B). GoesOn actor (known_of home old) (known_of home view)) (sym made.same)
      (record {
        marks = λ queue. refl;
        tells = refl;
        calls = λ queue. calls_same actor (old.calls queue) (old.calls queue) refl;
        arrivals = record {
          later = arrived ∷ [];
          joined = made.last ∙ ap (λ (xs : List (Arrival ReadLeaseOf)). xs ++ arrived ∷ []) (made.alone exact);
          none = rw (ne_eqb by actor apart) refl;
        };
        values = rise-same old.times.known;
        signals = still-among old.times.signals;
        left = still-among old.turns.leaves;
        counts = λ b. omega arith;
      })
