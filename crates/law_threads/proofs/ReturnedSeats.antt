-- Seats with which actors came back, and these as they are taken in.
use Rattle.std.proofs.Common.{◌≡◌, ℕ, Bool, true, false, List, [], ◌∷◌, ◌++◌, arith, ap, ◌∙◌, sym, refl, inl, inr, subst, map, filter}
use Rattle.std.specs.Prelude.{Contains}
use Rattle.std.specs.List.{AllZip, flat_map}
use Rattle.law_draws.specs.sf_calls.Histories.{GoesOnWithout}
use Rattle.law_draws.specs.sf_surface.Tokens.{ReadLeaseOf}
use Rattle.law_draws.specs.sf_token.declared.arrivals.ArriveCall.TheVariants as arrive
use Rattle.law_draws.specs.sf_token.Pending.{Arrival}
use Rattle.law_draws.specs.sf_txn.Transactions.{Contents}
use Rattle.law_draws.specs.sf_actor.Desks.{known_of}
use Rattle.law_draws.specs.sf_actor.Known.{GoesOn, Known, ShareGoesOn, arrivals_told, is_sent_by, share_of}
use Rattle.law_draws.specs.sf_actor.Plain.{PlainOf, home_of as plain_home, view_of as plain_view}
use Rattle.law_draws.specs.sf_actor.Rights.{Turn}
use Rattle.law_draws.proofs.sf_actor_lemmas.GoingOn.{share_on}
use Rattle.sf_live_compositor.specs.sf_live_seats.Arriving.{ArrivalEntry, Arriving}
use Rattle.sf_live_compositor.specs.sf_live_seats.declared.first.FirstSeats.{FirstSeats}
use Rattle.sf_live_compositor.specs.sf_live_seats.declared.locks.Locks.{Locks}
use Rattle.sf_live_compositor.specs.sf_live_seats.declared.seats.Seats.{Seats}
use Rattle.sf_live_compositor.specs.sf_live_seats.Closing.{GoesOnIn, IsOrdered}
use Rattle.sf_live_compositor.specs.sf_live_seats.First.{took_of}
use Rattle.sf_live_compositor.specs.sf_live_seats.Reuniting.{Reunites, sent_of}
use Rattle.sf_live_compositor.specs.sf_live_seats.Seats.{home_of, takes_in, view_of}
use Rattle.sf_live_compositor.specs.sf_live_threads.Walks.{Moment}
use Rattle.law_draws.proofs.law_played_lemmas.Members.{has_cases, has_here, has_later}
use Rattle.law_threads.specs.Joining.{seats_at}
use Rattle.law_threads.specs.Members.{number_at}
use Rattle.law_threads.proofs.Arrivals.{own_without, sent_own}

-- calls that all send take nothing
pub all_send : (calls : List ArrivalEntry) → ((e : ArrivalEntry) → Contains calls e → (step : ℕ) × (txn : Contents ReadLeaseOf) × (e.call.1 ≡ arrive.Send step txn)) → takes_in calls ≡ []
all_send [] all = refl
all_send (e ∷ calls) all = one (all e (has_here e calls)) (all_send calls (λ other there. all other (has_later e other calls there)))
  where
    one : ((step : ℕ) × (txn : Contents ReadLeaseOf) × (e.call.1 ≡ arrive.Send step txn)) → takes_in calls ≡ [] → takes_in (e ∷ calls) ≡ []
    one sends rest =
        subst (λ (asked : Arriving). takes_in (record { by = e.by; call = (e.call.0, asked); reply = e.reply } ∷ calls) ≡ []) (sym sends.2) rest

-- what an actor came back with, as it was taken in
pub record TakenIn {B : Type 0} (locks : Locks B) (all : List (Seats B)) (seats : Seats B) : Type 0 where
  pub reunited : Seats B
  pub there : Contains all reunited
  pub reunites : Reunites locks seats reunited

module _ {B : Type 0} (locks : Locks B) where
  pub reunited_at : (ends : List (Moment B)) (reunited : List (Seats B)) → AllZip (Reunites locks) (map seats_at ends) reunited → (moment : Moment B) → Contains ends moment → TakenIn locks reunited moment.seats
  reunited_at [] [] all moment there = absurd (omega (arith, there.1))
  reunited_at [] (seats ∷ reunited) all moment there = absurd all
  reunited_at (end ∷ ends) [] all moment there = absurd all
  reunited_at (end ∷ ends) (seats ∷ reunited) all moment there = elim (has_cases end moment ends there) [
    | inl same ↦ record { reunited = seats; there = has_here seats reunited; reunites = subst (λ (m : Moment B). Reunites locks m.seats seats) same all.0 }
    | inr later ↦ let rest = reunited_at ends reunited all.1 moment later in record { reunited = rest.reunited; there = has_later seats rest.reunited reunited rest.there; reunites = rest.reunites }
  ]

  -- what is known at the join of seats with which an actor came back
  pub record AtJoin (first : FirstSeats B) (desk : PlainOf B) (seats : Seats B) : Type 0 where
    pub reunited : Seats B
    pub other : seats.by ≡ 0 → ⊥
    pub reunites : Reunites locks seats reunited
    pub queues_on : AllZip (GoesOnIn seats.by) first.seats.queues.items seats.queues.items
    pub arrivals_on : GoesOnWithout seats.by reunited.arrivals.seen first.seats.arrivals.seen
    pub calls_on : (queue : ℕ) → GoesOnWithout seats.by ((view_of seats).calls queue) ((plain_view desk).calls queue)
    pub sent_on : sent_own seats.by (plain_view desk).arrivals ≡ sent_own seats.by (view_of seats).arrivals

  -- what is told the same is the same without its numbers
  same_unnumbered : (tells : Bool) (xs ys : List (Arrival ReadLeaseOf)) → arrivals_told tells xs ≡ arrivals_told tells ys → arrivals_told false xs ≡ arrivals_told false ys
  same_unnumbered true xs ys same = ap (arrivals_told false) same
  same_unnumbered false xs ys same = same

  pub at_join : (first : FirstSeats B) (desk : PlainOf B) → IsOrdered first
      → ((seats : Seats B) → Contains (took_of first) seats → GoesOn seats.by (known_of (home_of locks seats) (view_of seats)) (known_of (plain_home desk) (plain_view desk)))
      → (seats : Seats B) → (seats.by ≡ 0 → ⊥) → TakenIn locks (took_of first) seats → AtJoin first desk seats
  at_join first desk ordered goes_on seats other taken = record {
    reunited = taken.reunited;
    other = other;
    reunites = taken.reunites;
    queues_on = subst (λ (s : Seats B). AllZip (GoesOnIn s.by) first.seats.queues.items s.queues.items) taken.reunites.same (ordered.queues_on taken.reunited taken.there);
    arrivals_on = subst (λ (n : ℕ). GoesOnWithout n taken.reunited.arrivals.seen first.seats.arrivals.seen) by_same (ordered.arrivals_on taken.reunited taken.there);
    calls_on = λ queue. subst (λ (s : Seats B). GoesOnWithout s.by ((view_of s).calls queue) ((plain_view desk).calls queue)) taken.reunites.same (goes.calls queue);
    sent_on =
        ap (λ (n : ℕ). sent_own n (plain_view desk).arrivals) (sym by_same) ∙ own_without taken.reunited.by (view_of taken.reunited).arrivals (plain_view desk).arrivals goes.arrivals
        ∙ same_unnumbered (home_of locks seats).tells (filter (is_sent_by taken.reunited.by) (view_of taken.reunited).arrivals) (filter (is_sent_by seats.by) (view_of seats).arrivals) taken.reunites.sent;
  }
    where
      by_same : taken.reunited.by ≡ seats.by
      by_same = ap (λ (s : Seats B). s.by) taken.reunites.same

      goes : GoesOn taken.reunited.by (known_of (home_of locks taken.reunited) (view_of taken.reunited)) (known_of (plain_home desk) (plain_view desk))
      goes = goes_on taken.reunited taken.there

  -- what such seats share with their caller grows to what the desk has for it
  pub share_goes_on : (known : Known B) (seats reunited : Seats B) → Reunites locks seats reunited → GoesOn reunited.by (known_of (home_of locks reunited) (view_of reunited)) known
      → ShareGoesOn (share_of seats.by (known_of (home_of locks seats) (view_of seats))) (share_of seats.by known)
  share_goes_on known seats reunited reunites goes =
      let on = subst (λ (s : Seats B). ShareGoesOn (share_of s.by (known_of (home_of locks s) (view_of s))) (share_of s.by known)) reunites.same
      (share_on reunited.by (known_of (home_of locks reunited) (view_of reunited)) known goes) in
      record {
        calls = on.calls;
        arrivals = on.arrivals ∙ ap (sent_of locks) (sym reunites.same) ∙ reunites.sent;
        values = on.values;
        signals = on.signals;
        left = on.left;
        counts = on.counts;
      }

  -- their callers, and what was left through them
  pub reunited_numbers : (ends : List (Moment B)) (reunited : List (Seats B)) → AllZip (Reunites locks) (map seats_at ends) reunited → map (λ (seats : Seats B). seats.by) reunited ≡ map number_at ends
  reunited_numbers [] [] all = refl
  reunited_numbers [] (seats ∷ reunited) all = absurd all
  reunited_numbers (end ∷ ends) [] all = absurd all
  reunited_numbers (end ∷ ends) (seats ∷ reunited) all =
      ap (λ (n : ℕ). n ∷ map (λ (seats : Seats B). seats.by) reunited) (ap (λ (s : Seats B). s.by) all.0.same) ∙ ap (λ (ns : List ℕ). end.seats.by ∷ ns) (reunited_numbers ends reunited all.1)

  pub reunited_leaves : (ends : List (Moment B)) (reunited : List (Seats B)) → AllZip (Reunites locks) (map seats_at ends) reunited
      → flat_map (λ (seats : Seats B). (view_of seats).turns.leaves) reunited ≡ flat_map (λ (moment : Moment B). (view_of moment.seats).turns.leaves) ends
  reunited_leaves [] [] all = refl
  reunited_leaves [] (seats ∷ reunited) all = absurd all
  reunited_leaves (end ∷ ends) [] all = absurd all
  reunited_leaves (end ∷ ends) (seats ∷ reunited) all =
      ap (λ (turns : List Turn). turns ++ flat_map (λ (seats : Seats B). (view_of seats).turns.leaves) reunited) (ap (λ (s : Seats B). s.turns.leaves) all.0.same)
      ∙ ap (λ (turns : List Turn). end.seats.turns.leaves ++ turns) (reunited_leaves ends reunited all.1)
