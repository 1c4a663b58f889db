-- A compositor whose calls are in order, as a caller of the whole run.
use Rattle.std.proofs.Common.{◌≡◌, ℕ, zero, suc, ◌<◌, ◌≤◌, ◌==◌, false, List, [], ◌∷◌, ◌++◌, arith, ap, ◌∙◌, sym, refl, subst, map, length}
use Rattle.std.specs.List.{list_any}
use Rattle.atomic_table.specs.Seated.{TableId}
use Rattle.std.proofs.Common.{inl, inr}
use Rattle.std.proofs.lemmas.Bool.{cases_Bool}
use Rattle.std.proofs.lemmas.List.{append_assoc}
use Rattle.law_draws.specs.sf_calls.declared.object.Entry.{Entry}
use Rattle.law_draws.specs.sf_calls.Histories.{GoesOnWithout, IsLegal, calls_by}
use Rattle.law_draws.specs.sf_commit.Releases.{ReleaseOf}
use Rattle.sf_script_scene.specs.declared.step.ActorScript.{ActorScript}
use Rattle.sf_live_compositor.specs.sf_calls_stamped.Stamps.{unstamp, unstamped}
use Rattle.law_draws.specs.sf_surface.Histories.{Answers}
use Rattle.law_draws.specs.sf_surface.Tokens.{Issued, ReadLeaseOf}
use Rattle.sf_turns.specs.Views.{SeatView}
use Rattle.law_draws.specs.sf_txn.declared.lease.Lease.{Ghosts}
use Rattle.law_draws.specs.sf_actor.Desks.{DeskHome, DeskView, mark_among}
use Rattle.law_draws.specs.law_rights.Standing.{GiveAll}
use Rattle.law_draws.specs.law_rights.PlaceTries.{TellsPlaces}
use Rattle.law_draws.specs.law_rights.States.{AreApart, State, is_queue}
use Rattle.law_threads.proofs.LedgerViews.{GivesKept, RestsKept}
use Rattle.law_draws.specs.law_rights.Vsyncs.{IsOfTurns}
use Rattle.sf_live_compositor.specs.sf_live_seats.declared.first.FirstSeats.{FirstSeats}
use Rattle.sf_live_compositor.specs.sf_live_seats.declared.locks.Locks.{Locks}
use Rattle.sf_live_compositor.specs.sf_live_seats.declared.seats.Seats.{Seats}
use Rattle.sf_live_compositor.specs.sf_live_seats.First.{KnowsNothing}
use Rattle.sf_live_compositor.specs.sf_live_seats.Seats.{home_of, view_of}
use Rattle.law_threads.specs.Cuts.{Event, Whole}
use Rattle.law_threads.specs.Joining.{MeetsAll}
use Rattle.law_threads.specs.Members.{AreBetween, AreTimed, back_spots, mine, seated, total_in}
use Rattle.law_threads.specs.Orders.{Spot}
use Rattle.sf_live_compositor.specs.Vsyncs.{Sitting, Vsyncs}
use Rattle.sf_live_compositor.specs.Vsyncs.{Begin, More}
use Rattle.law_threads.proofs.AllCallers.{IsMember, rest_member}
use Rattle.law_threads.proofs.CallCounts.{mine_without}
use Rattle.law_threads.proofs.Lines.{AllAfter, AllAt}
use Rattle.law_threads.proofs.Pieces.{back_of}
use Rattle.law_threads.proofs.ActorAsCaller.{none_known}
use Rattle.law_threads.proofs.CompositorPieces.{AllTimed, IsTimed as IsTimedThere, SeatsFront, SitsBehind, give_each, known_sitting, post_sitting, sat}

-- no actor
pub nobody_script : ActorScript
nobody_script = record { number = 0; steps = [] }

module _ {C R : Type 0} where
  unstamped_by : (by : ℕ) (xs : List (Entry (ℕ × C) (ℕ × R))) → calls_by by (unstamped xs) ≡ unstamped (calls_by by xs)
  unstamped_by by [] = refl
  unstamped_by by (e ∷ xs) = elim (cases_Bool (e.by == by)) [
    | inl met ↦ rw met (ap (λ es. unstamp e ∷ es) (unstamped_by by xs))
    | inr unmet ↦ rw unmet (unstamped_by by xs)
  ]

  unstamped_joined : (more xs : List (Entry (ℕ × C) (ℕ × R))) → unstamped (more ++ xs) ≡ unstamped more ++ unstamped xs
  unstamped_joined [] xs = refl
  unstamped_joined (e ∷ more) xs = ap (λ es. unstamp e ∷ es) (unstamped_joined more xs)

  -- what goes on does so without its stamps
  pub unstamped_on : (by : ℕ) (xs ys : List (Entry (ℕ × C) (ℕ × R))) → GoesOnWithout by xs ys → GoesOnWithout by (unstamped xs) (unstamped ys)
  unstamped_on by xs ys goes = record {
    begins = (unstamped goes.begins.0, ap unstamped goes.begins.1 ∙ unstamped_joined goes.begins.0 xs);
    calls = unstamped_by by ys ∙ ap unstamped goes.calls ∙ sym (unstamped_by by xs);
  }

  on_and_on : (by : ℕ) (xs ys zs : List (Entry C R)) → GoesOnWithout by xs ys → GoesOnWithout by ys zs → GoesOnWithout by xs zs
  on_and_on by xs ys zs one two = record {
    begins = (
      two.begins.0 ++ one.begins.0,
      two.begins.1 ∙ ap (λ (es : List (Entry C R)). two.begins.0 ++ es) one.begins.1 ∙ sym (append_assoc two.begins.0 one.begins.0 xs),
    );
    calls = two.calls ∙ one.calls;
  }

  same_on : (by : ℕ) (xs : List (Entry C R)) → GoesOnWithout by xs xs
  same_on by xs = record { begins = ([], refl); calls = refl }

module _ {B : Type 0} where
  -- what arrived goes on while seats are taken in
  pub met_on : (start : FirstSeats B) (met : List (Seats B)) (new : FirstSeats B) → MeetsAll start met new → GoesOnWithout start.seats.by start.seats.arrivals.seen new.seats.arrivals.seen
  met_on start [] new folds =
      subst (λ (first : FirstSeats B). GoesOnWithout start.seats.by start.seats.arrivals.seen first.seats.arrivals.seen) folds (same_on start.seats.by start.seats.arrivals.seen)
  met_on start (seats ∷ met) new folds = on_and_on start.seats.by start.seats.arrivals.seen folds.0.seats.arrivals.seen new.seats.arrivals.seen folds.1.arrivals
      (subst (λ (n : ℕ). GoesOnWithout n folds.0.seats.arrivals.seen new.seats.arrivals.seen) folds.1.number (met_on folds.0 met new folds.2))

  pub met_by : (start : FirstSeats B) (met : List (Seats B)) (new : FirstSeats B) → MeetsAll start met new → new.seats.by ≡ start.seats.by
  met_by start [] new folds = ap (λ (first : FirstSeats B). first.seats.by) (sym folds)
  met_by start (seats ∷ met) new folds = met_by folds.0 met new folds.2 ∙ folds.1.number

module _ {B : Type 0} (lease : Ghosts ReadLeaseOf SeatView ReadLeaseOf Issued) (table : TableId) (locks : Locks B) (period : ℕ) where
  pub log_by : {start end : Sitting B} → Vsyncs lease table locks period start end → end.seats.by ≡ start.seats.by
  log_by Begin = refl
  log_by (More {before} {after} log vsync) = vsync.caller ∙ log_by log

module _ {B : Type 0} (lease : Ghosts ReadLeaseOf SeatView ReadLeaseOf Issued) (of_turns : IsOfTurns lease) (whole : Whole B) (table : TableId) (locks : Locks B) (period : ℕ)
    (apart : AreApart whole.marks) (absent : (queue : ℕ) → list_any (is_queue queue) whole.marks ≡ false → whole.view.calls queue ≡ [])
    (legal : (queue : ℕ) → IsLegal (Answers (mark_among whole.marks queue)) (whole.view.calls queue))
    (tells : TellsPlaces lease) (Holds : State B → Type 0) (given : GivesKept whole Holds) (rests : RestsKept whole Holds) (stamp : Spot → ℕ) (bound : ℕ → ℕ) (rises : (n m : ℕ) → n ≤ m → bound n ≤ bound m) where
  -- a call of a vsync is above the bounds of all before it
  abbrev At : Spot → ℕ → Type 0
  At here n = ((k : ℕ) → k < n → bound k ≤ stamp here) × (stamp here ≤ bound n)

  order : (here there : Spot) (n m : ℕ) → At here n → At there m → n < m → stamp here ≤ stamp there
  order here there n m one other less = let low = other.0 n less in let high = one.1 in omega (arith, low, high)

  pub record Sits (start last : Sitting B) : Type 0 where
    pub rest : List (List (Event B))
    pub is : IsMember whole Holds stamp (record { by = 0; rest = rest; first = seated start; last = seated last })

  module _ (script : ActorScript) where
    abbrev totals : Spot → ℕ
    totals here = total_in whole 0 here.0 here.1

    backs_at : (n : ℕ) (low : ℕ) → ((k : ℕ) → k < n → bound k ≤ low) → (home : DeskHome) (number : ℕ) (releases : List (ReleaseOf ReadLeaseOf)) (old new : DeskView B) (all : GiveAll home number releases old new)
        → AreBetween stamp low (bound n) (back_spots home number releases old new all) → AllAt whole Holds totals stamp At order n (map back_of (give_each home number releases old new all).gives)
    backs_at n low above home number [] old new all between = tt
    backs_at n low above home number (release ∷ releases) old new all between = (
      (λ k less. let a = above k less in let b = between.0 in omega (arith, a, b), between.1),
      backs_at n low above home number releases all.0 new all.2 between.2,
    )

    backs_after : (first : Spot) (high : ℕ) (home : DeskHome) (number : ℕ) (releases : List (ReleaseOf ReadLeaseOf)) (old new : DeskView B) (all : GiveAll home number releases old new)
        → AreBetween stamp (stamp first) high (back_spots home number releases old new all) → AllAfter whole Holds totals stamp At order first (map back_of (give_each home number releases old new all).gives)
    backs_after first high home number [] old new all between = tt
    backs_after first high home number (release ∷ releases) old new all between = (between.0, backs_after first high home number releases all.0 new all.2 between.2)

    all_timed : {start end : Sitting B} (log : Vsyncs lease table locks period start end) → AreTimed lease table locks period stamp bound log
        → AllTimed lease of_turns whole script table locks period apart absent legal tells Holds given rests stamp At order log
    all_timed Begin timed = tt
    all_timed (More {before} {after} log vsync) timed = (all_timed log timed.0, one)
      where
        spot : Spot
        spot = (0, length vsync.takes.took.earlier)

        above : (k : ℕ) → k < after.number → bound k ≤ stamp (0, length vsync.takes.took.earlier)
        above k less =
            let counted = vsync.counted in
            let up = rises k before.number (omega (arith, less, counted)) in
            let low = timed.1.low in
            omega (arith, up, low)

        one : IsTimedThere lease of_turns whole script table locks period apart absent legal tells Holds given rests stamp At order before after vsync
        one = record {
          take = (above, timed.1.high);
          backs = backs_at after.number (stamp (0, length vsync.takes.took.earlier)) above (home_of locks vsync.took) after.number vsync.told.releases (view_of (record vsync.took { turns = vsync.turns })) (view_of after.seats) vsync.gives
              timed.1.backs;
          behind = backs_after (0, length vsync.takes.took.earlier) (bound after.number) (home_of locks vsync.took) after.number vsync.told.releases (view_of (record vsync.took { turns = vsync.turns })) (view_of after.seats) vsync.gives
              timed.1.backs;
        }

    known_all : (seats : Seats B) → ((queue : ℕ) → GoesOnWithout 0 ((view_of seats).calls queue) (whole.view.calls queue)) → GoesOnWithout 0 (unstamped seats.arrivals.seen) whole.arriving
        → (lock place : ℕ) → known_sitting lease of_turns whole script table locks period apart absent legal tells Holds given rests seats lock place ≡ total_in whole 0 lock place
    known_all seats called taken zero place = sym (mine_without 0 place (unstamped seats.arrivals.seen) whole.arriving taken)
    known_all seats called taken (suc queue) place = sym (mine_without 0 place ((view_of seats).calls queue) (whole.view.calls queue) (called queue))

    none_known_here : (seats : Seats B) → KnowsNothing seats → (lock place : ℕ) → known_sitting lease of_turns whole script table locks period apart absent legal tells Holds given rests seats lock place ≡ 0
    none_known_here seats nothing zero place = ap (λ seen. mine 0 place (unstamped seen)) nothing.arrivals
    none_known_here seats nothing (suc queue) place = ap (mine 0 place) (none_known queue seats.queues.items nothing.queues)

    pub sits_of : (start last : Sitting B) (log : Vsyncs lease table locks period start last) → AreTimed lease table locks period stamp bound log → start.seats.by ≡ 0
        → SeatsFront lease of_turns whole script table locks period apart absent legal tells Holds given rests last.seats → ((queue : ℕ) → GoesOnWithout 0 ((view_of last.seats).calls queue) (whole.view.calls queue))
        → GoesOnWithout 0 (unstamped last.seats.arrivals.seen) whole.arriving → KnowsNothing start.seats → Sits start last
    sits_of start last log timed by_it front called taken nothing = record {
      rest = behind.rest;
      is = rest_member whole Holds stamp At order 0 (post_sitting lease of_turns whole script table locks period apart absent legal tells Holds given rests start) behind.rest (seated last)
          (λ here. none_known_here start.seats nothing here.0 here.1) behind.behind;
    }
      where
        behind : SitsBehind lease of_turns whole script table locks period apart absent legal tells Holds given rests stamp At order start (seated last)
        behind = sat lease of_turns whole script table locks period apart absent legal tells Holds given rests stamp At order start last log (all_timed log timed) by_it front (known_all last.seats called taken)
