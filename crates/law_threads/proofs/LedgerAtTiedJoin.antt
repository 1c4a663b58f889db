-- The ledger at a join that is tied.
use Rattle.std.proofs.Common.{◌≡◌, ℕ, ◌≤◌, ◌⊎◌, inl, inr, List, [], ◌∷◌, ◌++◌, arith, ap, ◌∙◌, sym, refl, subst, map}
use Rattle.std.specs.Prelude.{Contains, false}
use Rattle.std.specs.List.{All, AllZip, flat_map, list_any}
use Rattle.std.proofs.lemmas.List.Elements.{All-contains, All-head, All-tail}
use Rattle.atomic_table.specs.Seated.{TableId}
use Rattle.sf_script_scene.specs.Scene.{SceneValue}
use Rattle.law_draws.specs.sf_surface.Tokens.{Issued, ReadLeaseOf}
use Rattle.sf_turns.specs.Counts.{stock_at}
use Rattle.sf_turns.specs.Views.{SeatView}
use Rattle.law_draws.specs.sf_token.Pending.{Arrival}
use Rattle.law_draws.specs.sf_txn.declared.lease.Lease.{Ghosts}
use Rattle.law_draws.specs.sf_actor.Plain.{PlainOf, home_of as plain_home, view_of as plain_view}
use Rattle.law_draws.specs.sf_actor.Rights.{Turn}
use Rattle.law_draws.specs.sf_actor.Scripts.{picture_at}
use Rattle.law_draws.specs.sf_actor.Desks.{DeskHome, DeskView, mark_among}
use Rattle.law_draws.specs.sf_actor.Tries.{ActorOf}
use Rattle.law_draws.specs.sf_actor_set.Opening.{new_actors}
use Rattle.law_draws.specs.law_rights.States.{AreApart, State, ledger_of, is_queue}
use Rattle.law_draws.specs.law_rights.Standing.{Begins, LedgerStands, state_of, stock_of}
use Rattle.law_draws.specs.law_rights.Vsyncs.{lease_on, IsOfTurns}
use Rattle.sf_live_compositor.specs.sf_live_seats.declared.locks.Locks.{Locks}
use Rattle.sf_live_compositor.specs.sf_live_seats.Seats.{AreSeats, marks_of, view_of}
use Rattle.law_threads.proofs.Apart.{rising_marks}
use Rattle.law_threads.proofs.CompositorBuffers.{makes_none}
use Rattle.sf_live_compositor.specs.sf_live_seats.First.{gave_of, took_of}
use Rattle.sf_live_compositor.specs.sf_live_seats.declared.seats.Seats.{Seats}
use Rattle.law_draws.proofs.law_played_lemmas.Members.{has_cases, has_first, has_later, has_map, map_has}
use Rattle.law_threads.proofs.DeclaredCallers.{declared_once, each_once, left_all, moment_number, numbers_are, script_number, starts_numbered, took_all}
use Rattle.sf_live_compositor.specs.sf_live_threads.Walks.{Moment}
use Rattle.sf_script_scene.specs.declared.step.ActorScript.{ActorScript}
use Rattle.law_draws.specs.sf_surface.Histories.{Made, Answers}
use Rattle.law_threads.proofs.ReturnedSeats.{AtJoin, at_join, reunited_at, reunited_leaves, reunited_numbers}
use Rattle.law_threads.proofs.BufferOwners.{SeatedAs, seated_as, counted_there, once_there, one_stock, own_stock}
use Rattle.law_threads.specs.Cuts.{Local, MakesAt, many_of, state_at}
use Rattle.law_threads.specs.Joining.{CameBack, HasNewSeats, Joins, of_at}
use Rattle.law_threads.specs.Members.{AllOnce, AreTied, count_of, number_at, seated, whole_of, stamps}
use Rattle.sf_live_compositor.specs.Vsyncs.{Sitting}
use Rattle.law_draws.specs.law_rights.Ledgers.{IsLedger}
use Rattle.law_threads.proofs.LedgerViews.{IsClose, GivesKept, RestsKept}
use Rattle.law_threads.proofs.ActorAsCaller.{LiftsAll}
use Rattle.law_threads.proofs.EmptyLedger.{new_among, new_once, starts_hold}
use Rattle.law_threads.proofs.JoinLedger.{AreCallers, callers_of, joined_close, joined_holds, local_at}
use Rattle.law_threads.proofs.WalkPieces.{walk_by, walk_same}
use Rattle.law_draws.specs.sf_calls.Histories.{GoesOnWithout, IsLegal}
use Rattle.sf_live_compositor.specs.sf_calls_stamped.Stamps.{unstamped}
use Rattle.law_draws.specs.sf_surface.declared.mark.QueueMark.{QueueMark}
use Rattle.law_threads.proofs.AllCallers.{IsMember}
use Rattle.law_threads.proofs.FirstAndLastStates.{not_called}
use Rattle.law_threads.proofs.CompositorAsCaller.{Sits, log_by, met_by, met_on, nobody_script, sits_of, unstamped_on}
use Rattle.law_draws.specs.law_rights.PlaceTries.{TellsPlaces}

module _ {B : Type 0} (lease : Ghosts ReadLeaseOf SeatView ReadLeaseOf Issued) (scene : SceneValue) (table : TableId) (period most : ℕ) (locks : Locks B) (last : Sitting B) (ends : List (Moment B)) (desk : PlainOf B)
    (joins : Joins lease scene table period most locks last ends desk) (Holds : State B → Type 0) (tied : AreTied lease table period locks joins.begins last joins.log joins.first desk) where
  actors_are : (moments : List (Moment B)) → flat_map (λ (local : Local B). local.actors) (map local_at moments) ≡ map of_at moments
  actors_are [] = refl
  actors_are (moment ∷ moments) = ap (λ (ofs : List (ActorOf B)). moment.of ∷ ofs) (actors_are moments)

  pending_none : (moments : List (Moment B)) → flat_map (λ (local : Local B). local.pending) (map local_at moments) ≡ []
  pending_none [] = refl
  pending_none (moment ∷ moments) = pending_none moments

  on_none : (moments : List (Moment B)) → flat_map (λ (local : Local B). local.on) (map local_at moments) ≡ []
  on_none [] = refl
  on_none (moment ∷ moments) = on_none moments

  leaves_none : (moments : List (Moment B)) → All (HasNewSeats scene table locks) moments → flat_map (λ (local : Local B). local.leaves) (map local_at moments) ≡ []
  leaves_none [] new_seats = refl
  leaves_none (moment ∷ moments) new_seats =
      ap (λ (xs : List Turn). xs ++ flat_map (λ (local : Local B). local.leaves) (map local_at moments)) (All-head (HasNewSeats scene table locks) moment moments new_seats).leaves
      ∙ leaves_none moments (All-tail (HasNewSeats scene table locks) moment moments new_seats)

  pub own_apart : AreApart (marks_of locks)
  own_apart = subst AreApart (sym joins.marks) (rising_marks scene joins.limits)

  apart_there : AreApart (whole_of desk).marks
  apart_there = subst AreApart (sym joins.closes.marks) own_apart

  handler_pending : joins.begins.handler.pending ≡ []
  handler_pending = ap (λ handler. handler.pending) joins.handler

  handler_on : joins.begins.handler.on ≡ []
  handler_on = ap (λ handler. handler.on) joins.handler

  own_first : AreSeats table locks joins.first.seats
  own_first = joins.is_first.own

  took_is : took_of joins.first ≡ joins.reunited
  took_is = took_all joins.attended joins.reunited joins.first joins.met ∙ ap (λ (xs : List (Seats B)). xs ++ joins.reunited) joins.none_taken

  leaves : last.seats.turns.leaves ++ flat_map (λ (moment : Moment B). (view_of moment.seats).turns.leaves) ends ≡ (plain_view desk).turns.leaves
  leaves =
      ap (λ (xs : List Turn). last.seats.turns.leaves ++ xs) (sym (reunited_leaves locks ends joins.reunited joins.reunites))
      ∙ ap (λ (seats : Seats B). seats.turns.leaves ++ flat_map (λ (seats : Seats B). (view_of seats).turns.leaves) joins.reunited) (sym joins.at_last)
      ∙ sym (left_all joins.attended joins.reunited joins.first joins.met) ∙ ap (λ (turns : SeatView). turns.leaves) (sym joins.closes.turns)

  declared_are : map moment_number joins.starts ≡ map script_number joins.declared
  declared_are = numbers_are joins.starts joins.declared joins.stock joins.new

  -- the callers' numbers are those of the declared actors
  ends_are : (starts ends : List (Moment B)) → AllZip (CameBack scene table locks) starts ends → All (HasNewSeats scene table locks) starts → map number_at ends ≡ map moment_number starts
  ends_are [] [] came new_seats = refl
  ends_are [] (end ∷ ends) came new_seats = absurd came
  ends_are (start ∷ starts) [] came new_seats = absurd came
  ends_are (start ∷ starts) (end ∷ ends) came new_seats =
      ap (λ (n : ℕ). n ∷ map number_at ends) (walk_by table (picture_at scene.pictures) locks came.0.walk ∙ (All-head (HasNewSeats scene table locks) start starts new_seats).served)
      ∙ ap (λ (ns : List ℕ). start.of.script.number ∷ ns) (ends_are starts ends came.1 (All-tail (HasNewSeats scene table locks) start starts new_seats))

  numbers : map number_at ends ≡ map script_number joins.declared
  numbers = ends_are joins.starts ends joins.came joins.new_seats ∙ declared_are

  -- no actor's number is that of the first caller
  others : (moment : Moment B) → Contains ends moment → moment.seats.by ≡ 0 → ⊥
  others moment there first =
      let named = map_has moment_number joins.starts moment.seats.by
      (subst (λ (ns : List ℕ). Contains ns moment.seats.by) (ends_are joins.starts ends joins.came joins.new_seats) (has_map number_at ends moment there)) in
      starts_numbered scene joins.limits joins.declared joins.sorted joins.stock joins.starts joins.new named.0 named.1 (named.2 ∙ first)

  at_end : (moment : Moment B) → Contains ends moment → AtJoin locks joins.first desk moment.seats
  at_end moment there =
      let taken = reunited_at locks ends joins.reunited joins.reunites moment there in
      at_join locks joins.first desk joins.ordered joins.goes_on moment.seats (others moment there)
      (record { reunited = taken.reunited; there = subst (λ (xs : List (Seats B)). Contains xs taken.reunited) (sym took_is) taken.there; reunites = taken.reunites })

  by_place : (by : ℕ) → (joins.first.seats.by ≡ by) ⊎ Contains (gave_of joins.first) by → Contains (0 ∷ map number_at ends) by
  by_place by (inl same) = has_first 0 by (map number_at ends) (sym joins.is_first.number ∙ same)
  by_place by (inr gave) = has_later 0 by (map number_at ends)
      (subst (λ (ns : List ℕ). Contains ns by) (ap (map (λ (seats : Seats B). seats.by)) took_is ∙ reunited_numbers locks ends joins.reunited joins.reunites) (joins.has_all.all by gave))

  -- each call is one of the compositor's or of one of the actors'
  once : (queue : ℕ) → AllOnce (0 ∷ map number_at ends) ((plain_view desk).calls queue)
  once queue = each_once (0 ∷ map number_at ends)
      (λ n. subst (λ (ns : List ℕ). count_of n (0 ∷ ns) ≤ 1) (sym numbers) (declared_once scene joins.limits joins.declared joins.sorted n))
      ((plain_view desk).calls queue)
      (λ by out. (joins.nobody by (λ there. out (by_place by (has_cases joins.first.seats.by by (gave_of joins.first) there)))).calls queue)

  once_sent : AllOnce (0 ∷ map number_at ends) desk.arrivals
  once_sent = each_once (0 ∷ map number_at ends)
      (λ n. subst (λ (ns : List ℕ). count_of n (0 ∷ ns) ≤ 1) (sym numbers) (declared_once scene joins.limits joins.declared joins.sorted n))
      desk.arrivals
      (λ by out. tied.callers by (λ there. out (by_place by (has_cases joins.first.seats.by by (gave_of joins.first) there))))

  -- the stocks stay
  stocks_same : (starts ends : List (Moment B)) → AllZip (CameBack scene table locks) starts ends → flat_map stock_of (map of_at ends) ≡ flat_map stock_of (map of_at starts)
  stocks_same [] [] came = refl
  stocks_same [] (end ∷ ends) came = absurd came
  stocks_same (start ∷ starts) [] came = absurd came
  stocks_same (start ∷ starts) (end ∷ ends) came =
      ap (λ (xs : List ℕ). xs ++ flat_map stock_of (map of_at ends)) (walk_same table (picture_at scene.pictures) locks came.0.walk).1
      ∙ ap (λ (xs : List ℕ). start.of.stock ++ xs) (stocks_same starts ends came.1)

  stocks_new : flat_map stock_of (map of_at ends) ≡ flat_map (stock_of {B = B}) (new_actors joins.declared joins.stock)
  stocks_new = stocks_same joins.starts ends joins.came ∙ ap (λ (ofs : List (ActorOf B)). flat_map stock_of ofs) joins.new

  served_at : (start end : Moment B) → CameBack scene table locks start end → HasNewSeats scene table locks start → end.of.script.number ≡ end.seats.by
  served_at start end back new_seats =
      ap (λ (script : ActorScript). script.number) (walk_same table (picture_at scene.pictures) locks back.walk).0 ∙ sym (walk_by table (picture_at scene.pictures) locks back.walk ∙ new_seats.served)

  stocks_few : (number : ℕ) → stock_at number (flat_map stock_of (map of_at ends)) ≤ 1
  stocks_few number =
      let most = new_once B number joins.declared joins.stock in
      let one = joins.once number in
      let same = ap (stock_at number) stocks_new in
      omega (arith, most, one, same)

  compositor_makes_none : (number queue place : ℕ) (makes : MakesAt (whole_of desk) number queue place) → makes.made.by ≡ 0 → ⊥
  compositor_makes_none = makes_none lease table locks period joins.begins last joins.log joins.nothing desk tied.called joins.closes.marks own_apart tied.legal

  -- a buffer is made only by the caller whose permit it is
  owner : (start end : Moment B) → CameBack scene table locks start end → Contains ends end → (number queue place : ℕ) → Contains start.of.stock number
      → (makes : MakesAt (whole_of desk) number queue place) → makes.made.by ≡ end.seats.by
  owner start end back there number queue place own makes = by_caller (has_cases 0 makes.made.by (map number_at ends) caller)
    where
      caller : Contains (0 ∷ map number_at ends) makes.made.by
      caller =
          let one = once_there (0 ∷ map number_at ends) makes.later makes.made makes.earlier (subst (λ (cs : List (Made B)). AllOnce (0 ∷ map number_at ends) cs) makes.is (once queue)) in
          counted_there makes.made.by (0 ∷ map number_at ends) (omega (arith, one))

      by_caller : (0 ≡ makes.made.by) ⊎ Contains (map number_at ends) makes.made.by → makes.made.by ≡ end.seats.by
      by_caller (inl first) = absurd (compositor_makes_none number queue place makes (sym first))
      by_caller (inr other) =
          sym found.2 ∙ one_stock number ends (stocks_few number) found.0 end found.1 there its own_end
        where
          found : (y : Moment B) × Contains ends y × (y.seats.by ≡ makes.made.by)
          found = map_has number_at ends makes.made.by other

          its_start : SeatedAs scene table locks joins.starts found.0
          its_start = seated_as scene table locks joins.starts ends joins.came found.0 found.1

          its : Contains found.0.of.stock number
          its = own_stock table (picture_at scene.pictures) locks desk joins.closes.marks own_apart tied.legal found.0 its_start.back.sound
              (served_at its_start.start found.0 its_start.back (All-contains (HasNewSeats scene table locks) joins.starts its_start.start joins.new_seats its_start.there))
              (at_end found.0 found.1).calls_on number queue place makes (sym found.2)

          own_end : Contains end.of.stock number
          own_end = subst (λ (xs : List ℕ). Contains xs number) (sym (walk_same table (picture_at scene.pictures) locks back.walk).1) own

  -- the ledger stands where it is one
  pub tied_stands : IsLedger (ledger_of (state_of (plain_home desk) (plain_view desk) (map of_at ends) last.handler)) → LedgerStands table.slots (plain_home desk) (plain_view desk) (map of_at ends) last.handler
  tied_stands ledger = record {
    ledger = ledger;
    exact = refl;
    apart = apart_there;
    once = stocks_few;
    below = λ number there. joins.below number (new_among B number joins.declared joins.stock (subst (λ (xs : List ℕ). Contains xs number) stocks_new there));
  }

  -- where each try is lifted, and it holds wherever nothing has happened
  module _ (of_turns : IsOfTurns lease) (tells : TellsPlaces lease) (given : GivesKept (whole_of desk) Holds) (rests : RestsKept (whole_of desk) Holds) (lifted : LiftsAll table locks joins.first desk joins.closes joins.ordered joins.is_first.own own_apart tied.legal (picture_at scene.pictures) Holds)
      (from : (home : DeskHome) (view : DeskView B) → home.marks ≡ (plain_home desk).marks → Begins table.slots home view (new_actors joins.declared joins.stock) joins.begins.handler → (other : State B)
      → IsClose (state_of home view (new_actors joins.declared joins.stock) joins.begins.handler) other → Holds other) where
    is_absent : (queue : ℕ) → list_any (is_queue queue) (whole_of desk).marks ≡ false → (plain_view desk).calls queue ≡ []
    is_absent queue none = not_called desk.queues queue none

    legal_there : (queue : ℕ) → IsLegal (Answers (mark_among (whole_of desk).marks queue)) ((plain_view desk).calls queue)
    legal_there queue = subst (λ (ms : List QueueMark). IsLegal (Answers (mark_among ms queue)) ((plain_view desk).calls queue)) (sym joins.closes.marks) (tied.legal queue)

    begins_by : joins.begins.seats.by ≡ 0
    begins_by = sym (log_by lease table locks period joins.log) ∙ ap (λ (seats : Seats B). seats.by) (sym joins.at_last) ∙ sym (met_by joins.attended joins.reunited joins.first joins.met) ∙ joins.is_first.number

    attended_by : joins.attended.seats.by ≡ 0
    attended_by = sym (met_by joins.attended joins.reunited joins.first joins.met) ∙ joins.is_first.number

    arrived_on : GoesOnWithout 0 (unstamped last.seats.arrivals.seen) desk.arrivals
    arrived_on = subst (GoesOnWithout 0 (unstamped last.seats.arrivals.seen)) (sym joins.closes.arrived)
        (unstamped_on 0 last.seats.arrivals.seen joins.first.seats.arrivals.seen
        (subst (λ (seats : Seats B). GoesOnWithout 0 seats.arrivals.seen joins.first.seats.arrivals.seen) joins.at_last
        (subst (λ (n : ℕ). GoesOnWithout n joins.attended.seats.arrivals.seen joins.first.seats.arrivals.seen) attended_by
        (met_on joins.attended joins.reunited joins.first joins.met))))

    -- all vsyncs, behind the beginning
    sits : Sits lease of_turns (whole_of desk) table locks period apart_there is_absent legal_there tells Holds given rests (stamps joins.first) tied.bound tied.rises joins.begins last
    sits = sits_of lease of_turns (whole_of desk) table locks period apart_there is_absent legal_there tells Holds given rests (stamps joins.first) tied.bound tied.rises nobody_script joins.begins last joins.log tied.timed begins_by
        (record { calls = λ queue. (tied.called queue).begins; arriving = arrived_on.begins }) tied.called arrived_on joins.nothing

    compositor : IsMember (whole_of desk) Holds (stamps joins.first) (record { by = 0; rest = sits.rest; first = seated joins.begins; last = seated last })
    compositor = sits.is

    begun : Holds (state_at (whole_of desk) (λ lock. 0) (seated joins.begins ∷ map local_at joins.starts))
    begun = starts_hold (whole_of desk) apart_there table.slots joins.declared joins.stock joins.once joins.below joins.begins.handler handler_pending handler_on (seated joins.begins ∷ map local_at joins.starts)
        (actors_are joins.starts ∙ joins.new)
        (ap (λ (xs : List (Arrival ReadLeaseOf)). xs ++ flat_map (λ (local : Local B). local.pending) (map local_at joins.starts)) handler_pending ∙ pending_none joins.starts)
        (ap (λ xs. map lease_on xs ++ flat_map (λ (local : Local B). local.on) (map local_at joins.starts)) handler_on ∙ on_none joins.starts)
        (ap (λ (xs : List Turn). xs ++ flat_map (λ (local : Local B). local.leaves) (map local_at joins.starts)) joins.no_leaves ∙ leaves_none joins.starts joins.new_seats)
        Holds from

    callers : AreCallers scene table locks joins.first desk joins.closes joins.ordered own_first own_apart tied.legal Holds lifted rests joins.starts ends
    callers = callers_of scene table locks joins.first desk joins.closes joins.ordered own_first own_apart tied.legal Holds lifted rests joins.starts ends joins.came joins.new_seats at_end owner
        (λ start end back new_seats. walk_by table (picture_at scene.pictures) locks back.walk ∙ new_seats.served)

    -- what holds at the beginning holds at the join
    pub tied_holds : Holds (state_at (whole_of desk) (many_of (whole_of desk)) (seated last ∷ map local_at ends))
    tied_holds =
        joined_holds scene table locks joins.first desk joins.closes joins.ordered own_first own_apart tied.legal Holds lifted rests joins.starts ends callers joins.begins last sits.rest compositor
        once once_sent leaves begun

    pub tied_close : IsClose (state_at (whole_of desk) (many_of (whole_of desk)) (seated last ∷ map local_at ends)) (state_of (plain_home desk) (plain_view desk) (map of_at ends) last.handler)
    tied_close =
        joined_close scene table locks joins.first desk joins.closes joins.ordered own_first own_apart tied.legal Holds lifted rests joins.starts ends callers joins.begins last sits.rest compositor
        once once_sent leaves
