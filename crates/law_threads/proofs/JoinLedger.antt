-- The ledger at the join of a run in threads, of what each caller did.
use Rattle.std.proofs.Common.{◌≡◌, ℕ, List, [], ◌∷◌, ◌++◌, ap, ◌∙◌, sym, refl, subst, map}
use Rattle.std.specs.Prelude.{Contains}
use Rattle.std.specs.List.{All, AllZip, flat_map}
use Rattle.std.proofs.lemmas.List.{append-nil}
use Rattle.std.proofs.lemmas.List.Elements.{All-contains, All-head, All-tail}
use Rattle.atomic_table.specs.Seated.{TableId}
use Rattle.law_draws.specs.sf_calls.Histories.{IsLegal}
use Rattle.sf_script_scene.specs.Ranges.{IsStep}
use Rattle.sf_script_scene.specs.Scene.{SceneValue}
use Rattle.sf_script_scene.specs.declared.step.Step.{Step}
use Rattle.law_draws.specs.sf_surface.Histories.{Answers}
use Rattle.law_draws.specs.sf_actor.Desks.{mark_among}
use Rattle.law_draws.specs.sf_actor.Plain.{PlainOf, home_of as plain_home, view_of as plain_view}
use Rattle.law_draws.specs.sf_actor.Scripts.{picture_at}
use Rattle.law_draws.specs.sf_actor.Tries.{ActorOf}
use Rattle.law_draws.specs.sf_actor_steps.Playable.{IsPlayable, MayPlay}
use Rattle.sf_live_compositor.specs.sf_live_seats.declared.first.FirstSeats.{FirstSeats}
use Rattle.sf_live_compositor.specs.sf_live_seats.declared.locks.Locks.{Locks}
use Rattle.sf_live_compositor.specs.sf_live_seats.Closing.{Closes, IsOrdered}
use Rattle.sf_live_compositor.specs.sf_live_seats.Seats.{AreSeats, home_of, marks_of, view_of}
use Rattle.sf_live_compositor.specs.sf_live_threads.Walks.{Moment}
use Rattle.law_draws.specs.law_rights.Standing.{state_of}
use Rattle.law_draws.specs.law_rights.States.{AreApart, State}
use Rattle.law_draws.specs.law_rights.Vsyncs.{lease_on}
use Rattle.law_draws.proofs.law_played_lemmas.Members.{has_here, has_later}
use Rattle.law_threads.specs.Cuts.{Event, Local, MakesAt, many_of, state_at}
use Rattle.law_threads.specs.Joining.{CameBack, HasNewSeats, of_at}
use Rattle.law_threads.specs.Lifts.{local_of}
use Rattle.sf_live_compositor.specs.Vsyncs.{Sitting}
use Rattle.law_threads.proofs.AllCallers.{AreMembers, IsMember, Member, assembled, by_of, first_of, last_of}
use Rattle.law_threads.proofs.LedgerViews.{IsClose, RestsKept}
use Rattle.law_threads.proofs.ReturnedSeats.{AtJoin}
use Rattle.law_threads.proofs.FirstAndLastStates.{ends_close}
use Rattle.law_threads.proofs.ActorAsCaller.{LiftsAll, all_rise, is_member, member}
use Rattle.law_threads.specs.Members.{stamps, AllOnce, number_at, sitting_at, whole_of}

module _ {B : Type 0} where
  -- what an actor holds at a moment
  abbrev pub local_at : Moment B → Local B
  local_at moment = local_of moment.of [] (view_of moment.seats).turns.leaves

module _ {B : Type 0} (scene : SceneValue) (table : TableId) (locks : Locks B) (first : FirstSeats B) (desk : PlainOf B) (closes : Closes locks first desk) (ordered : IsOrdered first) (own_first : AreSeats table locks first.seats)
    (apart : AreApart (marks_of locks)) (legal : (queue : ℕ) → IsLegal (Answers (mark_among (marks_of locks) queue)) ((plain_view desk).calls queue))
    (Holds : State B → Type 0) (lifted : LiftsAll table locks first desk closes ordered own_first apart legal (picture_at scene.pictures) Holds)
    (rests : RestsKept (whole_of desk) Holds) where
  -- all actors as callers of the whole run
  pub record AreCallers (starts ends : List (Moment B)) : Type 0 where
    pub members : List (Member B)
    pub are : AreMembers (whole_of desk) Holds (stamps first) members
    pub bys : map by_of members ≡ map number_at ends
    pub firsts : map first_of members ≡ map local_at starts
    pub lasts : map last_of members ≡ map local_at ends

  steps_range : (home : _) (pictures : _) (moment : Moment B) → MayPlay home pictures moment.of.script → (s : Step) → Contains moment.of.script.steps s → IsStep s
  steps_range home pictures moment plays s there = (All-contains (IsPlayable home) moment.of.script.steps s plays.playable there).ranges

  pub callers_of : (starts ends : List (Moment B)) → AllZip (CameBack scene table locks) starts ends → All (HasNewSeats scene table locks) starts → ((moment : Moment B) → Contains ends moment → AtJoin locks first desk moment.seats)
      → ((start end : Moment B) → CameBack scene table locks start end → Contains ends end → (number queue place : ℕ) → Contains start.of.stock number → (makes : MakesAt (whole_of desk) number queue place) → makes.made.by ≡ end.seats.by)
      → ((start end : Moment B) → CameBack scene table locks start end → HasNewSeats scene table locks start → end.seats.by ≡ start.of.script.number)
      → AreCallers starts ends
  callers_of [] [] came new_seats join owner served = record { members = []; are = tt; bys = refl; firsts = refl; lasts = refl }
  callers_of [] (end ∷ ends) came new_seats join owner served = absurd came
  callers_of (start ∷ starts) [] came new_seats join owner served = absurd came
  callers_of (start ∷ starts) (end ∷ ends) came new_seats join owner served =
      let rest = callers_of starts ends came.1 (All-tail (HasNewSeats scene table locks) start starts new_seats) (λ moment there. join moment (has_later end moment ends there))
      (λ first_one last_one back there. owner first_one last_one back (has_later end last_one ends there)) served in
      record {
        members = one ∷ rest.members;
        are = (is_one, rest.are);
        bys = ap (λ (ns : List ℕ). end.seats.by ∷ ns) rest.bys;
        firsts = ap (λ (ls : List (Local B)). local_at start ∷ ls) rest.firsts;
        lasts = ap (λ (ls : List (Local B)). local_at end ∷ ls) rest.lasts;
      }
    where
      has_new_seats : HasNewSeats scene table locks start
      has_new_seats = All-head (HasNewSeats scene table locks) start starts new_seats

      joined : AtJoin locks first desk end.seats
      joined = join end (has_here end ends)

      one : Member B
      one = member table locks first desk closes ordered own_first apart legal (picture_at scene.pictures) Holds lifted rests start end came.0.walk has_new_seats.sound came.0.own (served start end came.0 has_new_seats)
          (steps_range (home_of locks start.seats) scene.pictures start has_new_seats.plays) has_new_seats.nothing joined
          (owner start end came.0 (has_here end ends))

      is_one : IsMember (whole_of desk) Holds (stamps first) one
      is_one = is_member table locks first desk closes ordered own_first apart legal (picture_at scene.pictures) Holds lifted rests start end came.0.walk has_new_seats.sound came.0.own (served start end came.0 has_new_seats)
          (steps_range (home_of locks start.seats) scene.pictures start has_new_seats.plays) has_new_seats.nothing joined
          (owner start end came.0 (has_here end ends))

  -- the ledger at the end, from that at the beginning
  module _ (starts ends : List (Moment B)) (callers : AreCallers starts ends) (begins last : Sitting B) (rest : List (List (Event B)))
      (compositor : IsMember (whole_of desk) Holds (stamps first) (record {
        by = 0;
        rest = rest;
        first = sitting_at begins.handler.pending (map lease_on begins.handler.on) begins.seats.turns.leaves;
        last = sitting_at last.handler.pending (map lease_on last.handler.on) last.seats.turns.leaves;
      }))
      (once : (queue : ℕ) → AllOnce (0 ∷ map number_at ends) ((plain_view desk).calls queue)) (once_sent : AllOnce (0 ∷ map number_at ends) desk.arrivals)
      (leaves : last.seats.turns.leaves ++ flat_map (λ (moment : Moment B). (view_of moment.seats).turns.leaves) ends ≡ (plain_view desk).turns.leaves) where
    one : Member B
    one = record {
      by = 0;
      rest = rest;
      first = sitting_at begins.handler.pending (map lease_on begins.handler.on) begins.seats.turns.leaves;
      last = sitting_at last.handler.pending (map lease_on last.handler.on) last.seats.turns.leaves;
    }

    all_lasts : map last_of (one ∷ callers.members) ≡ sitting_at last.handler.pending (map lease_on last.handler.on) last.seats.turns.leaves ∷ map local_at ends
    unfolding one
    all_lasts = ap (λ (ls : List (Local B)). sitting_at last.handler.pending (map lease_on last.handler.on) last.seats.turns.leaves ∷ ls) callers.lasts

    all_bys : map by_of (one ∷ callers.members) ≡ 0 ∷ map number_at ends
    unfolding one
    all_bys = ap (λ (ns : List ℕ). 0 ∷ ns) callers.bys

    actors_are : (moments : List (Moment B)) → flat_map (λ (local : Local B). local.actors) (map local_at moments) ≡ map of_at moments
    actors_are [] = refl
    actors_are (moment ∷ moments) = ap (λ (ofs : List (ActorOf B)). moment.of ∷ ofs) (actors_are moments)

    pending_none : (moments : List (Moment B)) → flat_map (λ (local : Local B). local.pending) (map local_at moments) ≡ []
    pending_none [] = refl
    pending_none (moment ∷ moments) = pending_none moments

    on_none : (moments : List (Moment B)) → flat_map (λ (local : Local B). local.on) (map local_at moments) ≡ []
    on_none [] = refl
    on_none (moment ∷ moments) = on_none moments

    leaves_are : (moments : List (Moment B)) → flat_map (λ (local : Local B). local.leaves) (map local_at moments) ≡ flat_map (λ (moment : Moment B). (view_of moment.seats).turns.leaves) moments
    leaves_are [] = refl
    leaves_are (moment ∷ moments) = ap (λ xs. (view_of moment.seats).turns.leaves ++ xs) (leaves_are moments)

    -- what holds at the beginning holds at the end
    pub joined_holds : Holds (state_at (whole_of desk) (λ lock. 0) (sitting_at begins.handler.pending (map lease_on begins.handler.on) begins.seats.turns.leaves ∷ map local_at starts))
        → Holds (state_at (whole_of desk) (many_of (whole_of desk)) (sitting_at last.handler.pending (map lease_on last.handler.on) last.seats.turns.leaves ∷ map local_at ends))
    unfolding one
    joined_holds holds =
        subst (λ (ls : List (Local B)). Holds (state_at (whole_of desk) (many_of (whole_of desk)) ls)) all_lasts
        (assembled (whole_of desk) Holds (stamps first) (one ∷ callers.members) (compositor, callers.are)
        (λ queue. subst (λ (ns : List ℕ). AllOnce ns ((plain_view desk).calls queue)) (sym all_bys) (once queue))
        (subst (λ (ns : List ℕ). AllOnce ns desk.arrivals) (sym all_bys) once_sent)
        (all_rise table locks first desk closes ordered own_first)
        (subst (λ (ls : List (Local B)). Holds (state_at (whole_of desk) (λ lock. 0) (sitting_at begins.handler.pending (map lease_on begins.handler.on) begins.seats.turns.leaves ∷ ls))) (sym callers.firsts) holds))

    -- and the end is what the desk, the actors and the compositor tell
    pub joined_close : IsClose (state_at (whole_of desk) (many_of (whole_of desk)) (sitting_at last.handler.pending (map lease_on last.handler.on) last.seats.turns.leaves ∷ map local_at ends))
        (state_of (plain_home desk) (plain_view desk) (map of_at ends) last.handler)
    joined_close =
        ends_close desk (sitting_at last.handler.pending (map lease_on last.handler.on) last.seats.turns.leaves ∷ map local_at ends) (map of_at ends) last.handler
        (actors_are ends)
        (ap (λ xs. last.handler.pending ++ xs) (pending_none ends) ∙ append-nil last.handler.pending)
        (ap (λ xs. map lease_on last.handler.on ++ xs) (on_none ends) ∙ append-nil (map lease_on last.handler.on))
        (ap (λ xs. last.seats.turns.leaves ++ xs) (leaves_are ends) ∙ leaves)
