-- A vsync lessens what is left of a play, where it commits something or something waits for its time.
use Rattle.std.proofs.Common.{◌≡◌, ◌≢◌, ℕ, zero, suc, ◌+◌, ◌*◌, ◌≤◌, true, List, [], ◌∷◌, ◌++◌, length, drop, take, refl, sym, ap, ◌∙◌, subst, arith}
use Rattle.std.specs.Prelude.{◌⊎◌}
use Rattle.std.specs.List.{list_any}
use Rattle.atomic_table.specs.Seated.{TableId}
use Rattle.sf_base.specs.declared.fences.Seen.{Seen}
use Rattle.sf_play_report.specs.sf_ready.declared.hold.Hold.{Hold}
use Rattle.sf_play_report.specs.sf_surface.Tokens.{Issued, ReadLeaseOf}
use Rattle.sf_play_report.specs.sf_token.Arrivals.{Calls, sent, waiting}
use Rattle.sf_play_report.specs.sf_turns.Views.{SeatView}
use Rattle.sf_play_report.specs.sf_txn.declared.lease.Lease.{Ghosts}
use Rattle.sf_play_report.specs.sf_commit.Handlers.{Decides}
use Rattle.sf_play_report.specs.sf_commit.Releases.{ReleaseOf, CommittedOf}
use Rattle.sf_play_report.specs.sf_actor.Desks.{DeskHome, DeskView}
use Rattle.sf_play_report.specs.sf_actor.Plain.{PlainOf, home_of, taken_in, view_of}
use Rattle.law_rights.specs.sf_actor_set.ActorSets.{ActorSetOf}
use Rattle.law_rights.proofs.sf_actor_set_lemmas.ArrivalLemmas.{sent_is}
use Rattle.sf_play_report.specs.law_played.Progress.{is_time}
use Rattle.sf_play.specs.Fuel.{now_in, steps_left, to_commit, untaken, work_left}
use Rattle.law_rights.specs.Standing.{GiveAll}
use Rattle.sf_play.specs.Players.{PlayOf, home_in, view_in}
use Rattle.sf_play.specs.Vsyncing.{MakesVsync}
use Rattle.sf_play.proofs.ActionFuel.{same_rest}
use Rattle.sf_play.proofs.WaitingWork.{left_by_vsync, less_by_vsync}

-- nothing is behind all of a list
drop_all : {X : Type 0} (xs : List X) → drop (length xs) xs ≡ []
drop_all [] = refl
drop_all (x ∷ xs) = drop_all xs

front_and_rest : {X : Type 0} (n : ℕ) (xs : List X) → take n xs ++ drop n xs ≡ xs
front_and_rest zero xs = refl
front_and_rest (suc n) [] = refl
front_and_rest {X} (suc n) (x ∷ xs) = ap (λ (ys : List X). x ∷ ys) (front_and_rest n xs)

-- what waits is what was not taken
waiting_is : (calls : Calls ReadLeaseOf SeatView ReadLeaseOf Issued) → waiting calls ≡ drop (taken_in calls) (sent calls)
waiting_is calls =
    same_rest (take (taken_in calls) (sent calls)) (waiting calls) (drop (taken_in calls) (sent calls))
    (sym (sent_is calls) ∙ sym (front_and_rest (taken_in calls) (sent calls)))

next_time : (vsyncs period : ℕ) → (vsyncs + 1) * period ≡ vsyncs * period + period
next_time vsyncs period = grind arith

module _ {B : Type 0} where
  -- frames that go back are no arrivals
  gives_none : (home : DeskHome) (number : ℕ) (releases : List (ReleaseOf ReadLeaseOf)) (old new : DeskView B) → GiveAll home number releases old new → new.arrivals ≡ old.arrivals
  gives_none home number [] old new gives = ap (λ (v : DeskView B). v.arrivals) gives
  gives_none home number (release ∷ later) old new gives =
      gives_none home number later gives.0 new gives.2 ∙ ap (λ (v : DeskView B). v.arrivals) gives.1.made.changes.same

  module _ {R C : Type 0} (lease : Ghosts ReadLeaseOf SeatView R C) (table : TableId) (old new : PlayOf B) (seen : Seen) (told : CommittedOf ReadLeaseOf) (makes : MakesVsync lease table old seen told new) where
    pub same_actors : new.actor_set.actors ≡ old.actor_set.actors
    same_actors =
        ap (λ (c : ActorSetOf B). c.actors) makes.only_gives.same ∙ ap (λ (c : ActorSetOf B). c.actors) makes.only_decides.same
        ∙ ap (λ (c : ActorSetOf B). c.actors) makes.only_takes.same ∙ ap (λ (c : ActorSetOf B). c.actors) makes.only_looks.same

    later : now_in new ≡ now_in old + old.period
    later = ap now_in makes.rest ∙ next_time old.vsyncs old.period

    -- what was taken is what waited
    arrived_is : makes.arrived ≡ untaken old
    arrived_is =
        makes.takes.all ∙ ap (λ (d : PlainOf B). waiting d.arrivals) makes.times ∙ waiting_is old.actor_set.desk.arrivals

    -- and nothing waits then
    none_untaken : untaken new ≡ []
    none_untaken =
        let arrivals : (view_in new).arrivals ≡ sent makes.looked.desk.arrivals =
        gives_none (home_of makes.decided.desk) (old.vsyncs + 1) told.releases (view_of makes.decided.desk) (view_in new) makes.gives
        ∙ ap (λ (d : PlainOf B). sent d.arrivals) makes.turns ∙ makes.takes.stays in
        let taken : (home_in new).taken ≡ length (sent makes.looked.desk.arrivals) =
        ap (λ (h : DeskHome). h.taken) makes.only_gives.home ∙ ap (λ (d : PlainOf B). taken_in d.arrivals) makes.turns ∙ makes.takes.taken in
        (λ i. drop (taken i) (arrivals i)) ∙ drop_all (sent makes.looked.desk.arrivals)

    decides : Decides lease old.handler makes.took.desk.turns makes.arrived seen (now_in old + old.period) told new.handler makes.decided.desk.turns
    decides = subst (λ (expected : ℕ). Decides lease old.handler makes.took.desk.turns makes.arrived seen expected told new.handler makes.decided.desk.turns) (next_time old.vsyncs old.period) makes.decides

    pub work_at_vsync : work_left new ≤ work_left old
    work_at_vsync =
        let steps = ap steps_left same_actors in
        let pending = left_by_vsync lease old.handler new.handler makes.took.desk.turns makes.decided.desk.turns makes.arrived seen (now_in old) old.period told decides in
        let now = ap (λ (n : ℕ). to_commit n new.handler.pending) later in
        let none = ap (to_commit (now_in new)) none_untaken in
        let arrived = ap (to_commit (now_in old)) arrived_is in
        omega (arith, steps, pending, now, none, arrived)

    pub less_at_vsync : 1000000 ≤ old.period → old.period ≤ 1000000000 → (told.commits ≢ []) ⊎ (list_any (λ (one : ℕ × Hold). is_time one.1) told.held ≡ true) → work_left new + 1 ≤ work_left old
    less_at_vsync low high goes_on =
        let steps = ap steps_left same_actors in
        let pending = less_by_vsync lease old.handler new.handler makes.took.desk.turns makes.decided.desk.turns makes.arrived seen (now_in old) old.period told low high decides goes_on in
        let now = ap (λ (n : ℕ). to_commit n new.handler.pending) later in
        let none = ap (to_commit (now_in new)) none_untaken in
        let arrived = ap (to_commit (now_in old)) arrived_is in
        omega (arith, steps, pending, now, none, arrived)
