-- A run whose actors came back is joined, with whatever desk its locks are closed to.
use Rattle.std.proofs.Common.{◌≡◌, ℕ, ◌≤◌, List, [], ◌∷◌, map, ap, ◌∙◌, refl, sym, subst}
use Rattle.std.specs.List.{AllByRecursion, AllZip}
use Rattle.atomic_table.specs.Seated.{TableId}
use Rattle.sf_picture.specs.declared.picture.Picture.{Picture}
use Rattle.sf_live_compositor.specs.sf_surface.Tokens.{Issued, ReadLeaseOf}
use Rattle.sf_turns.specs.Views.{SeatView}
use Rattle.sf_live_compositor.specs.sf_txn.declared.lease.Lease.{Ghosts}
use Rattle.sf_live_compositor.specs.sf_commit.Handlers.{new_handler}
use Rattle.sf_script_scene.specs.Limits.{most_layers}
use Rattle.sf_live_compositor.specs.sf_actor.Plain.{PlainOf}
use Rattle.sf_live_compositor.specs.sf_actor_steps.declared.actor.Actor.{Actor}
use Rattle.sf_live_compositor.specs.sf_actor_set.Opening.{new_actors}
use Rattle.sf_live_compositor.specs.law_played.Frames.{plan_of}
use Rattle.sf_live_compositor.specs.sf_live_seats.declared.first.FirstSeats.{FirstSeats}
use Rattle.sf_live_compositor.specs.sf_live_seats.declared.locks.Locks.{Locks}
use Rattle.sf_live_compositor.specs.sf_live_seats.declared.seats.Seats.{Seats}
use Rattle.sf_live_compositor.specs.sf_live_seats.First.{HasAll, IsFirst, KnowsNothing, took_of}
use Rattle.sf_live_compositor.specs.sf_live_seats.Reuniting.{Reunites}
use Rattle.sf_live_compositor.specs.sf_live_threads.declared.all_returned.AllReturned.{AllReturned}
use Rattle.sf_live_compositor.specs.sf_live_threads.declared.seated_actor.SeatedActor.{SeatedActor}
use Rattle.sf_live_compositor.specs.sf_live_threads.Seating.{GetsSeats, GivesEach}
use Rattle.sf_live_compositor.specs.sf_live_threads.SeatedActors.{Came}
use Rattle.sf_live_compositor.specs.sf_live_threads.Meeting.{as_returned}
use Rattle.sf_live_compositor.specs.sf_live_threads.Returns.{Returns}
use Rattle.sf_live_compositor.proofs.sf_live_threads_lemmas.MeetLemmas.{finished_took}
use Rattle.sf_live_compositor.specs.Sitting.{Sits}
use Rattle.law_live_order.specs.law_joins.law_threads.Joining.{Joins}
use Rattle.law_live_order.specs.law_joins.SeatedActors.{IsUnused, WalkedBack, actor_of_seated}
use Rattle.law_live_order.proofs.law_joins_lemmas.WalkingBack.{all_walked}
use Rattle.sf_live.specs.declared.opening.Opened.{Opened}
use Rattle.sf_live.specs.Openings.{IsOpen}
use Rattle.sf_live.specs.inner.Threads.{AreClosedTo, HasPassedOwn, HasRun, RunOf, returned_actor}
use Rattle.sf_live.proofs.GateLemmas.{brought_back}

module _ {B : Type 0} where
  -- the first seats after they gave some, where nothing was called before
  pub record HasGiven (first after_seating : FirstSeats B) : Type 0 where
    pub nothing : KnowsNothing after_seating.seats
    pub step : after_seating.seats.last.step ≡ first.seats.last.step
    pub signals : after_seating.seats.times.knows.signals ≡ first.seats.times.knows.signals
    pub leaves : after_seating.seats.turns.leaves ≡ first.seats.turns.leaves
    pub took : took_of after_seating ≡ took_of first

  pub has_given : (first : FirstSeats B) (callers : List ℕ) (after_seating : FirstSeats B) → KnowsNothing first.seats → GivesEach first callers after_seating → HasGiven first after_seating
  has_given first [] after_seating nothing gives = subst (HasGiven first) gives (record { nothing = nothing; step = refl; signals = refl; leaves = refl; took = refl })
  has_given first (caller ∷ callers) after_seating nothing gives =
      let one = gives.1 in
      let rest = has_given gives.0 callers after_seating one.nothing gives.2 in
      record {
        nothing = rest.nothing;
        step = rest.step ∙ ap (λ c. c.step) one.last;
        signals = rest.signals ∙ ap (λ t. t.knows.signals) one.times;
        leaves = rest.leaves ∙ ap (λ t. t.leaves) one.turns;
        took = rest.took ∙ one.took;
      }

  all_unused : (table : TableId) (locks : Locks B) (known : Seats B) (actors : List (Actor B)) (sent : List (SeatedActor B)) → AllZip (GetsSeats table locks known) actors sent → AllByRecursion IsUnused sent
  all_unused table locks known [] [] gets_seats = tt
  all_unused table locks known [] (s ∷ sent) gets_seats = absurd gets_seats
  all_unused table locks known (a ∷ actors) [] gets_seats = absurd gets_seats
  all_unused table locks known (a ∷ actors) (s ∷ sent) gets_seats = (gets_seats.0.fresh.nothing, all_unused table locks known actors sent gets_seats.1)

  returned_are : (back : List (SeatedActor B)) → map returned_actor (map as_returned back) ≡ map actor_of_seated back
  returned_are [] = refl
  returned_are (seated_actor ∷ back) = ap (λ (actors : List (Actor B)). seated_actor.actor ∷ actors) (returned_are back)

module _ {B V : Type 0} (lease : Ghosts ReadLeaseOf SeatView ReadLeaseOf Issued) (table : TableId) (run : RunOf B) (opened : Opened B) (opens : IsOpen run.scene table opened) (unused : KnowsNothing opened.first.seats)
    (keeps : V → Locks B → FirstSeats B → Type 0) (visitor : V) (all_returned : AllReturned B) (first : IsFirst table opened.locks all_returned.first) (all : HasAll all_returned.first)
    (returns : Returns keeps table opened.locks opened.pictures opened.first opened.actors.items visitor all_returned) (at_last : returns.attended.seats ≡ run.last.seats)
    (sits : Sits lease table opened.locks run.scene.period (plan_of run.scene) (most_layers run.scene.version) run.timelines run.before run.now run.screens run.last) where
  walked : WalkedBack run.scene table opened.locks (new_actors opens.declared opens.stock) returns.back
  walked =
      all_walked run.scene table opened.locks opened.first.seats opens.declared opens.stock opened.actors.items returns.sent returns.back opens.actors opens.newcomers returns.gets_seats
      (all_unused table opened.locks opened.first.seats opened.actors.items returns.sent returns.gets_seats)
      (subst (λ (pictures : List Picture). AllZip (Came table opened.locks pictures) returns.sent returns.back) opens.pictures returns.came)

  given : HasGiven opened.first returns.after_seating
  given = has_given opened.first _ returns.after_seating unused returns.gives

  -- a plan has the size of its scene's display
  handler_of : new_handler {L = ReadLeaseOf} (plan_of run.scene).width (plan_of run.scene).height (most_layers run.scene.version) ≡ new_handler run.scene.width run.scene.height (most_layers run.scene.version)
  unfolding plan_of
  handler_of = refl

  abbrev joined_with : (desk : PlainOf B) → AreClosedTo opened.locks all_returned.first desk → Joins lease run.scene table run.scene.period (most_layers run.scene.version) opened.locks run.last walked.ends desk
  joined_with desk closed = record {
    limits = opens.limits;
    marks = opens.marks;
    declared = opens.declared;
    sorted = opens.sorted;
    stock = opens.stock;
    once = opens.once;
    below = opens.below;
    starts = walked.starts;
    new = walked.new;
    new_seats = walked.new_seats;
    came = walked.came;
    begins = sits.start;
    handler = sits.fresh.handler ∙ handler_of;
    number = sits.fresh.number;
    nothing = sits.fresh.nothing;
    no_leaves = sits.fresh.no_leaves;
    no_signals = sits.fresh.no_signals;
    log = sits.log;
    attended = returns.met.finished;
    at_last = returns.met.finishes.same ∙ ap (λ (seats : Seats B). record seats { intake = returns.met.finished.seats.intake; last = returns.met.finished.seats.last }) at_last;
    none_taken = finished_took returns.attended returns.met.finished returns.met.finishes ∙ returns.attends.given.took ∙ given.took ∙ opens.none_taken;
    first = all_returned.first;
    reunited = returns.met.reunited;
    reunites = subst (λ (seats : List (Seats B)). AllZip (Reunites opened.locks) seats returns.met.reunited) (sym walked.seats) returns.met.reunites;
    met = returns.met.met;
    is_first = first;
    has_all = all;
    closes = closed.closes;
    ordered = closed.ordered;
    goes_on = closed.goes_on;
    nobody = closed.nobody;
  }

  pub has_run : run.last.number ≤ 2147483648 → HasRun lease table run opened.locks opened.pictures all_returned
  has_run few = record {
    pictured = opens.pictures;
    few = few;
    ends = walked.ends;
    actors = walked.actors ∙ sym (returned_are returns.back) ∙ ap (map returned_actor) (sym returns.returned);
    gates = subst (AllByRecursion HasPassedOwn) (sym returns.returned) (brought_back table opened.locks opened.pictures returns.sent returns.back returns.came);
    joins = joined_with;
    shows = λ desk closed. record { written = sits.written };
  }
