-- What the compositor knew, with stamps, is how the histories began; so a player stands at the join.
use Rattle.std.proofs.Common.{ℕ, ◌≤◌, List, map, subst}
use Rattle.atomic_table.specs.Seated.{TableId}
use Rattle.law_threads.specs.sf_calls.Histories.{IsLegal}
use Rattle.law_threads.specs.sf_surface.declared.mark.QueueMark.{QueueMark}
use Rattle.law_threads.specs.sf_surface.Histories.{Answers}
use Rattle.law_threads.specs.sf_surface.Tokens.{Issued, ReadLeaseOf}
use Rattle.law_threads.specs.sf_turns.Views.{SeatView}
use Rattle.law_threads.specs.sf_txn.declared.lease.Lease.{Ghosts}
use Rattle.law_threads.specs.sf_script_scene.Scene.{SceneValue}
use Rattle.law_threads.specs.sf_actor.Desks.{mark_among}
use Rattle.law_threads.specs.sf_actor.Plain.{PlainOf, home_of as plain_home, view_of as plain_view}
use Rattle.law_threads.specs.sf_live_seats.declared.locks.Locks.{Locks}
use Rattle.law_threads.specs.sf_live_threads.Walks.{Moment}
use Rattle.law_threads.specs.law_rights.PlaceTries.{TellsPlaces}
use Rattle.law_threads.specs.law_rights.Standing.{LedgerStands, state_of}
use Rattle.law_threads.specs.law_rights.Vsyncs.{IsOfTurns}
use Rattle.law_threads.specs.law_draws.Placed.{calls_of}
use Rattle.law_threads.specs.law_draws.Standing.{RightsStand}
use Rattle.law_threads.specs.Joining.{of_at}
use Rattle.law_threads.specs.Members.{AreTied, AreTimed, stamps}
use Rattle.law_threads.specs.Stamped.{AreStamped}
use Rattle.law_threads.specs.sf_live_compositor.Vsyncs.{Begin, More, Sitting, Vsyncs}
use Rattle.law_joins.specs.Fronts.{AllFronts}
use Rattle.law_joins.proofs.Stamps.{joined_fronts}
use Rattle.law_threads.specs.sf_live_seats.declared.first.FirstSeats.{FirstSeats}
use Rattle.law_threads.proofs.StampBounds.{vsyncs_timed}
use Rattle.law_threads.proofs.RightsAtTiedJoin.{ledger_join, rights_join}
use Rattle.law_threads.specs.sf_play.Standing.{IsStanding, StandsInRun}
use Rattle.law_joins.specs.Joined.{IsJoined, player_joined, so_joined}
use Rattle.law_joins.proofs.PlayerAtJoin.{called, draws_placed, first_by, is_standing, stands_in_run}
use Rattle.law_threads.proofs.sf_play_lemmas.HandlerLeases.{OfFrames}
use Rattle.law_joins.proofs.WritesAtJoin.{KnowsByCounts}

module _ {B : Type 0} (lease : Ghosts ReadLeaseOf SeatView ReadLeaseOf Issued) (table : TableId) (locks : Locks B) (period : ℕ) (first : FirstSeats B) where
  all_stamped : (start last : Sitting B) (log : Vsyncs lease table locks period start last) → AllFronts lease table locks period first log → AreStamped lease table locks period first log
  all_stamped start last Begin fronts = tt
  all_stamped start last (More {before} {after} log v) fronts = (all_stamped start before log fronts.0, record { queues = fronts.1.queues; arrivals = fronts.1.arrivals })

module _ {B : Type 0} (lease : Ghosts ReadLeaseOf SeatView ReadLeaseOf Issued) (scene : SceneValue) (table : TableId) (period most : ℕ) (locks : Locks B) (last : Sitting B) (ends : List (Moment B)) (desk : PlainOf B)
    (is : IsJoined lease scene table period most locks last ends desk) (frames : OfFrames lease) (by_counts : KnowsByCounts lease) (of_turns : IsOfTurns lease) (tells : TellsPlaces lease)
    (few : last.number ≤ 2147483648) where
  stamped : AreStamped lease table locks period is.joins.first is.joins.log
  stamped = all_stamped lease table locks period is.joins.first is.joins.begins last is.joins.log (joined_fronts lease scene table period most locks last ends desk is.joins)

  in_order : (bound : ℕ → ℕ) × ((n m : ℕ) → n ≤ m → bound n ≤ bound m) × AreTimed lease table locks period (stamps is.joins.first) bound is.joins.log
  in_order = vsyncs_timed lease table locks period is.joins.first is.joins.begins last is.joins.log (first_by lease scene table period most locks last ends desk is) stamped

  tied : AreTied lease table period locks is.joins.begins last is.joins.log is.joins.first desk
  tied = record {
    legal = λ queue. subst (λ (ms : List QueueMark). IsLegal (Answers (mark_among ms queue)) ((plain_view desk).calls queue)) is.joins.closes.marks (is.legal queue);
    called = called lease scene table period most locks last ends desk is;
    callers = is.joins.closes.strangers;
    bound = in_order.0;
    rises = in_order.1;
    timed = in_order.2;
  }

  ledger : LedgerStands table.slots (plain_home desk) (plain_view desk) (map of_at ends) last.handler
  ledger = ledger_join lease scene table period most locks last ends desk is.joins of_turns tells tied

  rights : RightsStand scene (calls_of (plain_home desk) (plain_view desk)) (state_of (plain_home desk) (plain_view desk) (map of_at ends) last.handler)
  rights = rights_join lease scene table period most locks last ends desk is.joins of_turns tells tied

  pub tied_in_run : StandsInRun table scene (so_joined lease scene table period most locks last ends desk is) (player_joined scene ends desk last)
  tied_in_run = stands_in_run lease scene table period most locks last ends desk is frames by_counts ledger few rights.makers (draws_placed lease scene table period most locks last ends desk is frames by_counts ledger rights)

  pub tied_standing : IsStanding table (player_joined scene ends desk last)
  tied_standing = is_standing lease scene table period most locks last ends desk is frames by_counts ledger few rights.makers (draws_placed lease scene table period most locks last ends desk is frames by_counts ledger rights)
