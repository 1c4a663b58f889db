-- What a compositor's seats knew behind each vsync, with stamps, is how the histories of the whole run began.
use Rattle.std.proofs.Common.{◌≡◌, ℕ, ◌==◌, List, [], ◌∷◌, ap, sym, ◌∙◌, refl, subst, inl, inr}
use Rattle.std.specs.List.{AllZip}
use Rattle.std.proofs.lemmas.Bool.{cases_Bool}
use Rattle.atomic_table.specs.Seated.{TableId}
use Rattle.law_threads.specs.sf_calls.Histories.{Begins}
use Rattle.law_threads.specs.sf_surface.Tokens.{Issued, ReadLeaseOf}
use Rattle.law_threads.specs.sf_turns.Views.{SeatView}
use Rattle.law_threads.specs.sf_txn.declared.lease.Lease.{Ghosts}
use Rattle.law_threads.specs.sf_script_scene.Scene.{SceneValue}
use Rattle.law_threads.specs.sf_actor.Plain.{PlainOf}
use Rattle.law_threads.specs.sf_live_seats.declared.first.FirstSeats.{FirstSeats}
use Rattle.law_threads.specs.sf_live_seats.declared.locks.Locks.{Locks}
use Rattle.law_threads.specs.sf_live_seats.declared.locks.QueueLock.{QueueLock}
use Rattle.law_threads.specs.sf_live_seats.declared.seats.Seats.{Seats}
use Rattle.law_threads.specs.sf_live_seats.Moves.{MovesPass}
use Rattle.law_threads.specs.sf_live_seats.Passes.{KeepsOwn}
use Rattle.law_threads.specs.sf_live_seats.Seats.{IsPassOf, QueuePass, is_at, mark_in}
use Rattle.law_threads.specs.sf_live_threads.Walks.{Moment}
use Rattle.law_joins.specs.Fronts.{AllFronts}
use Rattle.law_joins.proofs.Fronts.{begins_on}
use Rattle.law_joins.proofs.SeatsTakenIn.{meets_arrivals}
use Rattle.law_threads.specs.Joining.{Joins, MeetsAll}
use Rattle.law_threads.specs.Members.{seen_at}
use Rattle.law_threads.specs.sf_live_compositor.Vsyncs.{Begin, More, Sitting, Vsyncs}

module _ {B : Type 0} where
  abbrev BeginsPass : QueuePass B → QueuePass B → Type 0
  BeginsPass was now = Begins was.seen now.seen

  begin_twice : (first second third : List (QueuePass B)) → AllZip BeginsPass first second → AllZip BeginsPass second third → AllZip BeginsPass first third
  begin_twice [] [] [] one two = tt
  begin_twice [] [] (r ∷ third) one two = absurd two
  begin_twice [] (q ∷ second) third one two = absurd one
  begin_twice (p ∷ first) [] third one two = absurd one
  begin_twice (p ∷ first) (q ∷ second) [] one two = absurd two
  begin_twice (p ∷ first) (q ∷ second) (r ∷ third) one two = (begins_on p.seen q.seen r.seen one.0 two.0, begin_twice first second third one.1 two.1)

  begin_moved : (old new : List (QueuePass B)) → AllZip MovesPass old new → AllZip BeginsPass old new
  begin_moved [] [] moves = tt
  begin_moved [] (q ∷ new) moves = absurd moves
  begin_moved (p ∷ old) [] moves = absurd moves
  begin_moved (p ∷ old) (q ∷ new) moves = (moves.0.begins, begin_moved old new moves.1)

  begin_kept : (old new : List (QueuePass B)) → AllZip KeepsOwn old new → AllZip BeginsPass old new
  begin_kept [] [] kept = tt
  begin_kept [] (q ∷ new) kept = absurd kept
  begin_kept (p ∷ old) [] kept = absurd kept
  begin_kept (p ∷ old) (q ∷ new) kept = (kept.0.begins, begin_kept old new kept.1)

  begin_same : (passes : List (QueuePass B)) → AllZip BeginsPass passes passes
  begin_same [] = tt
  begin_same (p ∷ passes) = (([], refl), begin_same passes)

  meets_begin : (start : FirstSeats B) (met : List (Seats B)) (new : FirstSeats B) → MeetsAll start met new → AllZip BeginsPass start.seats.queues.items new.seats.queues.items
  meets_begin start [] new meets = subst (λ (f : FirstSeats B). AllZip BeginsPass start.seats.queues.items f.seats.queues.items) meets (begin_same start.seats.queues.items)
  meets_begin start (seats ∷ met) new meets =
      begin_twice start.seats.queues.items meets.0.seats.queues.items new.seats.queues.items (begin_kept start.seats.queues.items meets.0.seats.queues.items meets.1.queues) (meets_begin meets.0 met new meets.2)

  -- passes of the same locks show the calls on a queue
  seen_begin : (by other queue : ℕ) (locks : List (QueueLock B)) (old new : List (QueuePass B)) → AllZip (IsPassOf by) locks old → AllZip (IsPassOf other) locks new → AllZip BeginsPass old new
      → Begins (seen_at queue old) (seen_at queue new)
  seen_begin by other queue [] [] [] own now begin = ([], refl)
  seen_begin by other queue [] [] (q ∷ new) own now begin = absurd begin
  seen_begin by other queue [] (p ∷ old) new own now begin = absurd own
  seen_begin by other queue (l ∷ locks) [] new own now begin = absurd own
  seen_begin by other queue (l ∷ locks) (p ∷ old) [] own now begin = absurd begin
  seen_begin by other queue (l ∷ locks) (p ∷ old) (q ∷ new) own now begin =
      let same : is_at queue q ≡ is_at queue p = ap (λ m. (mark_in m).queue.0 == queue) (now.0.marked ∙ sym own.0.marked) in
      let rest = seen_begin by other queue locks old new own.1 now.1 begin.1 in
      elim (cases_Bool (is_at queue p)) [
        | inl met ↦ rw (met, same ∙ met) begin.0
        | inr unmet ↦ rw (unmet, same ∙ unmet) rest
      ]

module _ {B : Type 0} (lease : Ghosts ReadLeaseOf SeatView ReadLeaseOf Issued) (table : TableId) (locks : Locks B) (period : ℕ) (first : FirstSeats B)
    (own : AllZip (IsPassOf first.seats.by) locks.queues.items first.seats.queues.items) where
  log_fronts : (start last : Sitting B) (log : Vsyncs lease table locks period start last) → AllZip BeginsPass last.seats.queues.items first.seats.queues.items
      → Begins last.seats.arrivals.seen first.seats.arrivals.seen → AllFronts lease table locks period first log
  log_fronts start last Begin begin arrivals = tt
  log_fronts start last (More {before} {after} log v) begin arrivals = (
    log_fronts start before log
        (begin_twice before.seats.queues.items after.seats.queues.items first.seats.queues.items (begin_moved before.seats.queues.items after.seats.queues.items v.stays.passes) begin)
        (begins_on before.seats.arrivals.seen after.seats.arrivals.seen first.seats.arrivals.seen v.stays.begins arrivals),
    record { queues = λ queue. seen_begin after.seats.by first.seats.by queue locks.queues.items after.seats.queues.items first.seats.queues.items v.own.queues own begin; arrivals = arrivals },
  )

module _ {B : Type 0} (lease : Ghosts ReadLeaseOf SeatView ReadLeaseOf Issued) (scene : SceneValue) (table : TableId) (period most : ℕ) (locks : Locks B) (last : Sitting B) (ends : List (Moment B)) (desk : PlainOf B)
    (j : Joins lease scene table period most locks last ends desk) where
  pub joined_fronts : AllFronts lease table locks period j.first j.log
  joined_fronts =
      log_fronts lease table locks period j.first j.is_first.own.queues j.begins last j.log
      (subst (λ (seats : Seats B). AllZip BeginsPass seats.queues.items j.first.seats.queues.items) j.at_last (meets_begin j.attended j.reunited j.first j.met))
      (subst (λ (seats : Seats B). Begins seats.arrivals.seen j.first.seats.arrivals.seen) j.at_last (meets_arrivals j.attended.seats.by j.attended j.reunited j.first refl j.met).begins)
