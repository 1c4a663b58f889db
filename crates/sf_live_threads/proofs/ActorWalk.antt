-- What an actor's seats do on a walk.
use Rattle.std.proofs.Common.{◌≡◌, ℕ, List, [], ◌∷◌, ◌++◌, sym, ap, ◌∙◌, append_assoc}
use Rattle.std.proofs.lemmas.List.{append-nil}
use Rattle.std.proofs.lemmas.Grind.{flat_map-append}
use Rattle.atomic_table.specs.Seated.{TableId}
use Rattle.sf_picture.specs.declared.picture.Picture.{Picture}
use Rattle.sf_actor_steps.specs.sf_actor.declared.done.Done.{Done}
use Rattle.sf_actor_steps.specs.sf_actor.declared.tried.Stepped.{Stepped}
use Rattle.sf_actor_steps.specs.sf_actor.declared.tried.Stepped.TheVariants as stepped
use Rattle.sf_actor_steps.specs.sf_actor.Desks.{DeskHome, DeskView}
use Rattle.sf_actor_steps.specs.sf_actor.Tries.{ActorOf, Tries}
use Rattle.sf_actor_steps.specs.sf_actor.Written.{signal_of, signals_of}
use Rattle.sf_live_seats.specs.declared.locks.Locks.{Locks}
use Rattle.sf_live_seats.specs.Seats.{home_of, view_of}
use Rattle.sf_live_threads.specs.Walks.{Begin, Moment, More, Signals, Walk, ended_in, ended_on}

module _ {B : Type 0} (pictures : ℕ → Picture) (home : DeskHome) (old : ActorOf B) (before : DeskView B) (new : ActorOf B) (after : DeskView B) where
  leaves_in : (stepped : Stepped) (tries : Tries pictures home old before new after stepped) → after.turns.leaves ≡ before.turns.leaves ++ ended_in pictures home old before new after stepped tries
  leaves_in stepped.Done tries = tries.1.ended
  leaves_in stepped.NotYet tries = tries.left ∙ sym (append-nil before.turns.leaves)
  leaves_in stepped.Ended tries = ap (λ (v : DeskView B). v.turns.leaves) tries.1 ∙ sym (append-nil before.turns.leaves)

  signals_in : (stepped : Stepped) → Tries pictures home old before new after stepped
      → (more : List (ℕ × ℕ)) × (signals_of new.trace ≡ signals_of old.trace ++ more) × (after.times.signals ≡ before.times.signals ++ more)
  signals_in stepped.Done tries = (
    signal_of tries.1.done.step,
    ap signals_of tries.1.trace ∙ (flat_map-append (λ (done : Done). signal_of done.step) old.trace (tries.1.done ∷ []) ∙ ap (λ (l : List (ℕ × ℕ)). signals_of old.trace ++ l) (append-nil (signal_of tries.1.done.step))),
    tries.1.signals,
  )
  signals_in stepped.NotYet tries = ([], ap (λ (a : ActorOf B). signals_of a.trace) tries.same ∙ sym (append-nil (signals_of old.trace)), tries.signals ∙ sym (append-nil before.times.signals))
  signals_in stepped.Ended tries = (
    [],
    ap (λ (a : ActorOf B). signals_of a.trace) tries.0 ∙ sym (append-nil (signals_of old.trace)),
    ap (λ (v : DeskView B). v.times.signals) tries.1 ∙ sym (append-nil before.times.signals),
  )

module _ {B : Type 0} (table : TableId) (pictures : ℕ → Picture) (locks : Locks B) (start : Moment B) where
  pub walk_signals : (last : Moment B) → Walk table pictures locks start last → Signals start last
  walk_signals last Begin = record { more = []; traced = sym (append-nil (signals_of start.of.trace)); seated = sym (append-nil (view_of start.seats).times.signals) }
  walk_signals last (More {before} {after} walk one) =
      let w = walk_signals before walk in
      let s = signals_in pictures (home_of locks before.seats) before.of (view_of before.seats) one.steps.new (view_of after.seats) one.stepped one.steps.tries in record {
        more = w.more ++ s.0;
        traced = ap (λ (a : ActorOf B). signals_of a.trace) (sym one.is) ∙ (s.1 ∙ (ap (λ (l : List (ℕ × ℕ)). l ++ s.0) w.traced ∙ append_assoc (signals_of start.of.trace) w.more s.0));
        seated = s.2 ∙ (ap (λ (l : List (ℕ × ℕ)). l ++ s.0) w.seated ∙ append_assoc (view_of start.seats).times.signals w.more s.0);
      }

  pub walk_leaves : (last : Moment B) (walk : Walk table pictures locks start last) → (view_of last.seats).turns.leaves ≡ (view_of start.seats).turns.leaves ++ ended_on table pictures locks walk
  walk_leaves last Begin = sym (append-nil (view_of start.seats).turns.leaves)
  walk_leaves last (More {before} {after} walk one) =
      let e = ended_in pictures (home_of locks before.seats) before.of (view_of before.seats) one.steps.new (view_of after.seats) one.stepped one.steps.tries in
      leaves_in pictures (home_of locks before.seats) before.of (view_of before.seats) one.steps.new (view_of after.seats) one.stepped one.steps.tries
      ∙ (ap (λ (l : List (ℕ × ℕ)). l ++ e) (walk_leaves before walk) ∙ append_assoc (view_of start.seats).turns.leaves (ended_on table pictures locks walk) e)
