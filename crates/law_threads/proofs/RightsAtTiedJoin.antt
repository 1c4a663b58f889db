-- What stands of the rights of a run, makers and draws with the ledger, at a join that is tied.
use Rattle.std.proofs.Common.{◌≡◌, ℕ, ◌==◌, true, List, [], ◌∷◌, map, drop, ap, ◌∙◌, sym, refl, subst}
use Rattle.std.specs.Prelude.{Contains, filter}
use Rattle.std.specs.List.{range_with_len}
use Rattle.std.specs.List.Sorted.{IsStrictlyIncreasing}
use Rattle.std.proofs.lemmas.Bool.{eq-eqb}
use Rattle.std.proofs.lemmas.List.Elements.{All-contains_itself, All-weaker}
use Rattle.atomic_table.specs.Seated.{TableId}
use Rattle.law_draws.specs.sf_surface.Tokens.{Issued, ReadLeaseOf}
use Rattle.law_draws.specs.sf_surface.declared.mark.QueueMark.{QueueMark}
use Rattle.sf_turns.specs.Views.{SeatView}
use Rattle.law_draws.specs.sf_txn.declared.lease.Lease.{Ghosts}
use Rattle.sf_script_scene.specs.Scene.{SceneValue, has_queue}
use Rattle.sf_script_scene.specs.declared.declarations.QueueDecl.{QueueDecl}
use Rattle.sf_script_scene.specs.declared.step.ActorScript.{ActorScript}
use Rattle.law_draws.specs.sf_actor.Desks.{DeskHome, DeskView}
use Rattle.law_draws.specs.sf_actor.Plain.{PlainOf, home_of as plain_home, view_of as plain_view}
use Rattle.law_draws.specs.sf_actor.Scripts.{picture_at}
use Rattle.law_draws.specs.sf_actor.Tries.{dequeues_in}
use Rattle.law_draws.specs.sf_actor_set.Opening.{new_actors}
use Rattle.law_draws.proofs.sf_actor_set_lemmas.RisingLemmas.{sorted_rises}
use Rattle.law_draws.specs.law_played.Actors.{mark_declared, number_of}
use Rattle.law_draws.specs.law_played.Histories.{queue_number, rising_queues}
use Rattle.law_draws.proofs.law_played_lemmas.ArrivedFrames.{any_passes}
use Rattle.law_draws.proofs.law_played_lemmas.Members.{filter_has, joined_has, map_has}
use Rattle.sf_live_compositor.specs.sf_live_seats.declared.locks.Locks.{Locks}
use Rattle.sf_live_compositor.specs.sf_live_seats.Seats.{marks_of}
use Rattle.sf_live_compositor.specs.sf_live_threads.Walks.{Moment}
use Rattle.law_draws.specs.law_rights.MakerRuns.{AreDeclared}
use Rattle.law_draws.specs.law_rights.Standing.{Begins, LedgerStands, state_of}
use Rattle.law_draws.specs.law_rights.States.{AreApart, State}
use Rattle.law_draws.specs.Placed.{calls_of}
use Rattle.law_draws.specs.Standing.{RightsStand}
use Rattle.law_draws.proofs.EmptyRun.{rights_begin}
use Rattle.law_threads.specs.Cuts.{HasLedger}
use Rattle.law_threads.specs.Joining.{Joins, of_at}
use Rattle.law_threads.specs.Members.{AreTied, whole_of}
use Rattle.law_threads.specs.Rights.{calls_in}
use Rattle.sf_live_compositor.specs.Vsyncs.{Sitting}
use Rattle.law_threads.proofs.LedgerViews.{IsClose}
use Rattle.law_threads.proofs.RightsOfEvents.{close_rights, comes_rights, rights_given, rights_rest}
use Rattle.law_draws.specs.law_rights.PlaceTries.{TellsPlaces}
use Rattle.law_draws.specs.law_rights.Vsyncs.{IsOfTurns}
use Rattle.law_threads.proofs.LedgerAtTiedJoin.{own_apart, tied_close, tied_holds, tied_stands}
use Rattle.law_threads.proofs.ActorAsCaller.{LiftsAll, absent_home, apart_home, ledger_lifted, legal_home, marks_home}
use Rattle.law_threads.proofs.WalkBlocks.{comes_front, front_on}

-- the queues of a scene are those that it declares
marks_declared : (scene : SceneValue) → AreDeclared scene (map mark_declared (rising_queues scene))
unfolding rising_queues
marks_declared scene = All-weaker (Contains (map mark_declared (rising_queues scene))) (λ (mark : QueueMark). has_queue scene.queues mark.queue.0 ≡ true) each (map mark_declared (rising_queues scene)) (All-contains_itself (map mark_declared (rising_queues scene)))
  where
    each : (mark : QueueMark) → Contains (map mark_declared (rising_queues scene)) mark → has_queue scene.queues mark.queue.0 ≡ true
    each mark there =
        let found = map_has mark_declared (rising_queues scene) mark there in
        let at = joined_has (λ (n : ℕ). filter (λ (queue : QueueDecl). queue_number queue == n) scene.queues) (range_with_len 1 16) found.0 found.1 in
        let among = filter_has (λ (queue : QueueDecl). queue_number queue == at.0) scene.queues found.0 at.2 in
        subst (λ (m : QueueMark). has_queue scene.queues m.queue.0 ≡ true) found.2
        (any_passes (λ (queue : QueueDecl). queue.number == found.0.number) scene.queues found.0 among.0 (eq-eqb found.0.number found.0.number refl))

new_numbers : (B : Type 0) (scripts : List ActorScript) (stock : List ℕ) → map number_of (new_actors {B = B} scripts stock) ≡ map (λ (script : ActorScript). script.number) scripts
new_numbers B [] stock = refl
new_numbers B (script ∷ scripts) stock = ap (λ (ns : List ℕ). script.number ∷ ns) (new_numbers B scripts (drop (dequeues_in script.steps) stock))

module _ {B : Type 0} (lease : Ghosts ReadLeaseOf SeatView ReadLeaseOf Issued) (scene : SceneValue) (table : TableId) (period most : ℕ) (locks : Locks B) (last : Sitting B) (ends : List (Moment B)) (desk : PlainOf B)
    (joins : Joins lease scene table period most locks last ends desk)
    (of_turns : IsOfTurns lease) (tells : TellsPlaces lease)
    (tied : AreTied lease table period locks joins.begins last joins.log joins.first desk) where
  abbrev Stands : State B → Type 0
  Stands = RightsStand scene (calls_in (whole_of desk))

  declared : AreDeclared scene (plain_home desk).marks
  declared = subst (AreDeclared scene) (sym (joins.closes.marks ∙ joins.marks)) (marks_declared scene)

  apart : IsStrictlyIncreasing (map number_of (new_actors {B = B} joins.declared joins.stock))
  apart = subst IsStrictlyIncreasing (sym (new_numbers B joins.declared joins.stock)) (sorted_rises (λ (script : ActorScript). script.number) scene.actors joins.declared joins.limits.actors.differ joins.sorted)

  abbrev own : AreApart (marks_of locks)
  own = own_apart lease scene table period most locks last ends desk joins Stands tied

  rights_lifted : LiftsAll table locks joins.first desk joins.closes joins.ordered joins.is_first.own own tied.legal (picture_at scene.pictures) Stands
  rights_lifted home same was is before after old new begins s came_to tries =
      comes_rights scene (whole_of desk) declared (picture_at scene.pictures) home
      (marks_home table locks joins.first desk joins.closes joins.ordered joins.is_first.own own tied.legal (picture_at scene.pictures) home same)
      (apart_home table locks joins.first desk joins.closes joins.ordered joins.is_first.own own tied.legal (picture_at scene.pictures) home same)
      (legal_home table locks joins.first desk joins.closes joins.ordered joins.is_first.own own tied.legal (picture_at scene.pictures) home same)
      (absent_home table locks joins.first desk joins.closes joins.ordered joins.is_first.own own tied.legal (picture_at scene.pictures) home same)
      was is s before after old new came_to tries
      (λ queue. front_on (old.calls queue) (new.calls queue) ((plain_view desk).calls queue)
      (comes_front (whole_of desk) HasLedger before.by.0 was is old new
      (ledger_lifted table locks joins.first desk joins.closes joins.ordered joins.is_first.own own tied.legal (picture_at scene.pictures) home same was is before after old new begins s came_to tries) queue)
      (begins queue))
      begins

  from : (home : DeskHome) (view : DeskView B) → home.marks ≡ (plain_home desk).marks → Begins table.slots home view (new_actors joins.declared joins.stock) joins.begins.handler → (other : State B)
      → IsClose (state_of home view (new_actors joins.declared joins.stock) joins.begins.handler) other → Stands other
  from home view marks begins other close =
      close_rights scene (calls_in (whole_of desk)) (state_of home view (new_actors joins.declared joins.stock) joins.begins.handler) other (subst (AreDeclared scene) (sym marks) declared) close
      (rights_begin scene (calls_in (whole_of desk)) table.slots home view (new_actors joins.declared joins.stock) joins.begins.handler apart begins)

  pub rights_join : RightsStand scene (calls_of (plain_home desk) (plain_view desk)) (state_of (plain_home desk) (plain_view desk) (map of_at ends) last.handler)
  rights_join =
      close_rights scene (calls_in (whole_of desk)) _ (state_of (plain_home desk) (plain_view desk) (map of_at ends) last.handler) declared
      (tied_close lease scene table period most locks last ends desk joins Stands tied of_turns tells (rights_given scene (whole_of desk) declared) (rights_rest scene (whole_of desk) declared) rights_lifted from)
      (tied_holds lease scene table period most locks last ends desk joins Stands tied of_turns tells (rights_given scene (whole_of desk) declared) (rights_rest scene (whole_of desk) declared) rights_lifted from)

  pub ledger_join : LedgerStands table.slots (plain_home desk) (plain_view desk) (map of_at ends) last.handler
  ledger_join = tied_stands lease scene table period most locks last ends desk joins Stands tied rights_join.ledger
