-- The acts of a player, from what its parts ensure.
use Rattle.std.proofs.Common.{◌≡◌, ℕ, zero, suc, ◌+◌, ◌<◌, ◌≤◌, ◌==◌, ◌||◌, Bool, true, false, List, length, get_or, Option, Some, None, Result, Ok, Err, refl, ap, sym, ◌∙◌, subst, arith}
use Rattle.std.specs.Prelude.{IfOk, if◌then◌else◌, nat_lt, slice_get}
use Rattle.std.specs.List.{list_any, position}
use Rattle.std.proofs.lemmas.Bool.{le-ltb, ltb-true}
use Rattle.std.proofs.lemmas.Option.{slice_get-get_or, slice_get_within}
use Rattle.atomic_table.specs.Seated.{TableId}
use Rattle.sf_base.specs.declared.memory.NoMemory.{NoMemory}
use Rattle.sf_play_report.specs.sf_surface.Tokens.{ReadLeaseOf}
use Rattle.sf_play_report.specs.sf_turns.Views.{SeatView}
use Rattle.sf_play_report.specs.sf_txn.declared.lease.Lease.{Ghosts}
use Rattle.sf_play_report.specs.sf_ready.declared.hold.Hold.{Hold}
use Rattle.sf_play_report.specs.law_played.Progress.{is_time}
use Rattle.law_rights.specs.sf_actor_steps.declared.actor.Actor.{Actor}
use Rattle.sf_play_report.specs.sf_actor.Tries.{ActorOf}
use Rattle.law_rights.specs.sf_actor_set.ActorSets.{number_of}
use Rattle.sf_script_scene.specs.declared.declarations.Pick.{Pick}
use Rattle.sf_play.specs.Places.{behind, settled, settled_at}
use Rattle.sf_play.specs.Players.{PlayerOf}
use Rattle.sf_play.specs.Playing.{MakesReport}
use Rattle.sf_play_report.specs.Reports.{has_commits}
use Rattle.sf_play.specs.Actions.{Picks, Rounds, RoundsIf, TakesPick, TriesIf, TriesStep, TakesActionAt, TakesVsync, picked_place}
use Rattle.sf_play.specs.declared.place.Place.{Place}
use Rattle.sf_play.specs.declared.place.Place.TheVariants as at
use Rattle.sf_play_report.specs.declared.report.VsyncReport.{VsyncReport}
use Rattle.sf_play.specs.declared.action.Action.{Action}
use Rattle.sf_play.specs.declared.action.Action.TheVariants as action

-- the place of the actor that a pick names, where it is not a vsync
pub picked_there : {B : Type 0} (actors : List (Actor B)) (number : ℕ) → (number ≡ 0 → ⊥) → position (λ (actor : Actor B). number_of actor == number) actors ≡ picked_place actors number
picked_there actors zero unmet = absurd (unmet refl)
picked_there actors (suc n) unmet = refl

module _ {B : Type 0} {R C : Type 0} (lease : Ghosts ReadLeaseOf SeatView R C) (table : TableId) (ofs : List (ActorOf B)) where
  -- a pick of an actor tries its next step
  pub picks_step : (number place : ℕ) (old new : PlayerOf B) (result : Result Action NoMemory) → (number ≡ 0 → ⊥) → position (λ (actor : Actor B). number_of actor == number) old.play.actor_set.actors ≡ Some place
      → IfOk result (TriesStep table place ofs old.play new.play) → new.held ≡ old.held → IfOk result (Picks lease table ofs number old new)
  picks_step zero place old new result unmet there tries held = absurd (unmet refl)
  picks_step (suc n) place old new (Err e) unmet there tries held = tt
  picks_step (suc n) place old new (Ok came_to) unmet there tries held = (subst (λ (o : Option ℕ). TriesIf lease table ofs o old.play new.play came_to) (sym there) tries, held)

  -- behind the actors of a round comes its vsync
  pub ends_round : (place : ℕ) (stepped : Bool) (old mid inside : PlayerOf B) (next : Place) (report : VsyncReport) (commits waits : Bool) (held : List (ℕ × Hold)) (actors : List (Actor B)) → inside ≡ mid
      → actors ≡ old.play.actor_set.actors → length actors ≤ place → MakesReport lease table old mid report → commits ≡ has_commits report.commits → held ≡ inside.held → waits ≡ list_any (λ (h : ℕ × Hold). is_time h.1) held
      → next ≡ (if stepped || (commits || waits) then at.Round 0 false else at.End) → Rounds lease table ofs place stepped old (record inside { place = next }) (action.Vsync report)
  ends_round place stepped old mid inside next report commits waits held actors same of_old past makes commits_are held_are waits_are next_is =
      let made : MakesReport lease table old inside report = subst (λ (p : PlayerOf B). MakesReport lease table old p report) (sym same) makes in
      let behind : nat_lt place (length old.play.actor_set.actors) ≡ false = le-ltb place (length old.play.actor_set.actors) (subst (λ (xs : List (Actor B)). length xs ≤ place) of_old past) in
      rw behind (record {
        vsync = record {
          report = report;
          is = refl;
          makes = record { told = made.told; makes = made.makes; number = made.number; expected = made.expected; commits = made.commits; held = made.held };
        };
        next = next_is ∙ (λ i. if stepped || (commits_are i || (waits_are ∙ ap (list_any (λ (h : ℕ × Hold). is_time h.1)) held_are) i) then at.Round 0 false else at.End);
      })

  -- a pick whose place was noted before it was done
  pub picks_placed : (number : ℕ) (old new : PlayerOf B) (place : Place) (came_to : Action) → Picks lease table ofs number (record old { place = place }) new came_to → Picks lease table ofs number old new came_to
  picks_placed zero old new place came_to picks =
      let m = picks.makes in
      record {
        report = picks.report;
        is = picks.is;
        makes = record { told = m.told; makes = m.makes; number = m.number; expected = m.expected; commits = m.commits; held = m.held };
      }
  picks_placed (suc n) old new place came_to picks = picks

  pub takes_pick : (place done : ℕ) (old new : PlayerOf B) (order : List Pick) (d : Pick) (result : Result Action NoMemory) → order ≡ old.play.order → place < length old.play.order
      → IfOk result (Picks lease table ofs (get_or order place d).actor (record old { place = at.Order place (done + 1) }) new) → new.place ≡ at.Order place (done + 1)
      → IfOk result (TakesPick lease table ofs place done old new)
  takes_pick place done old new order d (Err e) same low picks next = tt
  takes_pick place done old new order d (Ok came_to) same low picks next =
      let picked = subst (λ (picks : List Pick). Picks lease table ofs (get_or picks place d).actor (record old { place = at.Order place (done + 1) }) new came_to) same picks in
      record {
        pick = get_or old.play.order place d;
        there = slice_get-get_or old.play.order place d low;
        picks = picks_placed (get_or old.play.order place d).actor old new (at.Order place (done + 1)) came_to picked;
        next = next;
      }

  -- an action is the same whether its player was spent meanwhile
  vsync_freed : (old new : PlayerOf B) (spent free : Bool) (came_to : Action) → TakesVsync lease table ofs (record old { is_spent = spent }) new came_to → TakesVsync lease table ofs old (record new { is_spent = free }) came_to
  vsync_freed old new spent free came_to acts =
      let m = acts.makes in
      record {
        report = acts.report;
        is = acts.is;
        makes = record { told = m.told; makes = m.makes; number = m.number; expected = m.expected; commits = m.commits; held = m.held };
      }

  picks_freed : (number : ℕ) (old new : PlayerOf B) (spent free : Bool) (came_to : Action) → Picks lease table ofs number (record old { is_spent = spent }) new came_to → Picks lease table ofs number old (record new { is_spent = free }) came_to
  picks_freed zero old new spent free came_to picks = vsync_freed old new spent free came_to picks
  picks_freed (suc n) old new spent free came_to picks = picks

  rounds_freed : (tries : Bool) (place : ℕ) (stepped : Bool) (old new : PlayerOf B) (spent free : Bool) (came_to : Action) → RoundsIf lease table ofs tries place stepped (record old { is_spent = spent }) new came_to
      → RoundsIf lease table ofs tries place stepped old (record new { is_spent = free }) came_to
  unfolding vsync_freed
  rounds_freed true place stepped old new spent free came_to goes = record { tries = goes.tries; held = goes.held; next = goes.next }
  rounds_freed false place stepped old new spent free came_to ends = record { vsync = vsync_freed old new spent free came_to ends.vsync; next = ends.next }

  pub actions_freed : (at_place : Place) (old new : PlayerOf B) (spent free : Bool) (came_to : Action) → old.is_spent ≡ free → TakesActionAt lease table ofs at_place (record old { is_spent = spent }) new came_to
      → TakesActionAt lease table ofs at_place old (record new { is_spent = free }) came_to
  actions_freed (at.Order place done) old new spent free came_to was acts =
      record { pick = acts.pick; there = acts.there; picks = picks_freed acts.pick.actor old new spent free came_to acts.picks; next = acts.next }
  actions_freed (at.Round place stepped) old new spent free came_to was acts = rounds_freed (nat_lt place (length old.play.actor_set.actors)) place stepped old new spent free came_to acts
  actions_freed at.End old new spent free came_to was acts = (acts.0, ap (λ (p : PlayerOf B). record p { is_spent = free }) acts.1 ∙ (λ i. record old { is_spent = sym was i }))

-- a place in the order is that of a pick
pub settled_there : (order : List Pick) (from : Place) (place done : ℕ) → settled order from ≡ at.Order place done → place < length order
settled_there order (at.Order p d) place done is = by_pick (slice_get order p) refl is
  where
    by_next : (b : Bool) → nat_lt (p + 1) (length order) ≡ b → (if b then at.Order (p + 1) 0 else at.Round 0 false) ≡ at.Order place done → place < length order
    by_next true e is = let low = ltb-true (p + 1) (length order) e in let same : p + 1 ≡ place = cc in omega (arith, low, same)
    by_next false e is = absurd (round_is_order is)
      where
        round_is_order : at.Round 0 false ≡ at.Order place done → ⊥
        round_is_order e = cc

    by_times : (pick : Pick) → slice_get order p ≡ Some pick → (b : Bool) → (if b then at.Order p d else behind order p) ≡ at.Order place done → place < length order
    by_times pick e true is = let low = slice_get_within order p pick e in let same : p ≡ place = cc in omega (arith, low, same)
    by_times pick e false is = by_next (nat_lt (p + 1) (length order)) refl is

    by_pick : (o : Option Pick) → slice_get order p ≡ o → settled_at order p d o ≡ at.Order place done → place < length order
    by_pick None e is = absurd (round_is_order is)
      where
        round_is_order : at.Round 0 false ≡ at.Order place done → ⊥
        round_is_order e = cc
    by_pick (Some pick) e is = by_times pick e (nat_lt d pick.times) is
settled_there order (at.Round p s) place done is = absurd (round_is_order is)
  where
    round_is_order : at.Round p s ≡ at.Order place done → ⊥
    round_is_order e = cc
settled_there order at.End place done is = absurd (end_is_order is)
  where
    end_is_order : at.End ≡ at.Order place done → ⊥
    end_is_order e = cc
