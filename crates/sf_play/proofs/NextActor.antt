-- The actor whose step an action tries is the one that was next.
use Rattle.std.proofs.Common.{◌≡◌, ℕ, zero, suc, ◌==◌, Bool, true, false, List, length, Option, Some, None, sym, ap, ◌∙◌, subst}
use Rattle.std.specs.Prelude.{if◌then◌else◌, nat_lt}
use Rattle.std.specs.List.{position}
use Rattle.atomic_table.specs.Seated.{TableId}
use Rattle.sf_play_report.specs.sf_surface.Tokens.{ReadLeaseOf}
use Rattle.sf_play_report.specs.sf_turns.Views.{SeatView}
use Rattle.sf_play_report.specs.sf_txn.declared.lease.Lease.{Ghosts}
use Rattle.law_rights.specs.sf_actor_steps.declared.actor.Actor.{Actor}
use Rattle.sf_play_report.specs.sf_actor.declared.tried.Stepped.{Stepped}
use Rattle.sf_play_report.specs.sf_actor.declared.tried.Stepped.TheVariants as stepped
use Rattle.sf_play_report.specs.sf_actor.Tries.{ActorOf}
use Rattle.law_rights.specs.sf_actor_set.ActorSets.{number_of}
use Rattle.sf_play.specs.Places.{settled}
use Rattle.sf_play.specs.Players.{PlayerOf}
use Rattle.sf_play.specs.Actions.{Picks, RoundsIf, TriesIf, TriesStep, TakesAction, TakesActionAt, next_tried, picked_place, place_by, tried_from, action_by}
use Rattle.sf_play.specs.declared.place.Place.{Place}
use Rattle.sf_play.specs.declared.place.Place.TheVariants as at
use Rattle.sf_play.specs.declared.action.Action.{Action}
use Rattle.sf_play.specs.declared.action.Action.TheVariants as action

-- a try that is a step is one of its own place
step_by : (place other : ℕ) (st : Stepped) → action_by place st ≡ action.Step other → place ≡ other
step_by place other stepped.Done e = cc
step_by place other stepped.NotYet e = cc (e)
step_by place other stepped.Ended e = cc (e)

module _ {B : Type 0} {R C : Type 0} (lease : Ghosts ReadLeaseOf SeatView R C) (table : TableId) (ofs : List (ActorOf B)) (old new : PlayerOf B) (came_to : Action) (place : ℕ) where
  -- the actor that was next is tried
  tried_if : (found : Option ℕ) → TriesIf lease table ofs found old.play new.play came_to → found ≡ Some place → TriesStep table place ofs old.play new.play came_to
  tried_if found tries is = subst (λ (o : Option ℕ). TriesIf lease table ofs o old.play new.play came_to) is tries

  picked_tried : (number : ℕ) → Picks lease table ofs number old new came_to → picked_place old.play.actor_set.actors number ≡ Some place → TriesStep table place ofs old.play new.play came_to
  picked_tried zero picks is = absurd (cc (is))
  picked_tried (suc n) picks is = tried_if (position (λ (actor : Actor B). number_of actor == suc n) old.play.actor_set.actors) picks.0 is

  round_tried : (more : Bool) (at' : ℕ) (was : Bool) → RoundsIf lease table ofs more at' was old new came_to → (if more then Some at' else None) ≡ Some place → TriesStep table place ofs old.play new.play came_to
  round_tried true at' was goes is = (let same : at' ≡ place = cc in subst (λ (n : ℕ). TriesStep table n ofs old.play new.play came_to) same goes.tries)
  round_tried false at' was ends is = absurd (cc (is))

  action_tried : (from : Place) → TakesActionAt lease table ofs from old new came_to → tried_from old.play from ≡ Some place → TriesStep table place ofs old.play new.play came_to
  action_tried (at.Order at' done) takes is = picked_tried takes.pick.actor takes.picks (ap (place_by old.play.actor_set.actors) (sym takes.there) ∙ is)
  action_tried (at.Round at' was) rounds is = round_tried (nat_lt at' (length old.play.actor_set.actors)) at' was rounds is
  action_tried at.End acts is = absurd (cc (is))

  pub next_is_tried : TakesAction lease table ofs old new came_to → next_tried old ≡ Some place → TriesStep table place ofs old.play new.play came_to
  next_is_tried acts is = action_tried (settled old.play.order old.place) acts is

  -- and no other does a step
  stepped_if : (found : Option ℕ) → TriesIf lease table ofs found old.play new.play came_to → came_to ≡ action.Step place → found ≡ Some place
  stepped_if None tries e = absurd (cc (tries.0, e))
  stepped_if (Some at') tries e = ap (λ (n : ℕ). Some n) (step_by at' place tries.stepped (sym tries.is ∙ e))

  picked_stepped : (number : ℕ) → Picks lease table ofs number old new came_to → came_to ≡ action.Step place → picked_place old.play.actor_set.actors number ≡ Some place
  picked_stepped zero picks e = absurd (let is = picks.is in cc (is, e))
  picked_stepped (suc n) picks e = stepped_if (position (λ (actor : Actor B). number_of actor == suc n) old.play.actor_set.actors) picks.0 e

  round_stepped : (more : Bool) (at' : ℕ) (was : Bool) → RoundsIf lease table ofs more at' was old new came_to → came_to ≡ action.Step place → (if more then Some at' else None) ≡ Some place
  round_stepped true at' was goes e = ap (λ (n : ℕ). Some n) (step_by at' place goes.tries.stepped (sym goes.tries.is ∙ e))
  round_stepped false at' was ends e = absurd (let is = ends.vsync.is in cc (is, e))

  action_stepped : (from : Place) → TakesActionAt lease table ofs from old new came_to → came_to ≡ action.Step place → tried_from old.play from ≡ Some place
  action_stepped (at.Order at' done) takes e = ap (place_by old.play.actor_set.actors) takes.there ∙ picked_stepped takes.pick.actor takes.picks e
  action_stepped (at.Round at' was) rounds e = round_stepped (nat_lt at' (length old.play.actor_set.actors)) at' was rounds e
  action_stepped at.End acts e = absurd (let is = acts.0 in cc (is, e))

  pub no_other_steps : TakesAction lease table ofs old new came_to → came_to ≡ action.Step place → next_tried old ≡ Some place
  no_other_steps acts e = action_stepped (settled old.play.order old.place) acts e
