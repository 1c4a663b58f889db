-- No action changes whether the desk of a play tells places.
use Rattle.std.proofs.Common.{◌≡◌, ℕ, zero, suc, Bool, true, false, List, length, Option, Some, None, ap, ◌∙◌}
use Rattle.std.specs.Prelude.{◌==◌, nat_lt}
use Rattle.std.specs.List.{position}
use Rattle.atomic_table.specs.Seated.{TableId}
use Rattle.sf_play_report.specs.sf_surface.Tokens.{ReadLeaseOf}
use Rattle.sf_play_report.specs.sf_turns.Views.{SeatView}
use Rattle.sf_play_report.specs.sf_txn.declared.lease.Lease.{Ghosts}
use Rattle.law_rights.specs.sf_actor_steps.declared.actor.Actor.{Actor}
use Rattle.sf_play_report.specs.sf_actor.Desks.{DeskHome}
use Rattle.sf_play_report.specs.sf_actor.Plain.{home_of}
use Rattle.sf_play_report.specs.sf_actor.Tries.{ActorOf}
use Rattle.law_rights.specs.sf_actor_set.ActorSets.{ActorSetOf, number_of}
use Rattle.law_rights.specs.sf_actor_set.Compositing.{OnlyDesk}
use Rattle.sf_play.specs.Places.{settled}
use Rattle.sf_play.specs.Players.{PlayOf, PlayerOf, home_in}
use Rattle.sf_play.specs.Actions.{Picks, RoundsIf, TriesIf, TakesAction, TakesActionAt, TakesVsync}
use Rattle.sf_play.specs.declared.place.Place.{Place}
use Rattle.sf_play.specs.declared.place.Place.TheVariants as at
use Rattle.sf_play.specs.declared.action.Action.{Action}

module _ {B : Type 0} where
  only_tells : (table : TableId) (taken : ℕ) (old new : ActorSetOf B) → OnlyDesk table taken old new → (home_of new.desk).tells ≡ (home_of old.desk).tells
  only_tells table taken old new only = ap (λ (home : DeskHome). home.tells) only.home

  module _ {R C : Type 0} (lease : Ghosts ReadLeaseOf SeatView R C) (table : TableId) (ofs : List (ActorOf B)) (came_to : Action) where
    try_tells : (place : Option ℕ) (old new : PlayOf B) → TriesIf lease table ofs place old new came_to → (home_in new).tells ≡ (home_in old).tells
    try_tells None old new stays = ap (λ (play : PlayOf B). (home_in play).tells) stays.1
    try_tells (Some place) old new tries = ap (λ (home : DeskHome). home.tells) tries.same.home

    vsync_tells : (old new : PlayerOf B) → TakesVsync lease table ofs old new came_to → (home_in new.play).tells ≡ (home_in old.play).tells
    vsync_tells old new vsync =
        let v = vsync.makes.makes in
        only_tells table _ v.decided new.play.actor_set v.only_gives
        ∙ only_tells table _ v.took v.decided v.only_decides
        ∙ only_tells table _ v.looked v.took v.only_takes
        ∙ only_tells table _ old.play.actor_set v.looked v.only_looks

    pick_tells : (number : ℕ) (old new : PlayerOf B) → Picks lease table ofs number old new came_to → (home_in new.play).tells ≡ (home_in old.play).tells
    pick_tells zero old new vsync = vsync_tells old new vsync
    pick_tells (suc n) old new picks = try_tells (position (λ (actor : Actor B). number_of actor == suc n) old.play.actor_set.actors) old.play new.play picks.0

    round_tells : (goes : Bool) (place : ℕ) (stepped : Bool) (old new : PlayerOf B) → RoundsIf lease table ofs goes place stepped old new came_to
        → (home_in new.play).tells ≡ (home_in old.play).tells
    round_tells true place stepped old new goes = try_tells (Some place) old.play new.play goes.tries
    round_tells false place stepped old new ends = vsync_tells old new ends.vsync

    action_tells : (from : Place) (old new : PlayerOf B) → TakesActionAt lease table ofs from old new came_to → (home_in new.play).tells ≡ (home_in old.play).tells
    action_tells (at.Order place done) old new takes = pick_tells takes.pick.actor old new takes.picks
    action_tells (at.Round place stepped) old new rounds = round_tells (nat_lt place (length old.play.actor_set.actors)) place stepped old new rounds
    action_tells at.End old new stays = ap (λ (player : PlayerOf B). (home_in player.play).tells) stays.1

    pub tells_on : (old new : PlayerOf B) → TakesAction lease table ofs old new came_to → (home_in new.play).tells ≡ (home_in old.play).tells
    tells_on old new acts = action_tells (settled old.play.order old.place) old new acts
