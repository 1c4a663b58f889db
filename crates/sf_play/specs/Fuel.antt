-- How much is left of a play. Each of its actions lessens it.
use Rattle.std.specs.Prelude.{ℕ, ◌+◌, ◌-◌, ◌*◌, ◌/◌, ◌<◌, min, Bool, false, if◌then◌else◌, List, [], ◌∷◌, drop, length, Option, Some, None}
use Rattle.std.specs.List.{sum_by}
use Rattle.sf_play_report.specs.sf_surface.Tokens.{ReadLeaseOf}
use Rattle.sf_play_report.specs.sf_token.Pending.{Arrival}
use Rattle.sf_script_scene.specs.declared.declarations.Pick.{Pick}
use Rattle.law_rights.specs.sf_actor_steps.declared.actor.Actor.{Actor}
use Rattle.sf_play.specs.Players.{PlayOf, home_in, view_in}
use Rattle.sf_play.specs.declared.place.Place.{Place}
use Rattle.sf_play.specs.declared.place.Place.TheVariants as at

-- For how many milliseconds a transaction may wait for its time from now on. One whose time lies more than a second behind a
-- vsync counts as come, so two seconds are enough.
abbrev pub wait_left : ℕ → Option ℕ → ℕ
wait_left now None = 0
wait_left now (Some desired) = min 2000 ((desired - now) / 1000000)

-- transactions are to be committed, and each may wait for its time before
abbrev pub to_commit : {L : Type 0} → ℕ → List (Arrival L) → ℕ
to_commit {L} now arrivals = sum_by (λ (arrived : Arrival L). 1 + wait_left now arrived.txn.desired) arrivals

-- the actions that are left of picks, of the first of which so many are done
abbrev pub actions_of : List Pick → ℕ → ℕ
actions_of [] done = 0
actions_of (pick ∷ later) done = (pick.times - done) + actions_of later 0

abbrev pub picks_left : List Pick → Place → ℕ
picks_left order (at.Order place done) = actions_of (drop place order) done
picks_left order other = 0

module _ {B : Type 0} where
  -- the steps that actors have left
  abbrev pub steps_left : List (Actor B) → ℕ
  steps_left actors = sum_by (λ (actor : Actor B). length actor.script.steps - length actor.replies.items) actors

  -- when the last vsync was
  abbrev pub now_in : PlayOf B → ℕ
  now_in play = play.vsyncs * play.period

  -- what is sent and was not taken
  abbrev pub untaken : PlayOf B → List (Arrival ReadLeaseOf)
  untaken play = drop (home_in play).taken (view_in play).arrivals

  -- The work that is left: steps, each of which may send a transaction, and transactions that are not committed.
  abbrev pub work_left : PlayOf B → ℕ
  work_left play = 2003 * steps_left play.actor_set.actors + (to_commit (now_in play) play.handler.pending + to_commit (now_in play) (untaken play))

  -- the rounds that are left at most: one in which a step was done is followed by another
  abbrev pub rounds_left : PlayOf B → Bool → ℕ
  rounds_left play stepped = work_left play + (if stepped then 1 else 0)

  -- what is left in rounds, each of which has an action of each actor and one of the compositor
  abbrev pub round_fuel : PlayOf B → ℕ → Bool → ℕ
  round_fuel play place stepped = rounds_left play stepped * (length play.actor_set.actors + 2) + ((length play.actor_set.actors + 1) - place) + 1

  -- what is left of a play whose next action is at a place
  abbrev pub fuel : List Pick → PlayOf B → Place → ℕ
  fuel order play (at.Order place done) = picks_left order (at.Order place done) + round_fuel play 0 false
  fuel order play (at.Round place stepped) = round_fuel play place stepped
  fuel order play at.End = 0

  -- how many vsyncs are left at most
  abbrev pub vsyncs_left : List Pick → PlayOf B → Place → ℕ
  vsyncs_left order play (at.Order place done) = picks_left order (at.Order place done) + (rounds_left play false + 1)
  vsyncs_left order play (at.Round place stepped) = rounds_left play stepped + 1
  vsyncs_left order play at.End = 0

  -- all vsyncs of the rounds that follow have numbers of 32 bits
  abbrev pub HasNumbersLeft : PlayOf B → Type 0
  HasNumbersLeft play = play.vsyncs + vsyncs_left play.order play (at.Round 0 false) < 4294967295
