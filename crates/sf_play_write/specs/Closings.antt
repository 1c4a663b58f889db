-- What is written at the end of a play.
use Rattle.std.specs.Prelude.{◌+◌, nat_lt, if◌then◌else◌, List, length, map, Option, None, Some, filter_map}
use Rattle.sf_play.specs.sf_token.Arrivals.{entry_of, sent}
use Rattle.sf_play.specs.sf_actor_steps.declared.actor.Actor.{Actor}
use Rattle.sf_play.specs.sf_record.Events.{closing}
use Rattle.sf_play.specs.sf_record.declared.record.Record.{Record}
use Rattle.sf_play.specs.sf_record.declared.record.StuckEntry.{StuckEntry}
use Rattle.sf_play.specs.sf_play_report.Closings.{history_of}
use Rattle.sf_play.specs.law_played.Progress.{held_shown}
use Rattle.sf_play.specs.law_played.Telling.{arrival_recorded}
use Rattle.sf_play.specs.Players.{PlayerOf}

module _ {B : Type 0} where
  -- an actor that has not done all its steps, with its next step
  abbrev pub stuck_entry : Actor B → Option StuckEntry
  stuck_entry actor =
      let done = length actor.replies.items in
      if nat_lt done (length actor.script.steps) then Some (record { actor = actor.script.number; step = done + 1 }) else None

  abbrev pub stuck_at : List (Actor B) → List StuckEntry
  stuck_at actors = filter_map stuck_entry actors

  -- the records that end a play: what arrived, the history of each queue, what is held and who is stuck
  abbrev pub closing_of : PlayerOf B → List Record
  closing_of player =
      let desk = player.play.actor_set.desk in
      closing (map arrival_recorded (map entry_of (sent desk.arrivals))) (map history_of desk.queues) (map held_shown player.held) (stuck_at player.play.actor_set.actors)
