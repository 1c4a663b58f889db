-- What a run shows of its calls, arrivals and vsyncs, and how far each has come by its replies.
use Rattle.std.specs.Prelude.{ℕ, zero, suc, ◌==◌, if◌then◌else◌, List, [], ◌∷◌, length, map}
use Rattle.law_order.specs.Order.{Happened}
use Rattle.sf_play.specs.sf_actor.Makers.{Run}
use Rattle.sf_play.specs.sf_actor.Names.{FrameOf}
use Rattle.sf_play.specs.sf_record.declared.event.VsyncRecords.{VsyncRecords}
use Rattle.sf_play.specs.sf_script_scene.Scene.{SceneValue}
use Rattle.sf_play.specs.sf_token.Pending.{Arrival}
use Rattle.sf_play.specs.law_played.Arrivals.{entry_of}
use Rattle.sf_play.specs.law_played.Histories.{history_shown, rising_queues}
use Rattle.sf_play.specs.sf_actor_set.ActorSets.{number_of}
use Rattle.sf_play.specs.sf_actor_set.sf_actor_steps.declared.actor.Actor.{Actor}

-- what a run with these arrivals and these vsyncs shows
abbrev pub shown_of : SceneValue → Run → List (Arrival FrameOf) → List VsyncRecords → Happened
shown_of scene run arrivals vsyncs = record { histories = map (history_shown run) (rising_queues scene); arrived = map entry_of arrivals; vsyncs = vsyncs }

module _ {B : Type 0} where
  -- how many replies the actor of a number has
  abbrev pub replies_among : List (Actor B) → ℕ → ℕ
  replies_among [] number = 0
  replies_among (actor ∷ actors) number = if number_of actor == number then length actor.replies.items else replies_among actors number

  -- how far each has come: the compositor by its vsyncs, and an actor by its replies
  abbrev pub come_to : ℕ → List (Actor B) → ℕ → ℕ
  come_to vsyncs actors zero = vsyncs
  come_to vsyncs actors (suc number) = replies_among actors (suc number)
