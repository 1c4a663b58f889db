-- The replies of a run are those to the steps of its traces.
use Rattle.std.specs.Prelude.{◌≡◌, ℕ, ◌==◌, true, List, [], ◌∷◌, filter, map}
use Rattle.std.specs.List.{All, flat_map}
use Rattle.sf_script_scene.specs.Scene.{SceneValue, has_actor}
use Rattle.sf_actor.specs.declared.tried.Reply.{Reply}
use Rattle.sf_actor.specs.Makers.{Run}
use Rattle.sf_actor.specs.Values.{replies_of}
use Rattle.sf_record.specs.declared.event.Event.{Event}
use Rattle.sf_record.specs.declared.event.Event.TheVariants as event
use Rattle.sf_record.specs.declared.record.ReplyRecord.{ReplyRecord}

-- the replies among events, in order
abbrev pub reply_in : Event → List ReplyRecord
reply_in (event.Reply reply) = reply ∷ []
reply_in (event.Vsync report) = []

-- the replies among events
unfoldable pub replies_in : List Event → List ReplyRecord
replies_in events = flat_map reply_in events

-- those to one actor
abbrev pub replies_to : ℕ → List Event → List ReplyRecord
replies_to actor events = filter (λ reply. reply.actor == actor) (replies_in events)

-- the record of a reply
abbrev pub reply_shown : Reply → ReplyRecord
reply_shown told = record { actor = told.actor; step = told.step; status = told.status; values = told.values }

-- the records of the replies to the steps of an actor's trace
abbrev pub replies_due : Run → ℕ → List ReplyRecord
replies_due run actor = map reply_shown (replies_of actor (run.trace actor))

-- Replies. Each actor's are those to the steps of its trace, in order and each once, and nobody else has one.
pub record AnswerSteps (scene : SceneValue) (run : Run) (events : List Event) : Type 0 where
  pub of_each : All (λ script. replies_to script.number events ≡ replies_due run script.number) scene.actors
  pub of_none_else : All (λ reply. has_actor scene.actors reply.actor ≡ true) (replies_in events)
