-- Calls and tries, as the laws about rights and makers take them: values, and what is known of them.
use Rattle.std.specs.Prelude.{◌≡◌, ℕ, ◌+◌, ◌<◌, ◌⊎◌, is_some, true, List, [], ◌∷◌, ◌++◌, length, Contains}
use Rattle.sf_base.specs.declared.ids.QueueId.{QueueId}
use Rattle.sf_slots.specs.declared.calls.PlainReply.{PlainReply}
use Rattle.sf_actor_set.specs.sf_calls.Histories.{entry}
use Rattle.sf_actor_set.specs.sf_picture.declared.picture.Picture.{Picture}
use Rattle.sf_actor_set.specs.sf_script_scene.declared.step.Step.{Step}
use Rattle.sf_actor_set.specs.sf_surface.declared.call.QCall.{QCall}
use Rattle.sf_actor_set.specs.sf_surface.declared.call.QReply.{QReply}
use Rattle.sf_actor_set.specs.sf_surface.declared.mark.QueueMark.{QueueMark}
use Rattle.sf_actor_set.specs.sf_surface.Histories.{Made, Replied, told, told_reply}
use Rattle.sf_actor_set.specs.sf_actor.Desks.{DeskHome, mark_among}
use Rattle.sf_actor_set.specs.sf_actor.Makers.{BufferOf, Run, making_of, makes}
use Rattle.sf_actor_set.specs.sf_actor_steps.Bindings.{holdings_of}
use Rattle.sf_actor_set.specs.sf_actor_steps.declared.bindings.Bindings.{Bindings}
use Rattle.sf_actor_set.specs.sf_actor_steps.declared.tried.Tried.{Tried}
use Rattle.law_rights.specs.Ledgers.{IsLedger}
use Rattle.law_rights.specs.MakerCalls.{IsNewAt, WasIn, brought_at, given_at}
use Rattle.law_rights.specs.MakerSteps.{PlaceStep, PlacesTold, RunGets, RunTold}
use Rattle.law_rights.specs.Makers.{AreFollowed, GoesOn, MakersStand, Places, RightAt, Stays, WriteAt, places_lying, places_of}
use Rattle.law_rights.specs.PlaceTries.{PlacesGo}
use Rattle.law_rights.specs.States.{State, ledger_of}
use Rattle.law_rights.specs.Steps.{CallStep}
use Rattle.law_rights.specs.Tries.{TriesIn}

-- A call on a queue, with its reply.
pub record RepliedCall (B : Type 0) : Type 0 where
  -- its queue, and the calls before it
  pub mark : QueueMark
  pub earlier : List (Made B)
  -- who called, in which step
  pub by : ℕ
  pub step : ℕ
  -- what was asked and replied
  pub asked : QCall B
  pub reply : QReply B
  -- the reply is what the calls before it say
  pub replied : Replied mark earlier by asked reply

-- A call of an actor or of the compositor, in a state.
pub record CallOfState (B : Type 0) : Type 0 where
  -- the state before it and after it
  pub old : State B
  pub new : State B
  -- who called, on which queue, in which step
  pub by : ℕ
  pub queue : ℕ
  pub step : ℕ
  -- what was asked and replied, and that the state changed by it
  pub asked : QCall B
  pub reply : QReply B
  pub is : CallStep old new by queue step asked reply

-- The same with the places of rights, and with the place where the buffer that it attaches was last.
pub record CallAtPlaces (B : Type 0) : Type 0 where
  -- the state before it and after it
  pub old : State B
  pub new : State B
  -- who called, on which queue, in which step
  pub by : ℕ
  pub queue : ℕ
  pub step : ℕ
  -- what was asked and replied
  pub asked : QCall B
  pub reply : QReply B
  -- where the buffer was last, and that the state changed so
  pub from : BufferOf
  pub is : PlaceStep old new by queue step asked reply from

-- A try of an actor's step, in a state.
pub record TryOfState (B : Type 0) : Type 0 where
  -- the pictures of the scene, and what the desk has
  pub pictures : ℕ → Picture
  pub home : DeskHome
  -- the actor's place, its step, and what the try came to
  pub place : ℕ
  pub s : Step
  pub came_to : Tried
  -- its bindings and the state, before the try and after it
  pub before : Bindings B
  pub after : Bindings B
  pub old : State B
  pub new : State B
  pub tries : TriesIn pictures home place s came_to before after old new

module _ {B : Type 0} where
  -- a right lies in the queue behind the call, or the reply gives it
  abbrev pub IsThereBehind : RepliedCall B → BufferOf → RightAt → Type 0
  IsThereBehind call from right =
      Contains (places_lying call.mark (entry call.by (call.step, call.asked) call.reply ∷ call.earlier)) right ⊎ Contains (given_at from call.asked call.reply.gives) right

  -- it lay there before, or the call brought it
  abbrev pub WasThereBefore : RepliedCall B → BufferOf → RightAt → Type 0
  WasThereBefore call from right = WasIn (places_lying call.mark call.earlier ++ brought_at from call.asked) right

  -- it is that of a buffer that came to the queue
  abbrev pub CameWith : RepliedCall B → RightAt → Type 0
  CameWith call right = IsNewAt call.mark.queue call.asked (told_reply call.mark call.earlier call.by call.asked) right

  -- a call comes with a buffer of this number, and one before it did
  abbrev pub MakesNumber : QueueMark → List (Made B) → Made B → ℕ → Type 0
  MakesNumber mark earlier made number = makes number (told_reply mark earlier made.by made.call.1) ≡ true

  abbrev pub WasNumbered : QueueMark → List (Made B) → ℕ → Type 0
  WasNumbered mark earlier number = is_some (making_of (told mark earlier) number) ≡ true

  -- the queue of a call, and its reply as histories have it
  abbrev pub mark_of : CallAtPlaces B → QueueMark
  mark_of call = mark_among call.old.marks call.queue

  abbrev pub reply_told : CallAtPlaces B → PlainReply
  reply_told call = told_reply (mark_of call) (call.old.view.calls call.queue) call.by call.asked

  -- a right is that of a buffer that came to the queue
  abbrev pub IsNewBy : CallAtPlaces B → RightAt → Type 0
  IsNewBy call right = IsNewAt (mark_of call).queue call.asked (reply_told call) right

  -- each right of a buffer that came to the queue is there
  abbrev pub NewAreThere : CallAtPlaces B → Type 0
  NewAreThere call = (right now : RightAt) → Contains (places_of call.new).live right → IsNewBy call now → right.turn.0 ≡ now.turn.0 → right.at ≡ now.at

  -- it does to the places of the state what calls do
  abbrev pub DoesWhatIsTold : CallAtPlaces B → Type 0
  DoesWhatIsTold call = PlacesTold (mark_of call).queue call.asked (reply_told call) call.from (places_of call.old) (places_of call.new)

  -- a try of a step does to the places of the state what tries do
  abbrev pub DoesToPlaces : TryOfState B → Type 0
  DoesToPlaces tried = PlacesGo (holdings_of tried.before) tried.s tried.before.by.0 (length tried.tries.was.trace + 1) tried.old tried.new

-- The right of a loose buffer that a call brings, and that its reply gives back at a place.
pub record MovedRight (B : Type 0) : Type 0 where
  pub call : CallAtPlaces B
  -- the state's ledger stood
  pub ledger : IsLedger (ledger_of call.old)
  -- the one right that the call brings, and the one that its reply gives
  pub was : RightAt
  pub now : RightAt
  pub brings : brought_at call.from call.asked ≡ was ∷ []
  pub gives : given_at call.from call.asked call.reply.gives ≡ now ∷ []
  -- a right of the buffer that lies somewhere after the call, and came to lie in no slot by it
  pub right : RightAt
  pub same : right.turn.0 ≡ was.turn.0
  pub no_slot : Contains (places_lying (mark_of call) (entry call.by (call.step, call.asked) call.reply ∷ call.old.view.calls call.queue)) right
      → Contains (places_lying (mark_of call) (call.old.view.calls call.queue)) right
  pub there : Contains (places_of call.new).live right

-- A call on a queue in a run, before it and after it.
pub record CallOfRun (B : Type 0) : Type 0 where
  -- its queue, the call, and those before it
  pub mark : QueueMark
  pub made : Made B
  pub earlier : List (Made B)
  -- where the buffer that it attaches was last
  pub from : BufferOf
  -- the run gets the call
  pub before : Run
  pub after : Run
  pub gets : RunGets mark made earlier from before after

module _ {B : Type 0} where
  -- its reply, as histories have it
  abbrev pub reply_of : CallOfRun B → PlainReply
  reply_of call = told_reply call.mark call.earlier call.made.by call.made.call.1

-- A call in a state whose makers stood, over the run that has it.
pub record FollowedCall (B : Type 0) : Type 0 where
  pub call : CallAtPlaces B
  -- the state's ledger stood
  pub ledger : IsLedger (ledger_of call.old)
  -- the run before it and after it
  pub before : Run
  pub after : Run
  pub gets : RunGets (mark_of call) (entry call.by (call.step, call.asked) call.reply) (call.old.view.calls call.queue) call.from before after
  -- buffers were followed back through so many stays, and are through more
  pub most : ℕ
  pub more : ℕ
  pub rises : most < more
  pub makers : MakersStand before most call.old

-- Makers that are followed through a run.
pub record FollowedMakers : Type 0 where
  pub run : Run
  -- through so many stays at most
  pub most : ℕ
  pub stays : Stays
  pub places : Places
  pub are : AreFollowed run most stays places

-- they are followed with other places
abbrev pub StayFollowed : FollowedMakers → Places → Type 0
StayFollowed so new = AreFollowed so.run so.most so.stays new

-- A run goes on, with new places, and buffers may be followed back through one stay more.
pub record FollowedMore : Type 0 where
  -- the makers before it, and the run, the number of stays and the places after it
  pub so : FollowedMakers
  pub after : Run
  pub more : ℕ
  pub new : Places
  pub goes_on : GoesOn so.run after
  pub rises : so.most < more
  -- each queued frame is in a buffer that was made
  pub known : (write : WriteAt) → Contains so.places.queued write → Contains so.places.made write.write.turn.0

-- they are followed through it
abbrev pub AreFollowedOn : FollowedMore → Type 0
AreFollowedOn on = (next : Stays) × AreFollowed on.after on.more next on.new

-- What a call does to places and to a run.
pub record ToldCall (B : Type 0) : Type 0 where
  -- the makers before it, and the run, the number of stays and the places after it
  pub so : FollowedMakers
  pub after : Run
  pub more : ℕ
  pub new : Places
  pub rises : so.most < more
  -- its queue, what was asked and answered, and where the buffer was last
  pub queue : QueueId
  pub asked : QCall B
  pub answered : PlainReply
  pub from : BufferOf
  -- what it does to places and to the run
  pub places : PlacesTold queue asked answered from so.places new
  pub run : RunTold queue asked answered from so.run after
