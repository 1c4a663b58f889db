-- Callers of a run in threads, as the laws about their order take them: values, and what is known of them.
use Rattle.std.specs.Prelude.{◌≡◌, ◌<◌, ℕ, ◌+◌, ◌∷◌, ◌++◌, false, List, [], Contains, length, Option}
use Rattle.sf_base.specs.declared.status.QStatus.{QStatus}
use Rattle.sf_script_scene.specs.sf_picture.declared.picture.Picture.{Picture}
use Rattle.sf_script_scene.specs.Scene.{SceneValue}
use Rattle.sf_script_scene.specs.declared.step.Step.{Step}
use Rattle.sf_turns.specs.Views.{SeatView}
use Rattle.law_draws.specs.sf_calls.Histories.{IsLegal}
use Rattle.law_draws.specs.sf_calls.declared.object.Entry.{Entry}
use Rattle.law_draws.specs.sf_surface.Histories.{Answers, Made}
use Rattle.law_draws.specs.sf_surface.Tokens.{Issued, ReadLeaseOf}
use Rattle.law_draws.specs.sf_token.Arrivals.{sent}
use Rattle.law_draws.specs.sf_token.Pending.{Arrival}
use Rattle.law_draws.specs.sf_token.declared.arrivals.ArriveCall.{ArriveCall}
use Rattle.law_draws.specs.sf_token.declared.arrivals.ArriveCall.TheVariants as arrive
use Rattle.law_draws.specs.sf_token.declared.arrivals.ArriveReply.{ArriveReply}
use Rattle.law_draws.specs.sf_txn.Transactions.{Contents}
use Rattle.law_draws.specs.sf_actor.Desks.{DeskHome, DeskView, has_queue, mark_among}
use Rattle.law_draws.specs.sf_actor.Tries.{ActorOf}
use Rattle.law_draws.specs.sf_actor_steps.declared.bindings.Bindings.{Bindings}
use Rattle.law_draws.specs.sf_actor_steps.declared.tried.Tried.{Tried}
use Rattle.law_draws.specs.sf_actor_steps.declared.tried.Tried.TheVariants as tried
use Rattle.law_draws.specs.law_rights.MakerRuns.{AreDeclared}
use Rattle.law_draws.specs.law_rights.States.{AreApart, State}
use Rattle.law_threads.specs.Cuts.{AreParts, Event, Forwards, GoesForward, HasLedger, IsPart, Local, Whole, all_now, many_of, spot_of, state_at}
use Rattle.law_threads.specs.Delays.{delayed}
use Rattle.law_threads.specs.Lifts.{Comes}
use Rattle.law_threads.specs.Orders.{AreInTurn, IsCut, Spot, StampsRise, events_in}
use Rattle.law_threads.specs.Sends.{meanwhile}
use Rattle.law_threads.specs.Tries.{DoesTry}

-- The calls of several callers, with stamps.
pub record StampedCalls : Type 0 where
  -- how many calls there are on each lock, and how many are done
  pub many : ℕ → ℕ
  pub heights : ℕ → ℕ
  pub stamp : Spot → ℕ
  -- what each caller has yet to do
  pub rest : List (List (List (Option Spot)))
  -- stamps rise along each lock
  pub rise : StampsRise stamp many
  -- each further call is once among what is yet to do
  pub cut : IsCut (λ spot. spot) many heights rest
  -- stamps rise along what each caller has yet to do
  pub turn : AreInTurn (λ spot. spot) stamp rest

-- All callers of a run in threads, each with what it has yet to do.
pub record StampedRun (B : Type 0) : Type 0 where
  pub whole : Whole B
  -- how many calls are done on each lock
  pub heights : ℕ → ℕ
  pub stamp : Spot → ℕ
  -- what each caller has yet to do, and what it holds at last
  pub rest : List (List (List (Event B)))
  pub lasts : List (Local B)
  -- stamps rise along each lock
  pub rise : StampsRise stamp (many_of whole)
  -- each further call is once among what is yet to do
  pub cut : IsCut spot_of (many_of whole) heights rest
  -- stamps rise along what each caller has yet to do
  pub turn : AreInTurn spot_of stamp rest
  -- each event keeps the ledger wherever it is next
  pub parts : AreParts whole HasLedger rest lasts
  -- the ledger stands now
  pub stands : HasLedger (state_at whole heights (all_now rest lasts))

-- The call that puts a transaction among the arrivals.
pub record SendingCall (B : Type 0) : Type 0 where
  pub whole : Whole B
  -- the calls on the arrivals after it, itself, and those before it
  pub more : List (Entry (ArriveCall ReadLeaseOf SeatView ReadLeaseOf Issued) (ArriveReply ReadLeaseOf SeatView ReadLeaseOf Issued))
  pub e : Entry (ArriveCall ReadLeaseOf SeatView ReadLeaseOf Issued) (ArriveReply ReadLeaseOf SeatView ReadLeaseOf Issued)
  pub history : List (Entry (ArriveCall ReadLeaseOf SeatView ReadLeaseOf Issued) (ArriveReply ReadLeaseOf SeatView ReadLeaseOf Issued))
  pub whole_is : whole.arriving ≡ more ++ e ∷ history
  -- it sends this transaction, in this step
  pub step : ℕ
  pub txn : Contents ReadLeaseOf
  pub sends : e.call ≡ arrive.Send step txn

module _ {B : Type 0} where
  -- what arrives by it
  abbrev pub arrival_by : SendingCall B → Arrival ReadLeaseOf
  arrival_by sending = record { number = length (sent sending.history) + 1; actor = record { 0 = sending.e.by }; step = sending.step; txn = sending.txn }

-- A transaction that its caller sent, and that arrives by a later call.
pub record LateArrival (B : Type 0) : Type 0 where
  pub whole : Whole B
  pub one : Arrival ReadLeaseOf
  pub stamp : Spot → ℕ
  -- the call by which it arrives, wherever that is next
  pub at : Spot
  pub goes : GoesForward whole HasLedger one at
  -- what the caller has yet to do, and what it holds at last
  pub rest : List (List (Event B))
  pub last : Local B
  -- what it sent after this arrives after this
  pub behind : (other : Arrival ReadLeaseOf) (spot : Spot) → Contains (events_in spot_of rest) (Forwards other spot) → stamp at < stamp spot
  -- each event keeps the ledger wherever it is next
  pub part : IsPart whole HasLedger rest last

module _ {B : Type 0} where
  -- what the caller has yet to do, with this arrival at the place of its stamp
  abbrev pub with_arrival : LateArrival B → List (List (Event B))
  with_arrival late = delayed spot_of late.stamp (meanwhile late.one) (Forwards late.one late.at) (late.stamp late.at) late.rest

  -- what a desk knows of each queue is how the calls of the whole run on it begin
  abbrev pub BeginsWith : Whole B → DeskView B → Type 0
  BeginsWith whole view = (queue : ℕ) → (more : List (Made B)) × (whole.view.calls queue ≡ more ++ view.calls queue)

-- A whole run, and a desk in it.
pub record WholeRun (B : Type 0) : Type 0 where
  pub whole : Whole B
  pub pictures : ℕ → Picture
  pub home : DeskHome
  -- the desk has its queues, no two marks are of one queue, and no other queue is called
  pub marks : whole.marks ≡ home.marks
  pub apart : AreApart home.marks
  pub absent : (queue : ℕ) → has_queue home queue ≡ false → whole.view.calls queue ≡ []

-- A try that was done over what its actor's desk knew.
pub record DoneTry (B : Type 0) : Type 0 where
  pub run : WholeRun B
  -- the actor, its bindings and what its desk knew, before it and after it
  pub was : ActorOf B
  pub is : ActorOf B
  pub s : Step
  pub before : Bindings B
  pub after : Bindings B
  pub old : DeskView B
  pub new : DeskView B
  pub came_to : Tried
  pub tries : DoesTry run.pictures run.home was is s before after old new came_to
  -- the calls of the run begin with those that the desk knew after it
  pub begins : BeginsWith run.whole new

-- One that made a call.
pub record CalledTry (B : Type 0) : Type 0 where
  pub run : WholeRun B
  -- the actor, its bindings and what its desk knew, before it and after it
  pub was : ActorOf B
  pub is : ActorOf B
  pub s : Step
  pub before : Bindings B
  pub after : Bindings B
  pub old : DeskView B
  pub new : DeskView B
  -- what the call answered
  pub status : QStatus
  pub values : List ℕ
  pub tries : DoesTry run.pictures run.home was is s before after old new (tried.Called status values)
  -- the calls of the run begin with those that the desk knew after it
  pub begins : BeginsWith run.whole new

module _ {B : Type 0} where
  -- each reply is what the calls before it say
  abbrev pub AreLegal : WholeRun B → Type 0
  AreLegal run = (queue : ℕ) → IsLegal (Answers (mark_among run.home.marks queue)) (run.whole.view.calls queue)

  -- what a try comes to keeps this, wherever its calls are the next ones
  abbrev pub ComesKeeping : DoneTry B → (State B → Type 0) → Type 0
  ComesKeeping done Holds = Comes done.run.whole Holds done.before.by.0 done.was done.is done.old done.new

-- One in a run of a scene.
pub record TryOfScene (B : Type 0) : Type 0 where
  pub done : DoneTry B
  pub scene : SceneValue
  -- the scene declares each queue
  pub declared : AreDeclared scene done.run.whole.marks
  pub legal : AreLegal done.run
  -- the calls of the run begin with those that the desk knew before the try, too
  pub begins : BeginsWith done.run.whole done.old
