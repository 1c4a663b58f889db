-- The trace of an actor: the steps that it has done with their whole answers, and what follows from them.
use Rattle.std.specs.Prelude.{◌≡◌, ℕ, ◌+◌, ◌⊎◌, Bool, true, false, ◌&&◌, if◌then◌else◌}
use Rattle.std.specs.Prelude.{List, [], ◌∷◌, ◌++◌, map, replicate, get_or, slice_set, Option, Some, None}
use Rattle.std.specs.List.{All, flat_map}
use Rattle.sf_base.specs.Fences.{Fence, IsSignalled, no_points}
use Rattle.sf_base.specs.declared.fences.Seen.{Seen}
use Rattle.sf_base.specs.declared.status.QStatus.TheVariants as status
use Rattle.sf_script_scene.specs.sf_picture.declared.picture.Picture.{Picture}
use Rattle.sf_surface.specs.sf_slots.declared.calls.PlainReply.{PlainReply}
use Rattle.sf_surface.specs.sf_slots.declared.calls.PlainReply.TheVariants as reply
use Rattle.sf_token.specs.sf_txn.Transactions.{Contents}
use Rattle.sf_actor.specs.declared.done.Answered.{Answered}
use Rattle.sf_actor.specs.declared.done.Answered.TheVariants as answered
use Rattle.sf_actor.specs.declared.done.Done.{Done}
use Rattle.sf_script_scene.specs.declared.step.Step.{Step}
use Rattle.sf_actor.specs.Asking.{Asked, call_of, may_wait, overtaken_by, release_of}
use Rattle.sf_actor.specs.Names.{Holdings, FrameOf, no_holdings}
use Rattle.sf_actor.specs.Points.{detached_fence, reached_by, shown_next, waited_fence}
use Rattle.sf_actor.specs.Steps.{filled_by, holdings_next, sent_by, used_by, was_done}
use Rattle.sf_actor.specs.Tests.{bad_value, refusal_of}

-- what is known behind some steps: what names and numbers hold, which points were shown, and for each name the place of the
-- step whose call gave what it holds
pub record Past : Type 0 where
  pub holdings : Holdings
  pub shown : Fence
  pub since : List ℕ

-- before the first step
abbrev pub no_past : Past
no_past = record { holdings = no_holdings; shown = no_points; since = replicate 32 0 }

-- of each name the step that filled it last, once this step filled this name, if it filled one
abbrev pub since_with : List ℕ → Option ℕ → ℕ → List ℕ
since_with since None place = since
since_with since (Some name) place = slice_set since name place

-- the same after one more done step, at this place
abbrev pub since_next : List ℕ → ℕ → Done → List ℕ
since_next since place done = if was_done done.answered then since_with since (filled_by done.step) place else since

-- after one more step, at this place
abbrev pub next : ℕ → Past → Done → Past
next place past done = record {
  holdings = holdings_next past.holdings done;
  shown = shown_next past.holdings past.shown done;
  since = since_next past.since place done;
}

-- a done step: its place from 1, what was known before it, and the step with its answer
pub record DoneAt : Type 0 where
  pub place : ℕ
  pub past : Past
  pub done : Done

-- the done steps with their places, from this one on, each with what was before it
unfoldable pub places_from : ℕ → Past → List Done → List DoneAt
places_from place past [] = []
places_from place past (done ∷ later) = record { place = place; past = past; done = done } ∷ places_from (place + 1) (next place past done) later

-- the steps of a trace, each with what was known before it
abbrev pub places_of : List Done → List DoneAt
places_of trace = places_from 1 no_past trace

-- what is known after these steps, of which the first has this place
unfoldable pub past_from : ℕ → Past → List Done → Past
past_from place past [] = past
past_from place past (done ∷ later) = past_from (place + 1) (next place past done) later

-- what is known behind a trace
abbrev pub past_after : List Done → Past
past_after trace = past_from 1 no_past trace

-- a fence is signalled, if there is one
abbrev pub IsPassed : Option Fence → Seen → Type 0
IsPassed None values = Unit {0}
IsPassed (Some fence) values = IsSignalled fence values

-- the queue had no slot for a producer
abbrev pub is_blocked : PlainReply → Bool
is_blocked (reply.Refused status.WouldBlock) = true
is_blocked replied = false

-- a call was not refused where it would have waited
abbrev pub HasNotWaited : Asked → PlainReply → Type 0
HasNotWaited asked replied = (may_wait asked.1 && is_blocked replied) ≡ false

-- the answer of a step that makes a call, that sends a transaction, or neither
abbrev pub AnswersCall : Option Asked → Option (Contents FrameOf) → Answered → Type 0
AnswersCall (Some asked) sent answer = (replied : PlainReply) × (answer ≡ answered.Called replied) × HasNotWaited asked replied
AnswersCall None (Some txn) answer = (number : ℕ) × (answer ≡ answered.Sent number)
AnswersCall None None answer = answer ≡ answered.Own 0

-- Where a step takes a buffer out of its queue, its fence is signalled; or the step is refused without a call, which it may
-- be only where the steps before have not shown all points of the fence.
abbrev pub PassesFence : Option Fence → Seen → Fence → Answered → Type 0 → Type 0
PassesFence None values shown answer Done = Done
PassesFence (Some fence) values shown answer Done = ((answer ≡ answered.Own bad_value) × (IsSignalled fence (reached_by shown) → ⊥)) ⊎ (IsSignalled fence values × Done)

-- A step is answered by the first of its own tests that is met. Else what it waits for is signalled, and it is answered by
-- its call, by the arrival of what it sends, or with 0.
abbrev pub AnswersTests : (ℕ → Picture) → Seen → Past → Step → Answered → Option ℕ → Type 0
AnswersTests pictures values past s answer (Some status) = answer ≡ answered.Own status
AnswersTests pictures values past s answer None =
    PassesFence (detached_fence past.holdings s) values past.shown answer
    (IsPassed (waited_fence past.holdings s) values × AnswersCall (call_of pictures past.holdings s) (sent_by past.holdings s) answer)

-- a done step is answered so after those before it
abbrev pub IsAnswered : (ℕ → Picture) → Seen → DoneAt → Type 0
IsAnswered pictures values at = AnswersTests pictures values at.past at.done.step at.done.answered (refusal_of pictures at.past.holdings at.done.step)

-- each step of a trace is answered so
abbrev pub AreAnswered : (ℕ → Picture) → Seen → List Done → Type 0
AreAnswered pictures values trace = All (IsAnswered pictures values) (places_of trace)

-- where the token of a call comes from: the call brings none; a name was given it by the step at this place; or it is a frame
-- that a transaction had
pub data Source : Type 0 where
  NoToken : Source
  GivenAt : ℕ → Source
  TakenFrame : FrameOf → Source

-- a call that a step made on a queue: the place of the step, the call, the reply where the step reports it, and where the token
-- comes from that it brings
pub record MadeStep : Type 0 where
  pub step : ℕ
  pub asked : Asked
  pub told : Option PlainReply
  pub brings : Source

-- the step that gave the token that a name holds
abbrev pub source_in : List ℕ → Option ℕ → Source
source_in since None = NoToken
source_in since (Some name) = GivenAt (get_or since name 0)

-- the step's own call, where it was made
abbrev pub own_call : ℕ → Option Asked → Answered → Source → List MadeStep
own_call place (Some asked) (answered.Called replied) source = record { step = place; asked = asked; told = Some replied; brings = source } ∷ []
own_call place asked answer source = []

-- a frame whose place another took is released, with its own fence
abbrev pub release_at : ℕ → FrameOf → MadeStep
release_at place frame = record { step = place; asked = release_of no_points frame; told = None; brings = TakenFrame frame }

-- the releases that a step makes which is done
abbrev pub overtaken : ℕ → Holdings → Done → List MadeStep
overtaken place holdings done = if was_done done.answered then map (release_at place) (overtaken_by holdings done.step) else []

-- the calls that a step makes on queues
abbrev pub made_at : (ℕ → Picture) → DoneAt → List MadeStep
made_at pictures at =
    own_call at.place (call_of pictures at.past.holdings at.done.step) at.done.answered (source_in at.past.since (used_by at.done.step))
    ++ overtaken at.place at.past.holdings at.done

-- the calls that the steps of a trace make, in order
abbrev pub made_by : (ℕ → Picture) → List Done → List MadeStep
made_by pictures trace = flat_map (made_at pictures) (places_of trace)

-- a transaction that a step sends, with the number that the step got
pub record SentStep : Type 0 where
  pub step : ℕ
  pub number : ℕ
  pub txn : Contents FrameOf

-- what a step sent that was answered by the number of an arrival
abbrev pub sent_with : ℕ → Answered → Option (Contents FrameOf) → List SentStep
sent_with place (answered.Sent number) (Some txn) = record { step = place; number = number; txn = txn } ∷ []
sent_with place answer sent = []

-- what a done step sent
abbrev pub sent_at : DoneAt → List SentStep
sent_at at = sent_with at.place at.done.answered (sent_by at.past.holdings at.done.step)

-- the transactions that the steps of a trace send, in order
abbrev pub sends_of : List Done → List SentStep
sends_of trace = flat_map sent_at (places_of trace)
