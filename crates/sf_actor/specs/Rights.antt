-- The turns of tokens: which turn a call brings, and which turn its reply gives.
use Rattle.std.specs.Prelude.{◌≡◌, ◌≢◌, ℕ, ◌==◌, Bool, true, false, List, Option, Some, None, Contains}
use Rattle.sf_script_scene.specs.sf_picture.declared.picture.Picture.{Picture}
use Rattle.sf_surface.specs.declared.call.Gives.{Gives}
use Rattle.sf_surface.specs.declared.call.Gives.TheVariants as gives
use Rattle.sf_surface.specs.declared.call.QCall.{QCall}
use Rattle.sf_surface.specs.declared.call.QCall.TheVariants as call
use Rattle.sf_surface.specs.Hands.{permit_of}
use Rattle.sf_surface.specs.Tokens.{EndingOf, Issued, OwingOf, ReadLeaseOf, Right, turn_of}
use Rattle.sf_token.specs.Pending.{Arrival}
use Rattle.sf_surface.specs.sf_turns.Views.{PermitView}
use Rattle.sf_token.specs.sf_txn.Buffers.{Buffer}
use Rattle.std.specs.List.{All}
use Rattle.sf_actor.specs.declared.holding.Holding.{Holding}
use Rattle.sf_actor.specs.declared.holding.Holding.TheVariants as holding
use Rattle.sf_actor.specs.Known.{Call, frame_of}
use Rattle.sf_actor.specs.Names.{FrameOf}
use Rattle.sf_actor.specs.Traces.{GivenAt, MadeStep, NoToken, Source, TakenFrame}
use Rattle.sf_actor.specs.Written.{FrameNumber}

-- a turn, by its buffer and number
abbrev pub Turn : Type 0
Turn = ℕ × ℕ

abbrev pub turn_by : Right → Turn
turn_by right = (right.buffer, right.number)

abbrev pub issued_turn : Issued → Turn
issued_turn turn = (turn.buffer, turn.number)

-- the call made a new buffer with the permit of this number
abbrev pub made_with : Option PermitView → Option PermitView → ℕ → Bool
made_with (Some permit) None number = permit.buffer == number
made_with permit spare number = false

-- what was drawn and ended, or owed
abbrev pub EndsIn : List Turn → Option EndingOf → Type 0
EndsIn left None = Unit {0}
EndsIn left (Some ending) = Contains left (issued_turn ending.turn)

module _ {B : Type 0} where
  -- a frame is queued with the picture of its number
  abbrev pub QueuesPicture : (ℕ → Picture) → QCall B → Type 0
  QueuesPicture pictures (call.Queue lease picture time crop fence) = picture ≡ pictures picture.number
  QueuesPicture pictures asked = Unit {0}

  -- the turn of the token that a call brings, and of the one that a reply gives
  abbrev pub brought_turn : QCall B → Option Turn
  brought_turn (call.Request lease) = Some (turn_by (turn_of lease.work))
  brought_turn (call.Queue lease picture time crop fence) = Some (turn_by (turn_of lease.work))
  brought_turn (call.Cancel lease fence) = Some (turn_by (turn_of lease.work))
  brought_turn (call.Detach lease) = Some (turn_by (turn_of lease.work))
  brought_turn (call.Attach loose) = Some (turn_by loose.turn)
  brought_turn (call.Release lease fence) = Some (turn_by lease.turn)
  brought_turn (call.DetachRead lease) = Some (turn_by lease.turn)
  brought_turn (call.AttachRead loose) = Some (turn_by loose.turn)
  brought_turn asked = None

  abbrev pub given_turn : Gives B → Option Turn
  given_turn (gives.Write lease) = Some (turn_by (turn_of lease.work))
  given_turn (gives.Owes owing) = Some (issued_turn owing.turn)
  given_turn (gives.Read lease) = Some (turn_by lease.turn)
  given_turn (gives.Free loose) = Some (turn_by loose.turn)
  given_turn gives.Nothing = None

  -- the call of the step at this place gave a token with this turn
  abbrev pub WasGivenAt : (ℕ → List (Call B)) → ℕ → Option Turn → Type 0
  WasGivenAt calls place turn =
      (queue : ℕ) × (made : Call B) × Contains (calls queue) made × (made.made.call.0 ≡ place) × (given_turn made.made.reply.gives ≡ turn)

  -- a call acquired this frame, with this turn
  abbrev pub Acquires : FrameOf → Option Turn → QCall B → Gives B → Type 0
  Acquires frame turn (call.Acquire expected) (gives.Read lease) = (frame_of lease ≡ frame) × (Some (turn_by lease.turn) ≡ turn)
  Acquires frame turn asked given = ⊥

  abbrev pub WasAcquired : (ℕ → List (Call B)) → FrameOf → Option Turn → Type 0
  WasAcquired calls frame turn =
      (made : Call B) × Contains (calls frame.0.0) made × Acquires frame turn made.made.call.1 made.made.reply.gives

  -- the call acquired a frame, with this lease
  abbrev pub Takes : ReadLeaseOf → QCall B → Gives B → Type 0
  Takes lease (call.Acquire expected) (gives.Read given) = given ≡ lease
  Takes lease asked given = ⊥

  abbrev pub WasTaken : (ℕ → List (Call B)) → ReadLeaseOf → Type 0
  WasTaken calls lease = (made : Call B) × Contains (calls lease.queue.0) made × Takes lease made.made.call.1 made.made.reply.gives

  -- A call gave the drawing that a name owes, just as it is owed; and a call gave the lease of a frame that has a number.
  abbrev pub IsOfCall : (ℕ → List (Call B)) → Holding B → Type 0
  IsOfCall calls (holding.Lends lease) = Unit {0}
  IsOfCall calls (holding.Owes owing held) = (queue : ℕ) × (made : Call B) × Contains (calls queue) made × (made.made.reply.gives ≡ gives.Owes owing)
  IsOfCall calls (holding.Reads lease) = lease.frame ≢ 0 → WasTaken calls lease
  IsOfCall calls (holding.Frees queue loose) = Unit {0}

  -- the token that a call brings has the turn with which it was given
  abbrev pub IsFrom : (ℕ → List (Call B)) → Source → Option Turn → Type 0
  IsFrom calls NoToken turn = turn ≡ None
  IsFrom calls (GivenAt place) turn = WasGivenAt calls place turn
  IsFrom calls (TakenFrame frame) turn = WasAcquired calls frame turn

  abbrev pub BringsGiven : (ℕ → List (Call B)) → MadeStep → Call B → Type 0
  BringsGiven calls step made = IsFrom calls step.brings (brought_turn made.made.call.1)

  -- the leases of a transaction that was sent are just those that calls gave
  abbrev pub HoldsAcquired : (ℕ → List (Call B)) → Buffer ReadLeaseOf → Type 0
  HoldsAcquired calls buffer = WasTaken calls buffer.lease

  abbrev pub SendsAcquired : (ℕ → List (Call B)) → Arrival ReadLeaseOf → Type 0
  SendsAcquired calls arrived = All (HoldsAcquired calls) arrived.txn.buffers

  abbrev pub MadeWith : ℕ → Call B → Type 0
  MadeWith number made = made_with (permit_of made.made.call.1) made.made.reply.spare number ≡ true

  -- a call gave the drawing of this frame as owed, and its turn has left
  abbrev pub WasPaid : List Turn → (ℕ → List (Call B)) → FrameNumber → Type 0
  WasPaid left calls frame =
      (queue : ℕ) × (made : Call B) × (owing : OwingOf) × Contains (calls queue) made × (made.made.reply.gives ≡ gives.Owes owing)
      × ((owing.queue, owing.frame) ≡ frame) × Contains left (issued_turn owing.turn)
