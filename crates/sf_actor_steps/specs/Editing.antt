-- What a step does that begins, changes, merges or sends a transaction.
use Rattle.std.specs.Prelude.{◌≡◌, ◌≢◌, ℕ, true, List, [], ◌∷◌, get_or, slice_set, option_to_list, Option, Some, None, Result, IfOk}
use Rattle.std.specs.List.{All}
use Rattle.sf_base.specs.Fences.{no_points, merged as with_points_of}
use Rattle.sf_base.specs.declared.memory.NoMemory.{NoMemory}
use Rattle.sf_actor.specs.sf_surface.declared.call.QCall.TheVariants as call
use Rattle.sf_actor.specs.sf_surface.declared.call.QReply.{QReply}
use Rattle.sf_actor.specs.sf_surface.Tokens.{ReadLeaseOf}
use Rattle.sf_actor.specs.sf_txn.Buffers.{Buffer}
use Rattle.sf_actor.specs.sf_txn.Transactions.{Contents, all_replaced, empty, merged, replaced_by, set_buffer}
use Rattle.sf_actor.specs.declared.holding.Holding.{Holding}
use Rattle.sf_actor.specs.declared.holding.Holding.TheVariants as holding
use Rattle.sf_actor.specs.Desks.{DeskHome, DeskView, MadeCall, MadeSend, has_queue}
use Rattle.sf_actor.specs.Scripts.{layer_of}
use Rattle.sf_actor_steps.specs.Calling.{Ends}
use Rattle.sf_actor_steps.specs.Forming.{Takes}
use Rattle.sf_actor_steps.specs.declared.bindings.Bindings.{Bindings}
use Rattle.sf_actor_steps.specs.declared.tried.Tried.{Tried}
use Rattle.sf_actor_steps.specs.declared.tried.Tried.TheVariants as tried

-- a frame as a buffer of a transaction, on a layer
abbrev pub buffer_with : ℕ → ReadLeaseOf → Buffer ReadLeaseOf
buffer_with layer lease = record {
  layer = layer_of layer;
  shown = record { queue = lease.queue; frame = lease.frame; picture = lease.picture; crop = lease.crop };
  fence = lease.fence;
  lease = lease;
}

-- the queue of a buffer's frame is there
abbrev pub IsThere : DeskHome → Buffer ReadLeaseOf → Type 0
IsThere home buffer = has_queue home buffer.lease.queue.0 ≡ true

-- the queues of the frames that a number's transaction shows are there
abbrev pub AreThere : DeskHome → Option (Contents ReadLeaseOf) → Type 0
AreThere home None = Unit {0}
AreThere home (Some txn) = All (IsThere home) txn.buffers

-- unless memory ran out, the step was done, and did this
abbrev pub IfDone : Result Tried NoMemory → Type 0 → Type 0
IfDone result Did = IfOk result (λ came_to. (came_to ≡ tried.Own 0) × Did)

module _ {B : Type 0} where
  -- a number holds this
  abbrev pub with_txn : Bindings B → ℕ → Option (Contents ReadLeaseOf) → Bindings B
  with_txn bindings number held = record bindings { transactions = slice_set bindings.transactions number held }

  -- the transaction that a number holds is taken out
  pub record TakesTxn (before taken : Bindings B) (number : ℕ) (txn : Contents ReadLeaseOf) : Type 0 where
    pub txn_there : get_or before.transactions number None ≡ Some txn
    pub txn_rest : taken ≡ with_txn before number None

  -- the transaction that a number holds is changed
  pub record Edits (before after : Bindings B) (number : ℕ) (change : Contents ReadLeaseOf → Contents ReadLeaseOf) : Type 0 where
    pub edited : Contents ReadLeaseOf
    pub without : Bindings B
    pub takes : TakesTxn before without number edited
    pub put_back : after ≡ with_txn without number (Some (change edited))

  -- a frame is given back, with its own fence; where its queue refuses that, it is let go
  pub record Releases (home : DeskHome) (by step_number : ℕ) (lease : ReadLeaseOf) (old new : DeskView B) : Type 0 where
    pub reply : QReply B
    pub released : DeskView B
    pub made : MadeCall home old released by lease.queue.0 (step_number, call.Release lease (with_points_of no_points lease.fence)) reply
    pub ends : Ends reply.ends released new

  -- the frames of buffers are given back, one after another
  abbrev pub ReleasesAll : DeskHome → ℕ → ℕ → List (Buffer ReadLeaseOf) → DeskView B → DeskView B → Type 0
  ReleasesAll home by step_number [] old new = new ≡ old
  ReleasesAll home by step_number (buffer ∷ later) old new =
      (next : DeskView B) × Releases home by step_number buffer.lease old next × ReleasesAll home by step_number later next new

  -- a name holds a frame that its queue showed
  abbrev pub HoldsShown : Option (Holding B) → Type 0
  HoldsShown (Some (holding.Reads lease)) = lease.frame ≢ 0
  HoldsShown held = ⊥

  -- a frame goes from its name into a transaction, and the one whose place it takes is given back
  pub record Shows (home : DeskHome) (by step_number number layer name : ℕ) (before after : Bindings B) (old new : DeskView B) : Type 0 where
    pub lease : ReadLeaseOf
    pub without_frame : Bindings B
    pub takes : Takes before without_frame name (holding.Reads lease)
    pub edits : Edits without_frame after number (λ txn. set_buffer txn (buffer_with layer lease))
    pub releases : ReleasesAll home by step_number (option_to_list (replaced_by edits.edited.buffers (buffer_with layer lease))) old new

  -- one transaction is merged into another and is empty then, and the frames whose places others take are given back
  pub record Merges (home : DeskHome) (by step_number number other : ℕ) (before after : Bindings B) (old new : DeskView B) : Type 0 where
    pub into : Contents ReadLeaseOf
    pub from : Contents ReadLeaseOf
    pub without_into : Bindings B
    pub without_both : Bindings B
    pub takes_into : TakesTxn before without_into number into
    pub takes_from : TakesTxn without_into without_both other from
    pub put_back : after ≡ with_txn (with_txn without_both number (Some (merged into from))) other (Some empty)
    pub releases : ReleasesAll home by step_number (all_replaced into.buffers from.buffers) old new

  -- a transaction is sent under an apply token
  pub record Sends (home : DeskHome) (by step_number number token : ℕ) (before after : Bindings B) (old new : DeskView B) (arrival : ℕ) : Type 0 where
    pub sent : Contents ReadLeaseOf
    pub takes : TakesTxn before after number sent
    pub made : MadeSend home old new by step_number (record sent { token = record { 0 = token } }) arrival

  abbrev pub TriesSend : DeskHome → ℕ → ℕ → ℕ → ℕ → Bindings B → Bindings B → DeskView B → DeskView B → Tried → Type 0
  TriesSend home by step_number number token before after old new (tried.Sent arrival) = Sends home by step_number number token before after old new arrival
  TriesSend home by step_number number token before after old new other = ⊥
