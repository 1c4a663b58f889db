-- Frames that were acquired: each is one that a call queued before.
use Rattle.std.specs.Prelude.{◌≡◌, ℕ, List, Contains}
use Rattle.sf_commit.specs.sf_txn.Buffers.{Buffer}
use Rattle.sf_actor.specs.sf_surface.Histories.{Made, Queues}
use Rattle.sf_actor.specs.sf_surface.Tokens.{ReadLeaseOf}
use Rattle.sf_actor.specs.sf_surface.declared.call.Gives.TheVariants as gives
use Rattle.sf_actor.specs.sf_surface.declared.call.QCall.TheVariants as call
use Rattle.sf_actor.specs.Asking.{shown_of}
use Rattle.sf_actor.specs.Desks.{DeskView}
use Rattle.sf_actor.specs.Known.{frame_of}

module _ {B : Type 0} where
  -- the call acquired a frame, which has this lease
  pub record TakesFrame (made : Made B) (lease : ReadLeaseOf) : Type 0 where
    pub expected : ℕ
    pub call : made.call.1 ≡ call.Acquire expected
    pub gives : made.reply.gives ≡ gives.Read lease

  -- one of the calls queued the frame of a lease: the lease has the number of its picture and its crop, and expects its pixels
  pub record WasQueued (calls : List (Made B)) (lease : ReadLeaseOf) : Type 0 where
    pub made : Made B
    pub there : Contains calls made
    pub queues : Queues made lease.frame lease.turn
    pub picture : lease.picture ≡ queues.picture.number
    pub crop : lease.crop ≡ queues.crop
    pub pixels : lease.turn.expects ≡ queues.picture

  -- a buffer of a transaction shows the frame of its lease, and a call gave the lease
  pub record ShowsGiven (view : DeskView B) (buffer : Buffer ReadLeaseOf) : Type 0 where
    pub made : Made B
    pub there : Contains (view.calls buffer.lease.queue.0) made
    pub takes : TakesFrame made buffer.lease
    pub shows : buffer.shown ≡ shown_of (frame_of buffer.lease)
