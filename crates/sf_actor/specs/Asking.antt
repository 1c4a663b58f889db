-- The calls that a step makes on queues.
use Rattle.std.specs.Prelude.{ℕ, Bool, true, false, List, [], map, option_to_list, Option, Some, None, unwrap_or}
use Rattle.sf_base.specs.Fences.{Fence, merged}
use Rattle.sf_base.specs.declared.ids.QueueId.{QueueId}
use Rattle.sf_token.specs.sf_layer.declared.shown.Shown.{Shown}
use Rattle.sf_script_scene.specs.sf_picture.declared.picture.Picture.{Picture}
use Rattle.sf_surface.specs.sf_slots.declared.calls.PlainCall.{PlainCall}
use Rattle.sf_surface.specs.sf_slots.declared.calls.PlainCall.TheVariants as call
use Rattle.sf_token.specs.sf_txn.Buffers.{Buffer}
use Rattle.sf_token.specs.sf_txn.Transactions.{Contents, all_replaced, replaced_by}
use Rattle.sf_script_scene.specs.declared.step.Step.{Step}
use Rattle.sf_script_scene.specs.declared.step.Step.TheVariants as step
use Rattle.sf_actor.specs.Names.{Holdings, FrameOf, Token, Lent, Frame, Apart, name_in, transaction_in}
use Rattle.sf_actor.specs.Scripts.{crop_of, fence_of, layer_of, queue_of}

-- a call, and the queue that it is made on
abbrev pub Asked : Type 0
Asked = QueueId × PlainCall

-- the call of a `request`: the lent buffer that the name holds
abbrev pub request_of : Option Token → Option Asked
request_of (Some (Lent queue token drawn)) = Some (queue, call.Request token)
request_of other = None

-- a frame of this picture
abbrev pub queueing_of : Picture → Option ℕ → Option (ℕ × ℕ × ℕ × ℕ) → Fence → Option Token → Option Asked
queueing_of picture time crop fence (Some (Lent queue token drawn)) =
    Some (queue, call.Queue token picture.number picture.width picture.height time (crop_of token.held crop) fence)
queueing_of picture time crop fence other = None

-- an unused right goes back with what it had to wait for
abbrev pub cancel_of : Fence → Option Token → Option Asked
cancel_of fence (Some (Lent queue token None)) = Some (queue, call.Cancel token (merged fence token.fence))
cancel_of fence (Some (Lent queue token (Some drawn))) = Some (queue, call.Cancel token fence)
cancel_of fence other = None

-- the call of a `pdetach`: the lent buffer that the name holds
abbrev pub detach_of : Option Token → Option Asked
detach_of (Some (Lent queue token drawn)) = Some (queue, call.Detach token)
detach_of other = None

-- the call of a `pattach`: the loose buffer that the name holds, into this queue
abbrev pub attach_of : ℕ → Option Token → Option Asked
attach_of queue (Some (Apart of held)) = Some (queue_of queue, call.Attach held)
attach_of queue other = None

-- an unread frame is released with its own fence beside the points that are named
abbrev pub release_of : Fence → FrameOf → Asked
release_of fence frame = (frame.0, call.Release frame.1 (merged fence frame.1.fence))

-- the call of a `release`: the frame that the name holds, with this fence
abbrev pub releasing_of : Fence → Option Token → Option Asked
releasing_of fence (Some (Frame queue token)) = Some (release_of fence (queue, token))
releasing_of fence other = None

-- the call of a `cdetach`: the frame that the name holds
abbrev pub detach_read_of : Option Token → Option Asked
detach_read_of (Some (Frame queue token)) = Some (queue, call.DetachRead token)
detach_read_of other = None

-- the call of a `cattach`: the loose buffer that the name holds, into this queue
abbrev pub attach_read_of : ℕ → Option Token → Option Asked
attach_read_of queue (Some (Apart of held)) = Some (queue_of queue, call.AttachRead held)
attach_read_of queue other = None

-- the call of a dequeue, of size 0 by 0 where the step names none
abbrev pub dequeue_of : ℕ → Option (ℕ × ℕ) → Bool → Asked
dequeue_of queue size wait = (queue_of queue, call.Dequeue (unwrap_or size (0, 0)).0 (unwrap_or size (0, 0)).1 wait)

-- the call of a step, whose reply the step answers
abbrev pub call_of : (ℕ → Picture) → Holdings → Step → Option Asked
call_of pictures holdings (step.Connect q) = Some (queue_of q, call.Connect)
call_of pictures holdings (step.Disconnect q) = Some (queue_of q, call.Disconnect)
call_of pictures holdings (step.MaxDequeued q n) = Some (queue_of q, call.MaxDequeued n)
call_of pictures holdings (step.Async q on) = Some (queue_of q, call.Async on)
call_of pictures holdings (step.Dequeue q s size) = Some (dequeue_of q size false)
call_of pictures holdings (step.DequeueWait q s size) = Some (dequeue_of q size true)
call_of pictures holdings (step.Request s) = request_of (name_in holdings s)
call_of pictures holdings (step.Queue s p time crop points) = queueing_of (pictures p) time crop (fence_of points) (name_in holdings s)
call_of pictures holdings (step.Cancel s points) = cancel_of (fence_of points) (name_in holdings s)
call_of pictures holdings (step.PDetach s b) = detach_of (name_in holdings s)
call_of pictures holdings (step.PAttach q b s) = attach_of q (name_in holdings b)
call_of pictures holdings (step.MaxAcquired q n) = Some (queue_of q, call.MaxAcquired n)
call_of pictures holdings (step.Abandon q) = Some (queue_of q, call.Abandon)
call_of pictures holdings (step.Acquire q i at) = Some (queue_of q, call.Acquire (unwrap_or at 0))
call_of pictures holdings (step.Release i points) = releasing_of (fence_of points) (name_in holdings i)
call_of pictures holdings (step.CDetach i b) = detach_read_of (name_in holdings i)
call_of pictures holdings (step.CAttach q b i) = attach_read_of q (name_in holdings b)
call_of pictures holdings other = None

-- a call that waits where the queue would refuse it for want of a free slot
abbrev pub may_wait : PlainCall → Bool
may_wait (call.Dequeue width height wait) = wait
may_wait asked = false

-- a frame as a buffer of a transaction, on a layer
abbrev pub shown_of : FrameOf → Shown
shown_of frame = record { queue = frame.0; frame = frame.1.frame; picture = frame.1.picture; crop = frame.1.crop }

-- a frame as a buffer that a transaction shows on a layer
abbrev pub buffer_of : ℕ → FrameOf → Buffer FrameOf
buffer_of layer frame = record { layer = layer_of layer; shown = shown_of frame; fence = frame.1.fence; lease = frame }

-- the frame of such a buffer
abbrev pub lease_of : Buffer FrameOf → FrameOf
lease_of buffer = buffer.lease

-- the frames whose places in a transaction others take
abbrev pub replaced_in : Option (Contents FrameOf) → ℕ → Option Token → List FrameOf
replaced_in (Some contents) layer (Some (Frame queue token)) = map lease_of (option_to_list (replaced_by contents.buffers (buffer_of layer (queue, token))))
replaced_in contents layer token = []

-- the frames whose places others take where the second transaction is merged into the first
abbrev pub merged_away : Option (Contents FrameOf) → Option (Contents FrameOf) → List FrameOf
merged_away (Some contents) (Some other) = map lease_of (all_replaced contents.buffers other.buffers)
merged_away contents other = []

-- the frames that a step releases which is done
abbrev pub overtaken_by : Holdings → Step → List FrameOf
overtaken_by holdings (step.Buffer n layer i) = replaced_in (transaction_in holdings n) layer (name_in holdings i)
overtaken_by holdings (step.Merge n m) = merged_away (transaction_in holdings n) (transaction_in holdings m)
overtaken_by holdings other = []
