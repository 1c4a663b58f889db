-- What the names and numbers of an actor hold after a step.
use Rattle.std.specs.Prelude.{ℕ, Bool, true, false, not, ◌==◌, if◌then◌else◌, [], ◌∷◌, ◌++◌, Option, Some, None, unwrap_or, pos}
use Rattle.std.specs.Option.{option_map}
use Rattle.sf_base.specs.Fences.{no_points}
use Rattle.sf_base.specs.declared.geometry.Rect.{Rect}
use Rattle.sf_surface.specs.sf_slots.declared.calls.PlainReply.{PlainReply}
use Rattle.sf_surface.specs.sf_slots.declared.calls.PlainReply.TheVariants as reply
use Rattle.sf_token.specs.sf_txn.Transactions.{Contents, empty, merged, set, set_buffer}
use Rattle.sf_actor.specs.declared.done.Answered.{Answered}
use Rattle.sf_actor.specs.declared.done.Answered.TheVariants as answered
use Rattle.sf_actor.specs.declared.done.Done.{Done}
use Rattle.sf_script_scene.specs.declared.step.Step.{Step}
use Rattle.sf_script_scene.specs.declared.step.Step.TheVariants as step
use Rattle.sf_actor.specs.Asking.{buffer_of}
use Rattle.sf_actor.specs.Names.{Holdings, FrameOf, Token, Lent, Owing, Frame, Apart, moved, name_in, transaction_in, with_name, with_transaction, without_leases}
use Rattle.sf_actor.specs.Scripts.{layer_of, op_of, queue_of}

-- the call was refused
abbrev pub is_refusal : PlainReply → Bool
is_refusal (reply.Refused status) = true
is_refusal other = false

-- the step was not refused
abbrev pub was_done : Answered → Bool
was_done (answered.Own status) = status == 0
was_done (answered.Called replied) = not (is_refusal replied)
was_done (answered.Sent number) = true

-- a buffer that a dequeue lent
abbrev pub lent_by : Holdings → ℕ → ℕ → Answered → Holdings
lent_by holdings q s (answered.Called (reply.Dequeued slot held requested reallocated fence)) =
    with_name holdings s (Some (Lent (queue_of q) (record { slot = slot; held = held; requested = requested; fence = fence; drawn = false }) None))
lent_by holdings q s other = holdings

-- a lent buffer whose producer knows it now
abbrev pub requested : Option Token → Option Token
requested (Some (Lent queue token drawn)) = Some (Lent queue (record token { requested = true }) drawn)
requested other = other

-- a picture is drawn in a lease; what was owed is paid
abbrev pub drawn_with : ℕ → Option Token → Option Token
drawn_with picture (Some (Lent queue token drawn)) = Some (Lent queue (record token { drawn = true }) (Some picture))
drawn_with picture other = None

-- a frame that was queued undrawn leaves its drawing owed
abbrev pub owed_by : ℕ → Answered → Option Token → Option Token
owed_by picture (answered.Called (reply.Queued frame)) (Some (Lent queue token None)) =
    Some (Owing queue (record { slot = token.slot; frame = frame; fence = token.fence; held = token.held; picture = picture }))
owed_by picture other token = None

-- a lent or acquired buffer out of its queue
abbrev pub detached : Holdings → ℕ → ℕ → Option Token → Holdings
detached holdings from to (Some (Lent queue token drawn)) = moved holdings from to (Apart queue token.held)
detached holdings from to (Some (Frame queue token)) = moved holdings from to (Apart queue token.held)
detached holdings from to other = holdings

-- a loose buffer that was attached is lent under the other name, requested and without a fence
abbrev pub attached : Holdings → ℕ → ℕ → ℕ → Answered → Holdings
attached holdings q from to (answered.Called (reply.Attached slot held)) =
    moved holdings from to (Lent (queue_of q) (record { slot = slot; held = held; requested = true; fence = no_points; drawn = false }) None)
attached holdings q from to other = holdings

-- a frame that an acquire gave
abbrev pub taken_by : Holdings → ℕ → ℕ → Answered → Holdings
taken_by holdings q i (answered.Called (reply.Acquired item dropped)) =
    with_name holdings i
    (Some (Frame (queue_of q) (record { slot = item.slot; frame = item.frame; held = item.held; picture = item.picture; crop = item.crop; fence = item.fence })))
taken_by holdings q i other = holdings

-- the crop of a buffer of the consumer's own
abbrev pub no_crop : Rect
no_crop = record { x = pos 0; y = pos 0; width = 0; height = 0 }

-- a loose buffer that was attached is the consumer's under the other name, with frame number 0
abbrev pub attached_read : Holdings → ℕ → ℕ → ℕ → Answered → Holdings
attached_read holdings q from to (answered.Called (reply.Attached slot held)) =
    moved holdings from to (Frame (queue_of q) (record { slot = slot; frame = 0; held = held; picture = 0; crop = no_crop; fence = no_points }))
attached_read holdings q from to other = holdings

-- a transaction number holds what it held, changed
abbrev pub edited : Holdings → ℕ → (Contents FrameOf → Contents FrameOf) → Holdings
edited holdings n change = with_transaction holdings n (Some (change (unwrap_or (transaction_in holdings n) empty)))

-- a frame moves from its name into a transaction
abbrev pub shown_on : Holdings → ℕ → ℕ → ℕ → Option Token → Holdings
shown_on holdings n layer i (Some (Frame queue token)) = with_name (edited holdings n (λ txn. set_buffer txn (buffer_of layer (queue, token)))) i None
shown_on holdings n layer i other = holdings

-- one transaction is merged into another and is empty then
abbrev pub merged_into : Holdings → ℕ → ℕ → Holdings
merged_into holdings n m = with_transaction (edited holdings n (λ txn. merged txn (unwrap_or (transaction_in holdings m) empty))) m (Some empty)

-- what names and numbers hold after a step that was not refused
abbrev pub holdings_with : Holdings → Step → Answered → Holdings
holdings_with holdings (step.Disconnect q) a = without_leases holdings q
holdings_with holdings (step.Dequeue q s size) a = lent_by holdings q s a
holdings_with holdings (step.DequeueWait q s size) a = lent_by holdings q s a
holdings_with holdings (step.Request s) a = with_name holdings s (requested (name_in holdings s))
holdings_with holdings (step.Draw s p) a = with_name holdings s (drawn_with p (name_in holdings s))
holdings_with holdings (step.Queue s p time crop points) a = with_name holdings s (owed_by p a (name_in holdings s))
holdings_with holdings (step.Cancel s points) a = with_name holdings s None
holdings_with holdings (step.PDetach s b) a = detached holdings s b (name_in holdings s)
holdings_with holdings (step.PAttach q b s) a = attached holdings q b s a
holdings_with holdings (step.Acquire q i at) a = taken_by holdings q i a
holdings_with holdings (step.Release i points) a = with_name holdings i None
holdings_with holdings (step.CDetach i b) a = detached holdings i b (name_in holdings i)
holdings_with holdings (step.CAttach q b i) a = attached_read holdings q b i a
holdings_with holdings (step.Tx n) a = with_transaction holdings n (Some empty)
holdings_with holdings (step.Desire n time) a = edited holdings n (λ txn. record txn { desired = Some time })
holdings_with holdings (step.Buffer n layer i) a = shown_on holdings n layer i (name_in holdings i)
holdings_with holdings (step.Barrier n layer frame) a = edited holdings n (λ txn. record txn { barriers = txn.barriers ++ (layer_of layer, frame) ∷ [] })
holdings_with holdings (step.Merge n m) a = merged_into holdings n m
holdings_with holdings (step.Apply n token) a = with_transaction holdings n None
holdings_with holdings (step.Set n layer change) a = edited holdings n (λ txn. set txn (layer_of layer, op_of change))
holdings_with holdings s a = holdings

-- and after any step
unfoldable pub holdings_next : Holdings → Done → Holdings
holdings_next holdings done = if was_done done.answered then holdings_with holdings done.step done.answered else holdings

-- the name whose token the call of a step brings
abbrev pub used_by : Step → Option ℕ
used_by (step.Request s) = Some s
used_by (step.Queue s p time crop points) = Some s
used_by (step.Cancel s points) = Some s
used_by (step.PDetach s b) = Some s
used_by (step.PAttach q b s) = Some b
used_by (step.Release i points) = Some i
used_by (step.CDetach i b) = Some i
used_by (step.CAttach q b i) = Some b
used_by s = None

-- the name that holds what the reply to the call of a step gives
abbrev pub filled_by : Step → Option ℕ
filled_by (step.Dequeue q s size) = Some s
filled_by (step.DequeueWait q s size) = Some s
filled_by (step.Request s) = Some s
filled_by (step.Queue s p time crop points) = Some s
filled_by (step.PDetach s b) = Some b
filled_by (step.PAttach q b s) = Some s
filled_by (step.Acquire q i at) = Some i
filled_by (step.CDetach i b) = Some b
filled_by (step.CAttach q b i) = Some i
filled_by s = None

-- the transaction that a step sends, if it sends one, with its token
abbrev pub addressed : ℕ → Contents FrameOf → Contents FrameOf
addressed token txn = record txn { token = record { 0 = token } }

-- the transaction that an `apply` sends, under its token
abbrev pub sent_by : Holdings → Step → Option (Contents FrameOf)
sent_by holdings (step.Apply n token) = option_map (addressed token) (transaction_in holdings n)
sent_by holdings s = None
