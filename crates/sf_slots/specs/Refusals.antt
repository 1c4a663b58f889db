-- Which refusals each call can give.
use Rattle.std.specs.Prelude.{List, [], ◌∷◌}
use Rattle.sf_base.specs.declared.status.QStatus.{QStatus}
use Rattle.sf_base.specs.declared.status.QStatus.TheVariants.{NoInit, BadValue, InvalidOperation, WouldBlock, NoBuffer, PresentLater, Stale, NoSlot}
use Rattle.sf_slots.specs.declared.calls.PlainCall.{PlainCall}
use Rattle.sf_slots.specs.declared.calls.PlainCall.TheVariants as call

-- the refusals that a call can give
abbrev pub refusals_of : PlainCall → List QStatus
refusals_of call.Connect = NoInit ∷ BadValue ∷ []
refusals_of call.Disconnect = NoInit ∷ []
refusals_of (call.MaxDequeued n) = NoInit ∷ BadValue ∷ []
refusals_of (call.Async on) = NoInit ∷ BadValue ∷ []
refusals_of (call.Dequeue width height wait) = NoInit ∷ BadValue ∷ InvalidOperation ∷ WouldBlock ∷ []
refusals_of (call.Request lease) = NoInit ∷ BadValue ∷ []
refusals_of (call.Queue lease picture width height time crop fence) = NoInit ∷ BadValue ∷ []
refusals_of (call.Cancel lease fence) = NoInit ∷ BadValue ∷ []
refusals_of (call.Detach lease) = NoInit ∷ BadValue ∷ []
refusals_of (call.Attach held) = NoInit ∷ InvalidOperation ∷ WouldBlock ∷ []
refusals_of (call.MaxAcquired n) = NoInit ∷ BadValue ∷ InvalidOperation ∷ []
refusals_of call.Abandon = NoInit ∷ []
refusals_of (call.Acquire expected) = NoInit ∷ InvalidOperation ∷ NoBuffer ∷ PresentLater ∷ []
refusals_of (call.Release lease fence) = NoInit ∷ BadValue ∷ Stale ∷ []
refusals_of (call.DetachRead lease) = NoInit ∷ BadValue ∷ Stale ∷ []
refusals_of (call.AttachRead held) = NoInit ∷ InvalidOperation ∷ NoSlot ∷ []
