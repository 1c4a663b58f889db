-- The calls on a queue, with their stamps.
use Rattle.std.specs.Prelude.{ℕ}
use Rattle.sf_calls.specs.Views.{PassView}
use Rattle.sf_calls.specs.declared.object.Entry.{Entry}
use Rattle.sf_actor.specs.sf_surface.declared.call.QCall.{QCall}
use Rattle.sf_actor.specs.sf_surface.declared.call.QReply.{QReply}
use Rattle.sf_actor.specs.sf_surface.declared.mark.QueueMark.{QueueMark}

-- calls on a queue with their stamps, and what a pass at a queue's lock shows
abbrev pub QueueEntry : Type 0 → Type 0
QueueEntry B = Entry (ℕ × (ℕ × QCall B)) (ℕ × QReply B)

abbrev pub QueuePass : Type 0 → Type 0
QueuePass B = PassView (ℕ × (ℕ × QCall B)) (ℕ × QReply B) QueueMark
