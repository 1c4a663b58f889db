-- What a call says of a lease, by the slot and the buffer that it names.
use Rattle.std.proofs.Common.{◌≡◌, ◌∙◌, ap, ap₂, ℕ}
use Rattle.sf_base.specs.declared.ids.QueueId.{QueueId}
use Rattle.sf_base.specs.declared.ids.SlotId.{SlotId}
use Rattle.sf_turns.specs.sf_picture.declared.picture.Picture.{Picture}
use Rattle.sf_slots.specs.declared.calls.ReadToken.{ReadToken}
use Rattle.sf_slots.specs.declared.calls.WriteToken.{WriteToken}
use Rattle.sf_slots.specs.declared.slot.Held.{Held}
use Rattle.sf_surface.specs.Calls.{queued_token, read_token, write_token}
use Rattle.sf_surface.specs.Tokens.{ReadLeaseOf, WriteLeaseOf, is_drawn}

abbrev pub write_said : WriteLeaseOf → SlotId → Held → WriteToken
write_said lease slot held = record { slot = slot; held = held; requested = lease.requested; fence = lease.fence; drawn = is_drawn lease.work }

abbrev pub read_said : ReadLeaseOf → SlotId → ℕ → Held → ReadToken
read_said lease slot frame held = record { slot = slot; frame = frame; held = held; picture = lease.picture; crop = lease.crop; fence = lease.fence }

pub write_same : (queue number : QueueId) (lease : WriteLeaseOf) (slot : SlotId) (held : Held) → slot ≡ (write_token queue lease).slot → held ≡ (write_token queue lease).held → queue ≡ number → write_said lease slot held ≡ write_token number lease
write_same queue number lease slot held slot_is held_is same = ap₂ (write_said lease) slot_is held_is ∙ ap (λ (n : QueueId). write_token n lease) same

pub queued_same : (queue number : QueueId) (lease : WriteLeaseOf) (picture : Picture) (slot : SlotId) (held : Held) → slot ≡ (queued_token queue lease picture).slot → held ≡ (queued_token queue lease picture).held → queue ≡ number → write_said lease slot held ≡ queued_token number lease picture
queued_same queue number lease picture slot held slot_is held_is same = ap₂ (write_said lease) slot_is held_is ∙ ap (λ (n : QueueId). queued_token n lease picture) same

pub read_same : (queue number : QueueId) (lease : ReadLeaseOf) (slot : SlotId) (frame : ℕ) (held : Held) → slot ≡ (read_token queue lease).slot → frame ≡ lease.frame → held ≡ (read_token queue lease).held → queue ≡ number → read_said lease slot frame held ≡ read_token number lease
read_same queue number lease slot frame held slot_is frame_is held_is same = (λ i. read_said lease (slot_is i) (frame_is i) (held_is i)) ∙ ap (λ (n : QueueId). read_token n lease) same
