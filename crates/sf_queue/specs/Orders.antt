-- The call and the item that an order means.
use Rattle.std.specs.Prelude.{ℕ, ◌+◌, None}
use Rattle.sf_base.specs.Fences.{no_points}
use Rattle.sf_base.specs.declared.geometry.Rect.{Rect}
use Rattle.sf_slots.specs.declared.calls.PlainCall.{PlainCall}
use Rattle.sf_slots.specs.declared.calls.PlainCall.TheVariants as call
use Rattle.sf_slots.specs.declared.calls.WriteToken.{WriteToken}
use Rattle.sf_slots.specs.declared.item.Item.{Item}
use Rattle.sf_slots.specs.Queue.{Queue, told_of}
use Rattle.sf_slots.specs.Told.{Told}
use Rattle.sf_queue.specs.declared.queueing.QueueOrder.{QueueOrder}
use Rattle.sf_queue.specs.Leases.{lease_of, meant}

-- queueing a picture of this size, of which the crop is shown
abbrev pub queue_call : WriteToken → ℕ → ℕ → Rect → PlainCall
queue_call lease width height crop = call.Queue lease 0 width height None crop no_points

-- queueing an order's frame from a lease
abbrev pub call_of : {R : Type 0} → QueueOrder R → WriteToken → PlainCall
call_of order lease = call.Queue lease order.picture order.width order.height order.time order.crop order.fence

abbrev pub order_call : {R : Type 0} → Told → QueueOrder R → PlainCall
order_call told order = call_of order (lease_of told order.slot order.buffer)

-- the item that is queued
abbrev pub item_of : {R : Type 0} → Queue R → QueueOrder R → Item R
item_of q order = record {
  slot = order.slot;
  held = meant (told_of q) order.slot order.buffer;
  frame = q.settings.frames + 1;
  picture = order.picture;
  time = order.time;
  droppable = q.settings.asynchronous;
  fence = order.fence;
  crop = order.crop;
  right = order.right;
}
