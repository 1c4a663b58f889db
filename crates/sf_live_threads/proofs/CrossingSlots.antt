-- A queue's slots may cross to a thread, where the rights in them may.
use denote.RattleType.{RattleType}
use denote.Param.Send.{IsSend, sendable, view_send}
use denote.Param.SendFields.{declared_send}
use Rattle.std.proofs.Crossing.{Vec-send, crosses}
use Rattle.std.specs.contracts.alloc.Global as heap
use Rattle.std.specs.contracts.impls.GlobalAllocator.TheImpl.{ghosts}
use Rattle.circular_buffer.proofs.Crosses.{Cells-send}
use Rattle.circular_buffer.proofs.cells.Deed.TheSendSync as deed_shown
use Rattle.circular_buffer.specs.contracts.heap.HeapCircularBuffer as buffer
use Rattle.circular_buffer.specs.contracts.heap.HeapCircularBuffer.TheInside as inside
use Rattle.circular_buffer.specs.contracts.ring.Ring as ring
use Rattle.std.specs.contracts.option.Option as option
use Rattle.sf_base.proofs.fences.Fence.TheSendSync as fence_shown
use Rattle.sf_actor_steps.specs.sf_slots.contracts.slots.Slots as slots
use Rattle.sf_actor_steps.specs.sf_slots.contracts.slots.Slots.TheInside as slots_inside
use Rattle.sf_actor_steps.specs.sf_slots.contracts.item.Item as item
use Rattle.sf_actor_steps.proofs.sf_slots_lemmas.slot.Slot.TheSendSync as slot_shown
use Rattle.sf_actor_steps.proofs.sf_slots_lemmas.settings.Settings.TheSendSync as settings_shown

module _ (R : RattleType) where
  pub option_send : IsSend R → IsSend (option.the_row R)
  option_send s = search sendable depth 20

  pub item_send : IsSend R → IsSend (item.the_row R)
  item_send s = search (sendable, crosses, fence_shown.the_send) depth 20

  pub ring_send : IsSend R → IsSend (ring.the_row R heap.the_row ghosts)
  ring_send s = search (sendable, crosses, Cells-send, deed_shown.the_send) depth 20

  pub buffer_send : IsSend R → IsSend (buffer.the_row R heap.the_row ghosts)
  buffer_send s = view_send _ _ _ _ _ (declared_send (inside.the_type R heap.the_row ghosts) (ring_send s, tt))

module _ (R : RattleType) where
  pub slots_send : IsSend R → IsSend (slots.the_row R)
  slots_send s = view_send _ _ _ _ _ (declared_send (slots_inside.the_type R)
      (search sendable depth 20, (Vec-send _ slot_shown.the_send, (Vec-send (option.the_row R) (option_send R s), (search (sendable, buffer_send) depth 20, (buffer_send _ (item_send R s), (settings_shown.the_send, tt)))))))
