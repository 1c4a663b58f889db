-- What holds after every list of calls.
use Rattle.std.proofs.Common.{ℕ, List, [], ◌∷◌, ap}
use Rattle.sf_base.specs.declared.ids.QueueId.{QueueId}
use Rattle.sf_slots.specs.declared.calls.Entry.{Entry}
use Rattle.sf_slots.specs.Queue.{Queue, told_of, empty_queue}
use Rattle.sf_slots.specs.Tells.{IsToldBy, IsNext, CameBy, AreReplies}

pub told_through : {R : Type 0} (number : QueueId) (width height : ℕ) (history : List Entry) (after : Queue R) → CameBy (empty_queue number width height) history after → (IsToldBy after width height history) × (AreReplies width height history)
told_through {R} number width height [] after came = (ap told_of came, tt)
told_through {R} number width height (entry ∷ earlier) after came =
    let before = told_through number width height earlier came.0 came.1 in
    let next : IsNext after width height earlier entry = came.2 width height entry.step earlier before.0 in
    (next.told, (next.reply, before.1))
