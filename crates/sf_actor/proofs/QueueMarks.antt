-- The queue of a number that a desk has is marked with the number.
use Rattle.std.proofs.Common.{◌≡◌, ℕ, ◌==◌, true, List, [], ◌∷◌, inl, inr, ap}
use Rattle.std.specs.List.{list_any}
use Rattle.std.proofs.lemmas.Bool.{cases_Bool, eqb-true, false≢true}
use Rattle.sf_surface.specs.declared.mark.QueueMark.{QueueMark}
use Rattle.sf_actor.specs.Desks.{DeskHome, has_queue, mark_among}
use Rattle.sf_actor.specs.Scripts.{queue_of}

among : (marks : List QueueMark) (q : ℕ) → list_any (λ (mark : QueueMark). mark.queue.0 == q) marks ≡ true → (mark_among marks q).queue ≡ queue_of q
among [] q there = absurd (false≢true there)
among (mark ∷ marks) q there = elim (cases_Bool (mark.queue.0 == q)) [
  | inl met ↦ rw met (ap queue_of (eqb-true mark.queue.0 q met))
  | inr unmet ↦ rw unmet (among marks q (rw unmet at there))
]

pub marked : (home : DeskHome) (q : ℕ) → has_queue home q ≡ true → (mark_among home.marks q).queue ≡ queue_of q
marked home q there = among home.marks q there
