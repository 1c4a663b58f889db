-- A vsync keeps what its eye knew.
use Rattle.std.proofs.Common.{◌≡◌, ℕ, ◌≤◌, List, ◌++◌, Result, Ok, Err, false, sym, subst, arith}
use Rattle.std.specs.Prelude.{Contains, IfOk, OnErr}
use Rattle.std.proofs.lemmas.List.Elements.{Contains-append_left}
use Rattle.atomic_table.specs.Seated.{TableId}
use Rattle.sf_base.specs.Points.{greatest}
use Rattle.sf_base.specs.declared.memory.NoMemory.{NoMemory}
use Rattle.sf_base.specs.declared.fences.Seen.{Seen}
use Rattle.sf_commit.specs.Handlers.{Decides, HandlerOf, Stops}
use Rattle.sf_commit.specs.Releases.{CommittedOf}
use Rattle.sf_actor.specs.sf_slots.declared.slot.Held.{Held}
use Rattle.sf_actor.specs.sf_surface.Hands.{blank_of, own_lease}
use Rattle.sf_actor.specs.sf_surface.Reading.{eye_mark}
use Rattle.sf_actor.specs.sf_surface.Tokens.{ReadLeaseOf}
use Rattle.sf_intake.specs.sf_token.Pending.{Arrival}
use Rattle.sf_turns.specs.Views.{SeatView}
use Rattle.sf_intake.specs.sf_txn.declared.lease.Lease.{Ghosts}
use Rattle.sf_live_seats.specs.Observers.{SeatGoesOn}

-- a lease of a buffer with a turn of this number
lease_at : TableId → ℕ → ℕ → ReadLeaseOf
lease_at table buffer number =
    let held : Held = record { number = 0; width = 0; height = 0 } in
    own_lease (record { 0 = 0 }) (record { 0 = 0 }) held (record { held = held; turn = record { table = table; buffer = buffer; number = number; expects = blank_of held; loads = 0; shown = false } })

-- An eye that knows what it knew has seen of each buffer no fewer turns: the lease of that buffer whose number is the greatest
-- that was seen is known still.
pub seat_goes_on : (old new : SeatView) (made : List (ℕ × ℕ)) → eye_mark new ≡ eye_mark old → new.leaves ≡ old.leaves ++ made
    → ((l : ReadLeaseOf) → l.turn.number ≤ greatest l.turn.buffer old.seen → l.turn.number ≤ greatest l.turn.buffer new.seen) → SeatGoesOn old new
unfolding lease_at
seat_goes_on old new made mark leaves keeps = record {
  mark = mark;
  left = λ p there. subst (λ (xs : List (ℕ × ℕ)). Contains xs p) (sym leaves) (Contains-append_left old.leaves made p there);
  counts = λ buffer. keeps (lease_at old.table buffer (greatest buffer old.seen)) (still buffer);
}
  where
    still : (buffer : ℕ) → greatest buffer old.seen ≤ greatest buffer old.seen
    still buffer = omega arith

-- the ends that a vsync makes, whether it found memory or not
pub vsync_ends : {R C : Type 0} (lease : Ghosts ReadLeaseOf SeatView R C) (old new : HandlerOf ReadLeaseOf) (eye after : SeatView) (arrived : List (Arrival ReadLeaseOf)) (seen : Seen) (expected : ℕ) (result : Result (CommittedOf ReadLeaseOf) NoMemory)
    → IfOk result (λ told. Decides lease old eye arrived seen expected told new after) → OnErr result (Stops lease old eye arrived seen expected new after) → (made : List (ℕ × ℕ)) × (lease.ends after ≡ lease.ends eye ++ made)
vsync_ends lease old new eye after arrived seen expected (Ok told) decides stops = (_, decides.settled.reads.ends)
vsync_ends lease old new eye after arrived seen expected (Err e) decides stops = (_, stops.reads.ends)
