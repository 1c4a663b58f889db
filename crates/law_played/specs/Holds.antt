-- What is held at the end of a run: the arrivals without a commit, each for the true reason.
use Rattle.std.specs.Prelude.{◌≡◌, ℕ, ◌==◌, Bool, false, not, if◌then◌else◌, List, filter, map, Option, Some}
use Rattle.std.specs.List.{list_any}
use Rattle.std.specs.Option.{option_map, option_map_or, option_or}
use Rattle.sf_base.specs.declared.fences.Seen.{Seen}
use Rattle.sf_commit.specs.sf_txn.Buffers.{Buffer}
use Rattle.sf_commit.specs.sf_txn.Transactions.{Contents}
use Rattle.sf_commit.specs.sf_ready.Holds.{barrier_hold, fence_hold, undrawn_hold}
use Rattle.sf_commit.specs.sf_ready.declared.hold.Hold.{Hold}
use Rattle.sf_commit.specs.sf_ready.declared.hold.Hold.TheVariants as hold
use Rattle.sf_commit.specs.sf_token.Pending.{Arrival, head_of}
use Rattle.sf_actor.specs.Names.{FrameOf}
use Rattle.sf_actor.specs.Written.{FrameNumber}
use Rattle.sf_record.specs.declared.record.CommitRecord.{CommitRecord}
use Rattle.sf_record.specs.declared.record.HeldEntry.{HeldEntry}
use Rattle.law_played.specs.Commits.{is_written}

-- the arrivals without a commit
abbrev pub is_uncommitted : List CommitRecord → Arrival FrameOf → Bool
is_uncommitted commits arrived = not (list_any (λ commit. commit.arrival == arrived.number) commits)

-- those without a commit among arrivals
abbrev pub uncommitted : List (Arrival FrameOf) → List CommitRecord → List (Arrival FrameOf)
uncommitted arrivals commits = filter (is_uncommitted commits) arrivals

-- what is known at the end of a run: the frames that were written, those that were ever committed, and the final values
pub record EndOf : Type 0 where
  pub written : List FrameNumber
  pub frames : List (ℕ × ℕ)
  pub values : Seen

-- the first of fence, write and barrier that holds a transaction; neither its time nor pressure does at the end
abbrev pub hold_at_end : EndOf → Contents FrameOf → Option Hold
hold_at_end end txn =
    option_or (fence_hold txn.buffers end.values)
    (option_or (undrawn_hold txn.buffers (map (λ (buffer : Buffer FrameOf). is_written end.written buffer.lease) txn.buffers))
    (barrier_hold txn.barriers end.frames))

-- the first that is left of its token
abbrev pub is_head : List (Arrival FrameOf) → Arrival FrameOf → Bool
is_head left arrived = option_map_or (λ (first : Arrival FrameOf). first.number == arrived.number) (head_of arrived.txn.token left) false

-- why an arrival without a commit waits: the first of its token by what holds it, any other as being behind
abbrev pub why_held : EndOf → List (Arrival FrameOf) → Arrival FrameOf → Option Hold
why_held end left arrived = if is_head left arrived then hold_at_end end arrived.txn else Some hold.Behind

-- what the record shows of a hold
abbrev pub hold_shown : ℕ → Hold → HeldEntry
hold_shown number hold.Behind = record { arrival = number; hold = 1; a = 0; b = 0 }
hold_shown number (hold.Time desired) = record { arrival = number; hold = 2; a = desired; b = 0 }
hold_shown number (hold.Fence timeline value) = record { arrival = number; hold = 3; a = timeline.0; b = value }
hold_shown number (hold.Undrawn queue frame) = record { arrival = number; hold = 4; a = queue.0; b = frame }
hold_shown number (hold.Barrier layer frame) = record { arrival = number; hold = 5; a = layer.0; b = frame }
hold_shown number (hold.Pressure layer) = record { arrival = number; hold = 6; a = layer.0; b = 0 }

-- an entry, or nothing where nothing holds the transaction
abbrev pub entry_due : EndOf → List (Arrival FrameOf) → Arrival FrameOf → Option HeldEntry
entry_due end left arrived = option_map (hold_shown arrived.number) (why_held end left arrived)

-- Held transactions. They are the arrivals without a commit, by number: the first of each token with what truly holds it,
-- any other as being behind. Each of them has such an entry, so that one that nothing holds is refused.
abbrev pub AreHeld : EndOf → List (Arrival FrameOf) → List HeldEntry → Type 0
AreHeld end left held = map Some held ≡ map (entry_due end left) left
