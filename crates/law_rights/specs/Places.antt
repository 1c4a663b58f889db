-- What can happen to the places of rights.
use Rattle.std.specs.Prelude.{◌≡◌, ℕ, ◌<◌, ◌⊎◌, [], ◌∷◌, Contains}
use Rattle.sf_actor_set.specs.sf_actor.Makers.{BufferOf, Run}
use Rattle.law_rights.specs.Makers.{Places, RightAt, WasMade, WriteAt, buffer_of}
use Rattle.law_rights.specs.Moves.{AreIn, Gets}
use Rattle.law_rights.specs.Stays.{IsBefore, IsFirst}

-- a right of the same buffer was there before, or an earlier one
abbrev pub WasAt : Places → RightAt → Type 0
WasAt places right = (was : RightAt) × Contains places.live was × (was.turn.0 ≡ right.turn.0) × (was.at ≡ right.at)

-- No frame is queued, and no buffer goes to a queue.
pub record RestsAt (old new : Places) : Type 0 where
  pub live : (right : RightAt) → Contains new.live right → WasAt old right
  pub owed : AreIn new.owed old.owed
  pub queued : Gets old.queued [] new.queued
  pub made : AreIn new.made old.made

-- A frame is queued, with the right that is there: the latest of its buffer, and the latest of its queue.
pub record QueuesAt (write : WriteAt) (old new : Places) : Type 0 where
  pub right : RightAt
  pub there : Contains old.live right
  pub same : right.turn ≡ write.write.turn
  pub at : right.at ≡ buffer_of write
  pub latest : (other : WriteAt) → Contains old.queued other → other.write.turn.0 ≡ write.write.turn.0 → other.write.turn.1 < write.write.turn.1
  pub frames : (other : WriteAt) → Contains old.queued other → other.write.frame.0.0 ≡ write.write.frame.0.0 → other.write.frame.1 < write.write.frame.1
  pub live : (right : RightAt) → Contains new.live right → WasAt old right
  pub owed : AreIn new.owed (write ∷ old.owed)
  pub queued : Gets old.queued (write ∷ []) new.queued
  pub made : AreIn new.made old.made

-- A buffer comes to a queue, as a buffer of it that was none before: its right is there, and the others are where they were.
pub record ComesTo (buffer : ℕ) (stay : BufferOf) (before after : Run) (old new : Places) : Type 0 where
  pub was_none : WasMade before stay → ⊥
  pub was_made : WasMade after stay
  pub live : (right : RightAt) → Contains new.live right → (WasAt old right × (right.turn.0 ≡ buffer → ⊥)) ⊎ ((right.turn.0 ≡ buffer) × (right.at ≡ stay))
  pub owed : AreIn new.owed old.owed
  pub queued : Gets old.queued [] new.queued

-- It was loose and is attached; or it is made.
pub record AttachesTo (buffer : ℕ) (stay : BufferOf) (before after : Run) (old new : Places) : Type 0 where
  pub comes : ComesTo buffer stay before after old new
  pub right : RightAt
  pub there : Contains old.live right
  pub same : right.turn.0 ≡ buffer
  pub known : Contains old.made buffer
  pub from : IsBefore after stay right.at
  pub made : AreIn new.made old.made

pub record MakesAt (buffer : ℕ) (stay : BufferOf) (before after : Run) (old new : Places) : Type 0 where
  pub comes : ComesTo buffer stay before after old new
  pub first : IsFirst after stay
  pub unqueued : (write : WriteAt) → Contains old.queued write → write.write.turn.0 ≡ buffer → ⊥
  pub unmade : Contains old.made buffer → ⊥
  pub made : AreIn new.made (buffer ∷ old.made)
