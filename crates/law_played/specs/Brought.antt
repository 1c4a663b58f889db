-- The buffers of commits, as arrivals brought them.
use Rattle.std.specs.Prelude.{◌≡◌, List, All, Contains}
use Rattle.sf_commit.specs.sf_txn.Buffers.{Buffer}
use Rattle.sf_commit.specs.sf_txn.Transactions.{shown_by}
use Rattle.sf_commit.specs.sf_token.Pending.{Arrival}
use Rattle.sf_actor.specs.Names.{FrameOf}
use Rattle.sf_record.specs.declared.record.CommitRecord.{CommitRecord}
use Rattle.sf_record.specs.declared.record.CommittedBuffer.{CommittedBuffer}
use Rattle.law_played.specs.Commits.{buffer_shown}

-- a record shows a buffer that an arrival has
pub record IsBrought (arrivals : List (Arrival FrameOf)) (shown : CommittedBuffer) : Type 0 where
  pub arrived : Arrival FrameOf
  pub there : Contains arrivals arrived
  pub buffer : Buffer FrameOf
  pub inside : Contains arrived.txn.buffers buffer
  pub is : shown ≡ buffer_shown (shown_by buffer)

-- each buffer of these commits is one
abbrev pub ShowBrought : List (Arrival FrameOf) → List CommitRecord → Type 0
ShowBrought arrivals commits = All (λ commit. All (IsBrought arrivals) commit.buffers) commits
