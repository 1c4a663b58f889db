-- What a compositor takes and decides.
use Rattle.std.specs.Prelude.{ℕ, List}
use Rattle.sf_base.specs.declared.fences.Seen.{Seen}
use Rattle.sf_play_report.specs.sf_commit.Handlers.{Decides, HandlerOf, last_of}
use Rattle.sf_play_report.specs.sf_commit.Releases.{CommittedOf}
use Rattle.sf_play_report.specs.sf_surface.Tokens.{ReadLeaseOf}
use Rattle.sf_play_report.specs.sf_token.Pending.{Arrival, IsRisingFrom}
use Rattle.sf_play_report.specs.sf_turns.Views.{SeatView}
use Rattle.sf_play_report.specs.sf_txn.declared.lease.Lease.{Ghosts}

-- what is taken next rises above all that a handler took before
abbrev pub NextRises : {S : Type 0} → (S → List (Arrival ReadLeaseOf) → S → Type 0) → S → HandlerOf ReadLeaseOf → Type 0
NextRises {S} taking old handler =
    (took : S) (arrived : List (Arrival ReadLeaseOf)) → taking old arrived took → IsRisingFrom handler.last arrived (last_of handler.last arrived)

module _ {S : Type 0} {R C : Type 0} (taking : S → List (Arrival ReadLeaseOf) → S → Type 0) (eye : S → SeatView) (deciding : S → S → Type 0)
    (lease : Ghosts ReadLeaseOf SeatView R C) (expected : ℕ) where
  -- what arrived was taken, and a handler decided by it, through the seat at the turns
  pub record DecidesBy (old : S) (before : HandlerOf ReadLeaseOf) (seen : Seen) (told : CommittedOf ReadLeaseOf) (after : HandlerOf ReadLeaseOf) (new : S) : Type 0 where
    pub took : S
    pub arrived : List (Arrival ReadLeaseOf)
    pub takes : taking old arrived took
    pub decides : Decides lease before (eye took) arrived seen expected told after (eye new)
    pub same : deciding took new
