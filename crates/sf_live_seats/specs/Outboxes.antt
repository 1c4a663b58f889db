-- A caller's sender at an intake.
use Rattle.std.specs.Prelude.{◌≡◌, ℕ, ◌+◌, ◌≤◌, [], ◌∷◌, ◌++◌, length}
use Rattle.sf_actor.specs.sf_surface.Tokens.{ReadLeaseOf}
use Rattle.sf_intake.specs.sf_txn.Transactions.{Contents}
use Rattle.sf_live_seats.specs.declared.clock.Clock.{Clock}
use Rattle.sf_live_seats.specs.declared.outbox.Outbox.{Outbox}

module _ {B : Type 0} where
  -- it counts what it sent, and carries no stamp beyond the next one of its caller
  pub record IsReady (last : Clock) (outbox : Outbox B) : Type 0 where
    pub count : outbox.count ≡ length outbox.sender.sent
    pub stamp : outbox.sender.stamp ≤ last.stamp + 1

  -- it stays the same caller's sender at the same intake
  pub record SendsStill (old new : Outbox B) : Type 0 where
    pub intake : new.sender.intake ≡ old.sender.intake
    pub by : new.sender.by ≡ old.sender.by

  -- it sent one more, with the next stamp of its caller
  pub record Posts (old new : Outbox B) (before after : Clock) (step : ℕ) (txn : Contents ReadLeaseOf) : Type 0 where
    pub in_order : before.step ≤ step
    pub last : after ≡ record { step = step; stamp = before.stamp + 1 }
    pub sent : new.sender.sent ≡ old.sender.sent ++ record { actor = old.sender.by; step = step; stamp = before.stamp + 1; txn = txn } ∷ []
