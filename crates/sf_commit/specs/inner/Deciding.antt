-- How a round of decisions lies in memory.
use Rattle.std.specs.Prelude.{◌≡◌, ℕ, Bool, List, map}
use Rattle.std.specs.List.{All}
use Rattle.sf_base.specs.declared.fences.Seen.{Seen}
use Rattle.sf_commit_next.specs.sf_ready.Facts.{FactsOf, HasSame, TellsSame}
use Rattle.sf_commit_next.specs.sf_token.Pending.{Arrival, QueuesOf}
use Rattle.sf_commit_next.specs.sf_token.declared.looks.Looks.{Looks}
use Rattle.sf_view.specs.sf_tree.Changes.{after}
use Rattle.sf_commit_next.specs.sf_txn.Transactions.{shown_by, shows}
use Rattle.sf_commit.specs.Inside.{Notes}
use Rattle.sf_commit_next.specs.Next.{IsLookedAt}
use Rattle.sf_commit.specs.Rounds.{Decided, Leads, Round, StageOf, facts_of, shown_if, stage_after}

-- the same transactions are held by both
pub record DecidesSame (facts others : FactsOf) : Type 0 where
  pub frames : TellsSame facts.frames others.frames
  pub fresh : HasSame facts.fresh others.fresh
  pub pressed : HasSame facts.pressed others.pressed

module _ {L : Type 0} where
  -- what was made, what is pending and what decides are those of the round
  pub record IsState (stage : StageOf L) (pending : List (Arrival L)) (facts : FactsOf) (r : Round L) : Type 0 where
    pub made : stage ≡ r.stage
    pub waits : pending ≡ r.pending
    pub same : DecidesSame facts (facts_of r)

  abbrev pub round_of : StageOf L → List (Arrival L) → FactsOf → Round L
  round_of stage pending facts = record { stage = stage; pending = pending; frames = facts.frames; fresh = facts.fresh }

  -- the operations of a transaction that show buffers are its buffers
  abbrev pub ShowsIts : Arrival L → Type 0
  ShowsIts arrived = shows arrived.txn.ops ≡ map shown_by arrived.txn.buffers

  -- a transaction was committed, and noted
  pub record CommitsOne (old new : StageOf L) (facts later : FactsOf) (a : Arrival L) : Type 0 where
    pub stage : new ≡ stage_after old a
    pub noted : Notes facts later (shown_if (after old.tree a.txn.ops) a.txn.buffers) new.tree.layers
    pub shows : ShowsIts a

  -- all that could be committed was
  pub record Comes (drawn : L → Bool) (seen : Seen) (expected : ℕ) (begun : Round L) (stage : StageOf L) (pending : List (Arrival L)) (facts : FactsOf) : Type 0 where
    pub end : Round L
    pub decided : Decided drawn seen expected begun end
    pub shows : All ShowsIts decided.taken
    pub state : IsState stage pending facts end

  -- the same from a stage, queues and facts on to those that are now
  abbrev pub ComesFrom : (L → Bool) → Seen → ℕ → StageOf L → QueuesOf L → FactsOf → StageOf L → QueuesOf L → FactsOf → Type 0
  ComesFrom drawn seen expected stage queues facts stage' queues' facts' =
      Comes drawn seen expected (round_of stage queues.pending facts) stage' queues'.pending facts'

  -- how far it has come: what was committed led to a round, and what waits was looked at
  pub record Goes (drawn : L → Bool) (seen : Seen) (expected : ℕ) (begun : Round L) (looks : List Looks)
      (stage : StageOf L) (pending : List (Arrival L)) (facts : FactsOf) : Type 0 where
    pub reached : Round L
    pub taken : List (Arrival L)
    pub leads : Leads drawn seen expected begun taken reached
    pub shows : All ShowsIts taken
    pub state : IsState stage pending facts reached
    pub looked : All (IsLookedAt drawn looks) pending
