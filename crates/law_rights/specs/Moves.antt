-- What can happen to a ledger.
use Rattle.std.specs.Prelude.{◌≡◌, ℕ, ◌+◌, ◌≤◌, List, [], ◌∷◌, ◌++◌, Contains}
use Rattle.std.specs.List.{sum_by}
use Rattle.sf_actor_set.specs.sf_actor.Rights.{Turn}
use Rattle.sf_actor_set.specs.sf_actor.Written.{FrameNumber}
use Rattle.law_rights.specs.Ledgers.{Ledger, Write}

pub data Move : Type 0 where
  -- rights go to other places or are dropped
  Goes : Move
  -- a buffer is made, and its first right lies somewhere
  Makes : ℕ → Move
  -- a turn that was used ends, and the next right lies somewhere
  Ends : Turn → Move
  -- a frame is queued in whose turn a picture was drawn: the turn ends
  QueuesDrawn : Write → Move
  -- a frame is queued before it is drawn: its drawing is owed
  QueuesOwed : Write → Move
  -- what was owed is drawn
  Pays : Write → Move

-- the turn after this one
abbrev pub turn_after : Turn → Turn
turn_after turn = (turn.0, turn.1 + 1)

-- the rights that a move uses up, and those that it makes
abbrev pub used_by : Move → List Turn
used_by Goes = []
used_by (Makes buffer) = []
used_by (Ends turn) = turn ∷ []
used_by (QueuesDrawn write) = write.turn ∷ []
used_by (QueuesOwed write) = write.turn ∷ []
used_by (Pays write) = []

abbrev pub given_by : Move → List Turn
given_by Goes = []
given_by (Makes buffer) = (buffer, 0) ∷ []
given_by (Ends turn) = turn_after turn ∷ []
given_by (QueuesDrawn write) = turn_after write.turn ∷ []
given_by (QueuesOwed write) = turn_after write.turn ∷ []
given_by (Pays write) = []

-- the turns that leave
abbrev pub ended_by : Move → List Turn
ended_by Goes = []
ended_by (Makes buffer) = []
ended_by (Ends turn) = turn ∷ []
ended_by (QueuesDrawn write) = write.turn ∷ []
ended_by (QueuesOwed write) = []
ended_by (Pays write) = write.turn ∷ []

-- the writes of frames that are queued, those that are owed from then on, and those that are no longer
abbrev pub queued_by : Move → List Write
queued_by (QueuesDrawn write) = write ∷ []
queued_by (QueuesOwed write) = write ∷ []
queued_by move = []

abbrev pub owed_by : Move → List Write
owed_by (QueuesOwed write) = write ∷ []
owed_by move = []

abbrev pub paid_by : Move → List Write
paid_by (Pays write) = write ∷ []
paid_by move = []

abbrev pub written_by : Move → List FrameNumber
written_by (QueuesDrawn write) = write.frame ∷ []
written_by (Pays write) = write.frame ∷ []
written_by move = []

abbrev pub made_by : Move → List ℕ
made_by (Makes buffer) = buffer ∷ []
made_by move = []

-- Whatever is counted of items, the new list has no more of it than the old one, without what was used up and with what was given.
abbrev pub HasAtMost : {A : Type 0} → List A → List A → List A → List A → Type 0
HasAtMost {A} old used given new = (count : A → ℕ) → sum_by count new + sum_by count used ≤ sum_by count old + sum_by count given

-- all items of a list are in another
abbrev pub AreIn : {A : Type 0} → List A → List A → Type 0
AreIn {A} items others = (item : A) → Contains items item → Contains others item

-- a list has the same items as another, and more
pub record Gets {A : Type 0} (old more new : List A) : Type 0 where
  pub no_others : AreIn new (more ++ old)
  pub all : AreIn (more ++ old) new

-- a move may be made
abbrev pub MayMove : Move → Ledger → Type 0
MayMove Goes l = Unit {0}
MayMove (Makes buffer) l = Contains l.made buffer → ⊥
MayMove (Ends turn) l = Contains l.live turn
MayMove (QueuesDrawn write) l = Contains l.live write.turn × ((other : Write) → Contains l.queued other → other.frame ≡ write.frame → ⊥)
MayMove (QueuesOwed write) l = Contains l.live write.turn × ((other : Write) → Contains l.queued other → other.frame ≡ write.frame → ⊥)
MayMove (Pays write) l = Contains l.owed write

-- what a move leaves
pub record Moves (move : Move) (old new : Ledger) : Type 0 where
  pub live : HasAtMost old.live (used_by move) (given_by move) new.live
  pub owed : AreIn new.owed (owed_by move ++ old.owed)
  pub unpaid : AreIn old.owed (paid_by move ++ new.owed)
  pub owes : AreIn (owed_by move) new.owed
  pub queued : Gets old.queued (queued_by move) new.queued
  pub left : Gets old.left (ended_by move) new.left
  pub written : Gets old.written (written_by move) new.written
  pub made : Gets old.made (made_by move) new.made
