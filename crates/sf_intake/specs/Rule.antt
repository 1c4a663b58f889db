-- What holds between any two atomic steps at an intake, and what each kind of step shows the pass
-- that makes it. The queue holds what was sent and not taken yet, the oldest first.
use Rattle.std.specs.Prelude.{◌≡◌, ℕ, ◌*◌, ◌≤◌, true, false, List, [], ◌∷◌, ◌++◌, length, Contains}
use Rattle.std.specs.List.{All}
use mathlib.Core.Option.{some}
use lib.ListN.{get_elem?}
use Rattle.sf_token.specs.Arrivals.{HoldsAll}
use Rattle.sf_intake.specs.Posts.{Post, Begins, posts_by}
use Rattle.sf_intake.specs.declared.protocol.Knows.{Knows}

module _ {L : Type 0} where
  -- What holds of the pass j, where `all` was sent in this order, `taken` is the beginning of it that was
  -- taken, `made` has the numbers of all senders, and `seat` says the pass of each.
  pub record Fits (made : List ℕ) (seat : ℕ → ℕ) (taken all : List (Post L)) (j : ℕ) (v : Knows (Post L)) : Type 0 where
    -- the taker knows what was taken, and of which numbers senders were made
    pub taker : v.is_taker ≡ true → (j ≡ 0) × (v.taken ≡ taken) × (v.made ≡ made)
    -- a sender has a number of its own, and knows what was sent under it
    pub sender : v.sends ≡ true → Contains made v.by × (seat v.by ≡ j) × (v.sent ≡ posts_by v.by all)
    -- what a pass learned that was taken, was; what it heard that a sender sent, was sent first by it
    pub told : Begins v.taken taken
    pub heard : (p : ℕ × List (Post L)) → Contains v.heard p → Begins p.1 (posts_by p.0 all)

  -- The rule: what was sent is what was taken and then what the queue holds; each of it is of a sender
  -- that was made, and no sender sent more than it may; what the queue holds fits the intake.
  pub record Kept (holds : L → Type 0) (items : List (Post L)) (views : List (Knows (Post L))) : Type 0 where
    pub taken : List (Post L)
    pub all : List (Post L)
    pub made : List ℕ
    pub seat : ℕ → ℕ
    pub whole : all ≡ taken ++ items
    pub theirs : All (λ (post : Post L). Contains made post.actor.0) all
    pub few : (b : ℕ) → length (posts_by b all) ≤ 16777216
    pub held : All (λ (post : Post L). HoldsAll holds post.txn.buffers) items
    pub each : (j : ℕ) (v : Knows (Post L)) → get_elem? views j ≡ some v → Fits made seat taken all j v

  -- the taker's pass, as it is opened
  abbrev pub opened : Knows (Post L)
  opened = record { is_taker = true; sends = false; by = 0; sent = []; made = []; taken = []; heard = [] }

  -- a pass that knows nothing, as what is left of one that was joined into another
  abbrev pub spent : Knows (Post L)
  spent = record { is_taker = false; sends = false; by = 0; sent = []; made = []; taken = []; heard = [] }

  -- the taker's pass, after the sender n was made, and the pass of that sender
  abbrev pub giving : ℕ → Knows (Post L) → Knows (Post L)
  giving n v = record v { made = v.made ++ n ∷ [] }

  abbrev pub given : ℕ → Knows (Post L)
  given n = record { is_taker = false; sends = true; by = n; sent = []; made = []; taken = []; heard = [] }

  -- a sender's pass after it sent, and the taker's after it took
  abbrev pub posted : Post L → Knows (Post L) → Knows (Post L)
  posted post v = record v { sent = v.sent ++ post ∷ [] }

  abbrev pub drawn : Post L → Knows (Post L) → Knows (Post L)
  drawn post v = record v { taken = v.taken ++ post ∷ [] }

  -- what a sender says of what it sent, and the taker's pass that heard it
  abbrev pub note : Knows (Post L) → Knows (Post L)
  note v = record { is_taker = false; sends = false; by = 0; sent = []; made = []; taken = []; heard = (v.by, v.sent) ∷ [] }

  abbrev pub hearing : Knows (Post L) → Knows (Post L) → Knows (Post L)
  hearing v w = record v { heard = w.heard ++ v.heard }

  -- what the taker says of what it took, and the sender's pass that learned it
  abbrev pub tale : Knows (Post L) → Knows (Post L)
  tale v = record { is_taker = false; sends = false; by = 0; sent = []; made = []; taken = v.taken; heard = [] }

  abbrev pub told : Knows (Post L) → Knows (Post L) → Knows (Post L)
  told v w = record v { taken = w.taken }

  -- a push: the sender remembers it
  abbrev pub Sends : Knows (Post L) → Post L → Knows (Post L) → Type 0
  Sends v post w = w ≡ posted post v

  -- a pop: the taker remembers it; it is of a sender that was made, and fits
  abbrev pub Takes : (L → Type 0) → Knows (Post L) → Post L → Knows (Post L) → Type 0
  Takes holds v post w =
      (w ≡ drawn post v) × Contains v.made post.actor.0 × HoldsAll holds post.txn.buffers × (length w.taken ≤ 16777216 * length v.made)

  -- a pop that found the queue empty: all that the taker heard of was taken
  abbrev pub IsDry : Knows (Post L) → Type 0
  IsDry v = (p : ℕ × List (Post L)) → Contains v.heard p → Begins p.1 (posts_by p.0 v.taken)

  abbrev pub FindsNone : Knows (Post L) → List (Post L) → Type 0
  FindsNone v items = items ≡ [] → IsDry v

  -- a look by a sender: of what it learned that was taken, its own is what it sent first
  abbrev pub IsAhead : Knows (Post L) → Type 0
  IsAhead v = Begins (posts_by v.by v.taken) v.sent

  abbrev pub Compares : Knows (Post L) → List (Post L) → Type 0
  Compares v items = IsAhead v
