-- What contracts see of a taker and of a sender, and what their calls do.
use Rattle.std.specs.Prelude.{◌≡◌, ℕ, ◌+◌, ◌*◌, ◌<◌, ◌≤◌, ◌⊎◌, ◌++◌, max, true, false, List, [], ◌∷◌, length, map, Contains}
use Rattle.std.specs.List.{All}
use Rattle.atomic_blocks.specs.Laid.{WebId}
use Rattle.sf_base.specs.declared.ids.ActorId.{ActorId}
use Rattle.sf_token.specs.sf_txn.Transactions.{Contents}
use Rattle.sf_token.specs.Pending.{Arrival}
use Rattle.sf_token.specs.Arrivals.{AreHeld}
use Rattle.sf_intake.specs.Posts.{Post, Begins, IsNumberedFrom, arrivals, before, posts_by}
use Rattle.sf_intake.specs.declared.protocol.Knows.{Knows}

-- The intake that the taker is of, the numbers of the senders that it made, what it heard that senders sent first, what it took
-- so far, as it was sent, what of it it gave and what it did not give yet, and how many of its pops found the queue empty.
pub record TakerView (L : Type 0) : Type 0 where
  pub intake : WebId
  pub made : List ℕ
  pub heard : List (ℕ × List (Post L))
  pub taken : List (Post L)
  pub given : List (Arrival L)
  pub waiting : List (Arrival L)
  pub empties : ℕ

-- The intake that the sender is of, its number, the stamp that its next transaction carries, and what it sent.
pub record SenderView (L : Type 0) : Type 0 where
  pub intake : WebId
  pub by : ActorId
  pub stamp : ℕ
  pub sent : List (Post L)

-- a count of 64 bits rose, or it is at its end
pub record HasGrown (old new : ℕ) : Type 0 where
  pub no_less : old ≤ new
  pub more : (old < new) ⊎ (new ≡ 18446744073709551615)

module _ {L : Type 0} where
  -- the view of a taker: what it took is numbered from 1 on, and all of it but what still waits was given
  abbrev pub taker_view : WebId → Knows (Post L) → List (Arrival L) → ℕ → TakerView L
  taker_view intake v waiting empties = record {
    intake = intake;
    made = v.made;
    heard = v.heard;
    taken = v.taken;
    given = before (arrivals 1 v.taken) waiting;
    waiting = waiting;
    empties = empties;
  }

  -- what a taker keeps: what waits is the end of what its pass took
  pub record IsTaker (holds : L → Type 0) (v : Knows (Post L)) (waiting : List (Arrival L)) (last : ℕ) : Type 0 where
    pub role : v.is_taker ≡ true
    pub count : last ≡ length v.taken
    pub waits : before (arrivals 1 v.taken) waiting ++ waiting ≡ arrivals 1 v.taken
    pub held : AreHeld holds waiting
    pub theirs : All (λ (post : Post L). Contains v.made post.actor.0) v.taken
    pub makers : length v.made ≤ 64
    pub bound : length v.taken ≤ 16777216 * length v.made

  -- what a sender keeps: its pass is a sender's, of its number
  pub record IsSender (v : Knows (Post L)) (by : ActorId) : Type 0 where
    pub role : v.sends ≡ true
    pub other : v.is_taker ≡ false
    pub number : v.by ≡ by.0

  -- a taker as it is opened
  abbrev pub first_taker : WebId → TakerView L
  first_taker intake = record { intake = intake; made = []; heard = []; taken = []; given = []; waiting = []; empties = 0 }

  -- a taker after it made a sender, and the sender
  abbrev pub making : ActorId → TakerView L → TakerView L
  making by t = record t { made = t.made ++ by.0 ∷ [] }

  abbrev pub new_sender : WebId → ActorId → SenderView L
  new_sender intake by = record { intake = intake; by = by; stamp = 0; sent = [] }

  -- a sender whose stamp is this one at least
  abbrev pub stamped_from : ℕ → SenderView L → SenderView L
  stamped_from stamp s = record s { stamp = max s.stamp stamp }

  -- a sender after it sent
  abbrev pub sending : SenderView L → ℕ → Contents L → SenderView L
  sending s step txn = record s { sent = s.sent ++ record { actor = s.by; step = step; stamp = s.stamp; txn = txn } ∷ [] }

  -- a taker after it heard what a sender sent
  abbrev pub hearing_of : SenderView L → TakerView L → TakerView L
  hearing_of s t = record t { heard = (s.by.0, s.sent) ∷ t.heard }

  -- all that the taker heard of was taken
  abbrev pub HasAllHeard : TakerView L → Type 0
  HasAllHeard t = (p : ℕ × List (Post L)) → Contains t.heard p → Begins p.1 (posts_by p.0 t.taken)

  -- a pop found the queue empty: it is counted, and all that the taker heard of was taken
  pub record FoundEmpty (old new : TakerView L) : Type 0 where
    pub counted : HasGrown old.empties new.empties
    pub heard : HasAllHeard new

  -- what no pop changes of a taker
  pub record IsSameTaker (old new : TakerView L) : Type 0 where
    pub intake : new.intake ≡ old.intake
    pub made : new.made ≡ old.made
    pub given : new.given ≡ old.given

  -- a taker after pops: what was taken and what waited stand first, and no count fell
  pub record HasPopped (old new : TakerView L) : Type 0 where
    pub same : IsSameTaker old new
    pub heard : new.heard ≡ old.heard
    pub taken : Begins old.taken new.taken
    pub first : Begins old.waiting new.waiting
    pub empties : old.empties ≤ new.empties

  -- what is said of each transaction that a taker gives, where it gave so many before
  pub record AreGiven (holds : L → Type 0) (made : List ℕ) (earlier : ℕ) (list : List (Arrival L)) : Type 0 where
    pub numbers : IsNumberedFrom (earlier + 1) list
    pub theirs : All (λ (arrived : Arrival L). Contains made arrived.actor.0) list
    pub held : AreHeld holds list

  -- a taker that gave a list: what waited stands first in it, and it is short only where the queue was found empty; what was
  -- given and what waits are what was taken, numbered from 1 on
  pub record HasTaken (holds : L → Type 0) (old new : TakerView L) (list : List (Arrival L)) : Type 0 where
    pub intake : new.intake ≡ old.intake
    pub made : new.made ≡ old.made
    pub heard : new.heard ≡ old.heard
    pub taken : Begins old.taken new.taken
    pub given : new.given ≡ old.given ++ list
    pub whole : new.given ++ new.waiting ≡ arrivals 1 new.taken
    pub first : Begins old.waiting (list ++ new.waiting)
    pub few : length list ≤ 4096
    pub each : AreGiven holds old.made (length old.given) list
    pub dry : length list < 4096 → FoundEmpty old new

  -- what was taken has of a sender exactly what it sent, as it sent it, each once
  abbrev pub IsAllOf : SenderView L → List (Post L) → Type 0
  IsAllOf s taken = posts_by s.by.0 taken ≡ s.sent

  -- what was taken has of a sender what it sent first
  abbrev pub IsBeginningOf : SenderView L → List (Post L) → Type 0
  IsBeginningOf s taken = Begins (posts_by s.by.0 taken) s.sent

  -- these are senders of the intake, and all that the taker made
  pub record AreSenders (t : TakerView L) (senders : List (SenderView L)) : Type 0 where
    pub own : All (λ (s : SenderView L). s.intake ≡ t.intake) senders
    pub all : (b : ℕ) → Contains t.made b → Contains (map (λ (s : SenderView L). s.by.0) senders) b

  -- the taken list is whole: what was given before and this list are all that was taken, numbered from 1 on, and that has of each
  -- sender exactly what it sent
  pub record HasFinished (holds : L → Type 0) (t : TakerView L) (senders : List (SenderView L)) (list : List (Arrival L)) : Type 0 where
    pub taken : List (Post L)
    pub begins : Begins t.taken taken
    pub whole : t.given ++ list ≡ arrivals 1 taken
    pub exact : All (λ (s : SenderView L). IsAllOf s taken) senders
    pub first : Begins t.waiting list
    pub theirs : All (λ (arrived : Arrival L). Contains (map (λ (s : SenderView L). s.by.0) senders) arrived.actor.0) (t.given ++ list)
    pub each : AreGiven holds t.made (length t.given) list

  -- a taker that gave the rest, as `finish` does, and stays: that list counts as given, and nothing waits
  pub record HasTakenRest (holds : L → Type 0) (old new : TakerView L) (senders : List (SenderView L)) (list : List (Arrival L)) : Type 0 where
    pub finished : HasFinished holds old senders list
    pub intake : new.intake ≡ old.intake
    pub made : new.made ≡ old.made
    pub taken : new.taken ≡ finished.taken
    pub given : new.given ≡ old.given ++ list
    pub none : new.waiting ≡ []

  -- a taker that heard more, and is as it was else
  pub record HasHeard (old new : TakerView L) : Type 0 where
    pub same : IsSameTaker old new
    pub taken : new.taken ≡ old.taken
    pub waiting : new.waiting ≡ old.waiting

  -- a taker that gave a list of what waited
  pub record HasHanded (holds : L → Type 0) (old new : TakerView L) (list : List (Arrival L)) : Type 0 where
    pub intake : new.intake ≡ old.intake
    pub made : new.made ≡ old.made
    pub heard : new.heard ≡ old.heard
    pub taken : new.taken ≡ old.taken
    pub empties : new.empties ≡ old.empties
    pub given : new.given ≡ old.given ++ list
    pub whole : new.given ++ new.waiting ≡ arrivals 1 new.taken
    pub waited : old.waiting ≡ list ++ new.waiting
    pub each : AreGiven holds old.made (length old.given) list
