-- Histories whose calls have stamps: a call with the stamp that its caller brought, and a reply with the call's own.
use Rattle.std.specs.Prelude.{◌≡◌, ℕ, ◌+◌, ◌<◌, max, List, [], ◌∷◌}
use Rattle.sf_calls.specs.declared.object.Entry.{Entry}
use Rattle.sf_calls.specs.declared.object.Answer.{Answer}
use Rattle.sf_calls.specs.declared.object.Answer.TheVariants.{Replies, Waits}
use Rattle.sf_calls.specs.Histories.{IsLegal, entry}

module _ {C R : Type 0} where
  abbrev pub brought_of : Entry (ℕ × C) (ℕ × R) → ℕ
  brought_of e = e.call.0

  abbrev pub stamp_of : Entry (ℕ × C) (ℕ × R) → ℕ
  stamp_of e = e.reply.0

  -- a call without its stamps
  abbrev pub unstamp : Entry (ℕ × C) (ℕ × R) → Entry C R
  unstamp e = entry e.by e.call.1 e.reply.1

  -- a history without its stamps
  abbrev pub unstamped : List (Entry (ℕ × C) (ℕ × R)) → List (Entry C R)
  unstamped [] = []
  unstamped (e ∷ earlier) = unstamp e ∷ unstamped earlier

  -- the stamp of the newest call, 0 where there is none
  abbrev pub newest_stamp : List (Entry (ℕ × C) (ℕ × R)) → ℕ
  newest_stamp [] = 0
  newest_stamp (e ∷ earlier) = stamp_of e

  -- one more than the greater of the stamp that is brought and that of the newest call
  abbrev pub next_stamp : ℕ → List (Entry (ℕ × C) (ℕ × R)) → ℕ
  next_stamp brought earlier = max brought (newest_stamp earlier) + 1

  -- each call has the stamp that comes next
  abbrev pub AreStamped : List (Entry (ℕ × C) (ℕ × R)) → Type 0
  AreStamped [] = Unit {0}
  AreStamped (e ∷ earlier) = (stamp_of e ≡ next_stamp (brought_of e) earlier) × AreStamped earlier

  -- each call's stamp is above the one that it brought and above that of the call before it
  abbrev pub StampsRise : List (Entry (ℕ × C) (ℕ × R)) → Type 0
  StampsRise [] = Unit {0}
  StampsRise (e ∷ earlier) = (brought_of e < stamp_of e) × (newest_stamp earlier < stamp_of e) × StampsRise earlier

  -- what an object answers, with stamps
  abbrev pub AnswersStamped : (List (Entry C R) → ℕ → C → Answer R → Type 0) → List (Entry (ℕ × C) (ℕ × R)) → ℕ → ℕ × C → Answer (ℕ × R) → Type 0
  AnswersStamped answers earlier by call (Replies reply) = (reply.0 ≡ next_stamp call.0 earlier) × answers (unstamped earlier) by call.1 (Replies reply.1)
  AnswersStamped answers earlier by call Waits = answers (unstamped earlier) by call.1 Waits

  -- a history is legal with its stamps
  abbrev pub IsLegalStamped : (List (Entry C R) → ℕ → C → Answer R → Type 0) → List (Entry (ℕ × C) (ℕ × R)) → Type 0
  IsLegalStamped answers calls = IsLegal (AnswersStamped answers) calls

  -- it is legal without its stamps, and each call has the stamp that comes next
  abbrev pub IsLegalInTurn : (List (Entry C R) → ℕ → C → Answer R → Type 0) → List (Entry (ℕ × C) (ℕ × R)) → Type 0
  IsLegalInTurn answers calls = IsLegal answers (unstamped calls) × AreStamped calls
