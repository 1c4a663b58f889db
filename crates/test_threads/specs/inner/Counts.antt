-- What the counter under a lock answers: it adds numbers up to a total of 100000.
use Rattle.std.specs.Prelude.{◌≡◌, ℕ, ◌+◌, ◌<◌, ◌≤◌, List, sum_by}
use Rattle.sf_calls.specs.declared.object.Entry.{Entry}
use Rattle.sf_calls.specs.declared.object.Answer.{Answer}
use Rattle.sf_calls.specs.declared.object.Answer.TheVariants.{Replies, Waits}
use Rattle.sf_calls.specs.Histories.{IsLegal}

-- what the calls of a history add up to
abbrev pub total_of : List (Entry ℕ ℕ) → ℕ
total_of log = sum_by (λ (e : Entry ℕ ℕ). e.call) log

-- the reply is the new total, and a call that leads past 100000 waits
abbrev pub Counts : List (Entry ℕ ℕ) → ℕ → Answer ℕ → Type 0
Counts log call (Replies r) = r ≡ total_of log + call
Counts log call Waits = 100000 < total_of log + call

-- what the counter keeps of its total and its calls
pub record IsCounted (total : ℕ) (log : List (Entry ℕ ℕ)) : Type 0 where
  pub sum : total ≡ total_of log
  pub small : total ≤ 100000
  pub legal : IsLegal (λ earlier by call answer. Counts earlier call answer) log
