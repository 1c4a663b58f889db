-- What contracts see of an object that stamps its calls.
use Rattle.std.specs.Prelude.{◌≡◌, ℕ, List, [], ◌∷◌, length}
use Rattle.sf_calls.specs.declared.object.Entry.{Entry}
use Rattle.sf_calls_stamped.specs.declared.stamped.Pair.{Pair}
use Rattle.sf_calls_stamped.specs.Stamps.{AreStamped, newest_stamp}

-- the object, and the stamps of its calls, brought and given, the newest first
pub record StampedOf (O : Type 0) : Type 0 where
  pub object : O
  pub stamps : List (ℕ × ℕ)

abbrev pub pair_of : Pair → ℕ × ℕ
pair_of pair = (pair.brought.value, pair.given.value)

module _ {C R : Type 0} where
  -- calls with their stamps
  abbrev pub with_stamps : List (ℕ × ℕ) → List (Entry C R) → List (Entry (ℕ × C) (ℕ × R))
  with_stamps [] calls = []
  with_stamps (stamp ∷ stamps) [] = []
  with_stamps (stamp ∷ stamps) (e ∷ earlier) = record { by = e.by; call = (stamp.0, e.call); reply = (stamp.1, e.reply) } ∷ with_stamps stamps earlier

  -- the history, of an object whose own one is this
  abbrev pub history_of : {O : Type 0} → (O → List (Entry C R)) → StampedOf O → List (Entry (ℕ × C) (ℕ × R))
  history_of history s = with_stamps s.stamps (history s.object)

  -- the stamps are those of the calls, which have them in turn, and this is the newest
  pub record IsKept (newest : ℕ) (stamps : List (ℕ × ℕ)) (calls : List (Entry C R)) : Type 0 where
    pub newest_is : newest ≡ newest_stamp (with_stamps stamps calls)
    pub many : length stamps ≡ length calls
    pub kept : AreStamped (with_stamps stamps calls)
