-- Histories of calls. A history has the newest call first, so that each question looks back from now.
use Rattle.std.specs.Prelude.{◌≡◌, ℕ, List, [], ◌∷◌, ◌++◌, ◌==◌, if◌then◌else◌, nat_le, length}
use Rattle.sf_calls.specs.declared.object.Entry.{Entry}
use Rattle.sf_calls.specs.declared.object.Answer.{Answer}
use Rattle.sf_calls.specs.declared.object.Answer.TheVariants.{Replies, Waits}

-- a call of a caller with its reply
abbrev pub entry : {C R : Type 0} → ℕ → C → R → Entry C R
entry by call reply = record { by = by; call = call; reply = reply }

-- the answer that the call is done, with the reply
abbrev pub replies : {R : Type 0} → R → Answer R
replies r = Replies r

-- the answer that it is not time for the call yet
abbrev pub waits : {R : Type 0} → Answer R
waits = Waits

-- each reply is what the object of one thread answers after the earlier calls
abbrev pub IsLegal : {C R : Type 0} → (List (Entry C R) → ℕ → C → Answer R → Type 0) → List (Entry C R) → Type 0
IsLegal answers [] = Unit {0}
IsLegal answers (e ∷ earlier) = answers earlier e.by e.call (Replies e.reply) × IsLegal answers earlier

-- A call of a caller, done after an old history, is the newest of the new one; its reply is one that the object of one thread answers, and fits.
abbrev pub IsDone : {C R : Type 0} → (List (Entry C R) → ℕ → C → Answer R → Type 0) → Type 0 → ℕ → C → R → List (Entry C R) → List (Entry C R) → Type 0
IsDone answers fits by call reply old new = (new ≡ entry by call reply ∷ old) × answers old by call (replies reply) × fits

-- the history ys began as xs: xs are its earliest calls
abbrev pub Begins : {A : Type 0} → List A → List A → Type 0
Begins xs ys = (more : List _) × (ys ≡ more ++ xs)

-- the calls of one caller
abbrev pub calls_by : {C R : Type 0} → ℕ → List (Entry C R) → List (Entry C R)
calls_by b [] = []
calls_by b (e ∷ earlier) = if e.by == b then e ∷ calls_by b earlier else calls_by b earlier

-- the history ys goes on from xs with no further call of the caller b
pub record GoesOnWithout {C R : Type 0} (b : ℕ) (xs ys : List (Entry C R)) : Type 0 where
  pub begins : Begins xs ys
  pub calls : calls_by b ys ≡ calls_by b xs

-- the longer of two lists
abbrev pub longer : {A : Type 0} → List A → List A → List A
longer xs ys = if nat_le (length xs) (length ys) then ys else xs
