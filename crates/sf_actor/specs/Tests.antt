-- The tests of an actor's own, before a step makes any call: for what a step is refused by what its names and transaction
-- numbers hold.
use Rattle.std.specs.Prelude.{ℕ, Bool, false, not, ◌==◌, ◌&&◌, ◌||◌, if◌then◌else◌, List, [], ◌∷◌, Option, Some, None, is_some, is_none}
use Rattle.sf_script_scene.specs.sf_picture.declared.picture.Picture.{Picture}
use Rattle.sf_actor.specs.Scripts.{is_size_of}
use Rattle.sf_script_scene.specs.declared.step.Step.{Step}
use Rattle.sf_script_scene.specs.declared.step.Step.TheVariants as step
use Rattle.sf_actor.specs.Names.{Holdings, Token, Lent, Owing, Frame, is_lent, is_owing, is_frame, is_apart, name_in, transaction_in}

-- the status of a test of values
abbrev pub bad_value : ℕ
bad_value = 11

-- a name or number does not hold what the step asks for
abbrev pub empty : ℕ
empty = 15

-- a name or number that is to be filled holds something
abbrev pub occupied : ℕ
occupied = 16

-- the first test that is met decides
abbrev pub first_met : List (Bool × ℕ) → Option ℕ
first_met [] = None
first_met (test ∷ tests) = if test.0 then Some test.1 else first_met tests

-- a name that is to be filled holds something, and is not the one that the step empties
abbrev pub is_taken : Holdings → ℕ → ℕ → Bool
is_taken holdings emptied filled = not (filled == emptied) && is_some (name_in holdings filled)

-- the picture can't be drawn in it: it has another size than the lent buffer, or is not the promised one
abbrev pub can_not_show : (ℕ → Picture) → ℕ → Option Token → Bool
can_not_show pictures picture (Some (Lent queue token drawn)) = not (is_size_of (pictures picture) token.held)
can_not_show pictures picture (Some (Owing queue owed)) = not (owed.picture == picture)
can_not_show pictures picture other = false

-- another picture was drawn in the lent buffer
abbrev pub shows_other : ℕ → Option Token → Bool
shows_other picture (Some (Lent queue token (Some drawn))) = not (drawn == picture)
shows_other picture other = false

-- a buffer of the consumer's own shows no frame
abbrev pub is_frameless : Option Token → Bool
is_frameless (Some (Frame queue token)) = token.frame == 0
is_frameless other = false

-- the tests of a step, in their order
abbrev pub tests_of : (ℕ → Picture) → Holdings → Step → List (Bool × ℕ)
tests_of pictures holdings (step.Dequeue q s size) = (is_some (name_in holdings s), occupied) ∷ []
tests_of pictures holdings (step.DequeueWait q s size) = (is_some (name_in holdings s), occupied) ∷ []
tests_of pictures holdings (step.Request s) = (not (is_lent (name_in holdings s)), empty) ∷ []
tests_of pictures holdings (step.Draw s p) =
    (not (is_lent (name_in holdings s) || is_owing (name_in holdings s)), empty) ∷ (can_not_show pictures p (name_in holdings s), bad_value) ∷ []
tests_of pictures holdings (step.Queue s p time crop points) = (not (is_lent (name_in holdings s)), empty) ∷ (shows_other p (name_in holdings s), bad_value) ∷ []
tests_of pictures holdings (step.Cancel s points) = (not (is_lent (name_in holdings s)), empty) ∷ []
tests_of pictures holdings (step.PDetach s b) = (not (is_lent (name_in holdings s)), empty) ∷ (is_taken holdings s b, occupied) ∷ []
tests_of pictures holdings (step.PAttach q b s) = (not (is_apart (name_in holdings b)), empty) ∷ (is_taken holdings b s, occupied) ∷ []
tests_of pictures holdings (step.Acquire q i at) = (is_some (name_in holdings i), occupied) ∷ []
tests_of pictures holdings (step.Release i points) = (not (is_frame (name_in holdings i)), empty) ∷ []
tests_of pictures holdings (step.CDetach i b) = (not (is_frame (name_in holdings i)), empty) ∷ (is_taken holdings i b, occupied) ∷ []
tests_of pictures holdings (step.CAttach q b i) = (not (is_apart (name_in holdings b)), empty) ∷ (is_taken holdings b i, occupied) ∷ []
tests_of pictures holdings (step.Tx n) = (is_some (transaction_in holdings n), occupied) ∷ []
tests_of pictures holdings (step.Desire n time) = (is_none (transaction_in holdings n), empty) ∷ []
tests_of pictures holdings (step.Buffer n layer i) =
    (is_none (transaction_in holdings n) || not (is_frame (name_in holdings i)), empty) ∷ (is_frameless (name_in holdings i), bad_value) ∷ []
tests_of pictures holdings (step.Barrier n layer frame) = (is_none (transaction_in holdings n), empty) ∷ []
tests_of pictures holdings (step.Merge n m) = (is_none (transaction_in holdings n) || is_none (transaction_in holdings m), empty) ∷ (n == m, bad_value) ∷ []
tests_of pictures holdings (step.Apply n token) = (is_none (transaction_in holdings n), empty) ∷ []
tests_of pictures holdings (step.Set n layer change) = (is_none (transaction_in holdings n), empty) ∷ []
tests_of pictures holdings other = []

-- the status of a step that an actor's own test refuses
unfoldable pub refusal_of : (ℕ → Picture) → Holdings → Step → Option ℕ
refusal_of pictures holdings s = first_met (tests_of pictures holdings s)
