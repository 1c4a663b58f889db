-- How long a list of lines is.
use Rattle.std.specs.Prelude.{ℕ, ◌≤◌, ◌*◌, List, length}
use Rattle.std.specs.List.{concat}
use Rattle.sf_script_words.specs.Text.{Text}

-- the lines together have no more bytes than so many lines of 69 bytes
pub record IsWithin (lines : List Text) (n : ℕ) : Type 0 where
  pub bytes : length (concat lines) ≤ 69 * n
