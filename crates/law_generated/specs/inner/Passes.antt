-- Lines that a script may have.
use Rattle.std.specs.Prelude.{◌≡◌, ℕ, ◌+◌, List, ◌++◌, length}
use Rattle.std.specs.List.{concat}
use Rattle.sf_script_words.specs.Text.{Text, lines_of}
use Rattle.sf_script.specs.Draft.{DraftValue}
use Rattle.sf_script.specs.Script.{lines_at}

-- after d, these lines spell what makes e of it, whatever comes behind them
pub record Passes (lines : List Text) (d e : DraftValue) : Type 0 where
  pub on : (number : ℕ) (rest : Text) → lines_at number d (lines_of (concat lines ++ rest)) ≡ lines_at (number + length lines) e (lines_of rest)
