-- Marks of the numbers that are taken.
use Rattle.std.specs.Prelude.{◌≡◌, ℕ, ◌<◌, Bool, false, List, length, slice_index_or}
use Rattle.std.specs.List.{list_any}
use Rattle.sf_base.specs.declared.ids.LayerId.{LayerId}
use Rattle.sf_output_shown.specs.Copies.{is_taken_by}

-- each number below 9,218 has a mark, which is set where the number is taken
pub record AreMarks (taken : List LayerId) (marks : List Bool) : Type 0 where
  pub long : length marks ≡ 9218
  pub marked : (number : ℕ) → number < length marks → slice_index_or marks number false ≡ list_any (is_taken_by number) taken
