-- The command line: its definition, and when it has matches.
use Rattle.std.specs.Prelude.{◌≡◌, List, [], ◌∷◌, Some, true, false, Bool, codes}
use Rattle.clap.specs.Kinds.{Kinds}
use Rattle.clap.specs.Words.{App, Row, Rule, Text, fault_of, matches_of, new_app, new_rule, with_rule}
use Rattle.clap.specs.declared.builder.ArgAction.TheVariants.{Set, SetTrue}

-- an option with a value
abbrev pub valued : Text → Rule
valued name = record (new_rule name) { long = Some name; action = Some Set }

-- an option that is there or not
abbrev pub flag : Text → Rule
flag name = record (new_rule name) { long = Some name; action = Some SetTrue }

-- the words come without the program's name
abbrev pub bare : App
bare = let named = new_app (codes "sf_main") in record named { top = record named.top { no_binary_name = true } }

-- the options of the program as clap takes them: run, workers, number and intake with values, and summary
abbrev pub sf_command : App
sf_command =
    let counted = with_rule (with_rule (with_rule bare (valued (codes "run"))) (valued (codes "workers"))) (valued (codes "number")) in
    with_rule (with_rule counted (flag (codes "summary"))) (valued (codes "intake"))

-- the command's definition gives matches for the words
abbrev pub HasMatches : List Text → Type 0
HasMatches words = fault_of sf_command words ≡ []

-- no fault is among these
abbrev pub is_free : Kinds → Bool
is_free [] = true
is_free (fault ∷ faults) = false

-- the same as a test
unfoldable pub has_matches : List Text → Bool
has_matches words = is_free (fault_of sf_command words)

-- what is given for each option
unfoldable pub rows_given : List Text → List Row
rows_given words = matches_of sf_command words
