-- What the words of a run ask for.
use Rattle.std.specs.Prelude.{◌≡◌, ℕ, Bool, true, false, not, List, Option, Some}
use Rattle.std.specs.Io.KnownBytes.{Consumes, IsAtEnd}
use Rattle.std.specs.List.{concat}
use Rattle.law_generated.specs.sf_script_generate.Generator.{lines_of}
use Rattle.sf_app_options.specs.Options.{is_queue}
use Rattle.sf_app_options.specs.declared.options.Options.{Options}
use Rattle.sf_app_options.specs.declared.options.Run.{Run}
use Rattle.sf_app_options.specs.declared.options.Run.TheVariants as run
use Rattle.sf_app_options.specs.sf_script_words.Text.{Text}

-- a generated script is played
abbrev pub is_gen : Run → Bool
is_gen run.Gen = true
is_gen _ = false

-- a sender learns the place of its transaction, unless these arrive through a queue
abbrev pub tells_place : Options → Bool
tells_place options = not (is_queue options.intake)

-- the text of the scene that a number generates
abbrev pub generated : ℕ → Text
generated number = concat (lines_of number)

-- which script was played, by whether it is generated
abbrev pub IsScriptBy : Bool → ℕ → Option (List ℕ) → Option (List ℕ) → List ℕ → Type 0
IsScriptBy true number left rest bytes = (rest ≡ left) × (bytes ≡ generated number)
IsScriptBy false number left rest bytes = Consumes left rest bytes × IsAtEnd rest

-- the script that was played: the generated one, and nothing was read; or all that the source had
abbrev pub IsScript : Options → Option (List ℕ) → Option (List ℕ) → List ℕ → Type 0
IsScript options left rest bytes = IsScriptBy (is_gen options.run) options.number left rest bytes

-- which script is to be played, where that is known, by whether it is generated
abbrev pub IsToldBy : Bool → ℕ → Option (List ℕ) → List ℕ → Type 0
IsToldBy true number left bytes = bytes ≡ generated number
IsToldBy false number left bytes = left ≡ Some bytes

-- the script that a run is to play is known: it is generated, or the source says what its bytes are
abbrev pub IsTold : Options → Option (List ℕ) → List ℕ → Type 0
IsTold options left bytes = IsToldBy (is_gen options.run) options.number left bytes
