-- What `parse` answers.
use Rattle.std.specs.Prelude.{◌≡◌, nat_lt, if◌then◌else◌, length, Result, Ok, Err}
use Rattle.sf_script_words.specs.Causes.{number_of}
use Rattle.sf_script_words.specs.Text.{Text}
use Rattle.sf_script_words.specs.declared.fault.Cause.TheVariants.{Limit}
use Rattle.sf_script_scene.specs.Scene.{SceneValue}
use Rattle.sf_script.specs.Script.{script_of}
use Rattle.sf_script.specs.declared.fault.ScriptFault.{ScriptFault}
use Rattle.sf_script.specs.declared.fault.ParseFault.{ParseFault}
use Rattle.sf_script.specs.declared.fault.ParseFault.TheVariants.{Script, NoMemory}

-- the fault of a script that is too long
abbrev pub too_long : ScriptFault
too_long = record { line = 0; word = 0; cause = number_of Limit }

-- the scene of a script, or its fault
unfoldable pub parsed_of : Text → Result SceneValue ScriptFault
parsed_of bytes = if nat_lt 1048576 (length bytes) then Err too_long else script_of bytes

-- what was returned is so, unless memory ran out
abbrev pub GivesScene : Result SceneValue ParseFault → Result SceneValue ScriptFault → Type 0
GivesScene (Ok scene) parsed = parsed ≡ Ok scene
GivesScene (Err NoMemory) parsed = Unit {0}
GivesScene (Err (Script fault)) parsed = parsed ≡ Err fault

-- the same of a draft
abbrev pub GivesDraft : {X Y : Type 0} → (X → Y) → Result X ParseFault → Result Y ScriptFault → Type 0
GivesDraft view (Ok draft) read = read ≡ Ok (view draft)
GivesDraft view (Err NoMemory) read = Unit {0}
GivesDraft view (Err (Script fault)) read = read ≡ Err fault
