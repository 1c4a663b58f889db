-- What the words of the program ask for.
use Rattle.std.specs.Prelude.{◌≡◌, ℕ, Bool, true, false, ◌&&◌, if◌then◌else◌, List, [], ◌∷◌, Option, None, Some, Result, Ok, Err, codes}
use Rattle.std.specs.Option.{option_map_or}
use Rattle.std.specs.Str.{bytes_eq}
use Rattle.clap.specs.Words.{Row, Text, first_of}
use Rattle.sf_script_words.specs.Numbers.{decimal_of, in_range}
use Rattle.sf_app_options.specs.Command.{has_matches, rows_given}
use Rattle.sf_app_options.specs.declared.options.Intake.{Intake}
use Rattle.sf_app_options.specs.declared.options.Intake.TheVariants as intake
use Rattle.sf_app_options.specs.declared.options.Run.{Run}
use Rattle.sf_app_options.specs.declared.options.Run.TheVariants as run
use Rattle.sf_app_options.specs.declared.options.Options.{Options}
use Rattle.sf_app_options.specs.declared.options.OptionsFault.{OptionsFault}
use Rattle.sf_app_options.specs.declared.options.OptionsFault.TheVariants.{NoMemory, WrongWords}
use Rattle.sf_app_options.specs.declared.about.About.{About}
use Rattle.sf_app_options.specs.declared.about.About.TheVariants as about

-- the run that is named
unfoldable pub run_named : Text → Option Run
run_named word =
    if bytes_eq word (codes "play") then Some run.Play else
    if bytes_eq word (codes "live") then Some run.Live else
    if bytes_eq word (codes "gen") then Some run.Gen else None

-- play, if none is given
unfoldable pub run_of : Option Text → Option Run
run_of None = Some run.Play
run_of (Some word) = run_named word

-- 1, if none is given; else one to twenty decimal digits that give a number in a range
unfoldable pub number_of : ℕ → ℕ → Option Text → Option ℕ
number_of low high None = Some 1
number_of low high (Some word) = in_range low high (decimal_of word)

-- the flag is given
unfoldable pub is_set : Option Text → Bool
is_set given = option_map_or (λ text. bytes_eq text (codes "true")) given false

-- the way of arrivals that is named
unfoldable pub intake_named : Text → Option Intake
intake_named word =
    if bytes_eq word (codes "lock") then Some intake.Lock else
    if bytes_eq word (codes "queue") then Some intake.Queue else None

-- a lock, if none is given
unfoldable pub intake_of : Option Text → Option Intake
intake_of None = Some intake.Lock
intake_of (Some word) = intake_named word

-- each actor has a thread
abbrev pub is_live : Run → Bool
is_live run.Live = true
is_live _ = false

-- transactions arrive through a queue
abbrev pub is_queue : Intake → Bool
is_queue intake.Queue = true
is_queue intake.Lock = false

-- no live run is summed up, and in no other do transactions arrive through a queue
abbrev pub do_conflict : Bool → Bool → Bool → Bool
do_conflict true summary queue = summary
do_conflict false summary queue = queue

-- the options, where each is right and they do not conflict
unfoldable pub options_from : Option Run → Option ℕ → Option ℕ → Bool → Option Intake → Option Options
options_from (Some run) (Some workers) (Some number) summary (Some intake) =
    if do_conflict (is_live run) summary (is_queue intake) then None
    else Some (record { run = run; workers = workers; number = number; summary = summary; intake = intake })
options_from _ _ _ _ _ = None

-- the options that these matches give
unfoldable pub options_in : List Row → Option Options
options_in rows =
    options_from (run_of (first_of (codes "run") rows)) (number_of 1 16 (first_of (codes "workers") rows)) (number_of 0 18446744073709551615 (first_of (codes "number") rows))
    (is_set (first_of (codes "summary") rows)) (intake_of (first_of (codes "intake") rows))

-- the options of the words, or none where the words are wrong
unfoldable pub options_of : List Text → Option Options
options_of words = if has_matches words then options_in (rows_given words) else None

-- what a word asks of the program itself
unfoldable pub about_named : Text → Option About
about_named word =
    if bytes_eq word (codes "--help") then Some about.Help else
    if bytes_eq word (codes "-h") then Some about.Help else
    if bytes_eq word (codes "--version") then Some about.Version else None

-- the same of words, of which one that stands alone counts
abbrev pub about_of : List Text → Option About
about_of (word ∷ []) = about_named word
about_of _ = None

-- the options were given, or refused where there are none; out of memory says nothing
abbrev pub GivesOptions : Result Options OptionsFault → Option Options → Type 0
GivesOptions (Ok options) asked = asked ≡ Some options
GivesOptions (Err WrongWords) asked = asked ≡ None
GivesOptions (Err NoMemory) asked = Unit {0}
