-- From the faults of the command to what the words give.
use Rattle.std.proofs.Common.{◌≡◌, true, false, List, [], ◌∷◌, Option, None, Some, Err, refl, sym, ap, ◌∙◌}
use Rattle.std.specs.Option.{ok_or}
use Rattle.clap.specs.Kinds.{Kinds}
use Rattle.clap.specs.Walk.{Row}
use Rattle.clap.specs.Words.{Text, fault_of, matches_of}
use Rattle.sf_app_options.specs.Command.{HasMatches, has_matches, is_free, rows_given, sf_command}
use Rattle.sf_app_options.specs.Options.{GivesOptions, options_in, options_of}
use Rattle.sf_app_options.specs.declared.options.Options.{Options}
use Rattle.sf_app_options.specs.declared.options.OptionsFault.{OptionsFault}
use Rattle.sf_app_options.specs.declared.options.OptionsFault.TheVariants.{NoMemory, WrongWords}

no_kinds : (kinds : Kinds) → ¬ (kinds ≡ []) → is_free kinds ≡ false
no_kinds [] h = absurd (h refl)
no_kinds (k ∷ ks) h = refl

matches_there : (words : List Text) → HasMatches words → has_matches words ≡ true
unfolding has_matches
matches_there words e = ap is_free e

matches_lacking : (words : List Text) → ¬ HasMatches words → has_matches words ≡ false
unfolding has_matches
matches_lacking words h = no_kinds (fault_of sf_command words) h

same_rows : (words : List Text) (rows : List Row) → rows ≡ matches_of sf_command words → rows_given words ≡ rows
unfolding rows_given
same_rows words rows e = sym e

-- words that the command refuses have no options
pub none_wrong : (words : List Text) (fault : OptionsFault) → (fault ≡ WrongWords → ¬ HasMatches words) → GivesOptions (Err fault) (options_of words)
unfolding options_of
none_wrong words NoMemory h = tt
none_wrong words WrongWords h = rw (matches_lacking words (h refl)) refl

-- words that the command takes have the options of its matches
pub as_matched : (words : List Text) (rows : List Row) (given : Option Options) → HasMatches words → rows ≡ matches_of sf_command words → given ≡ options_in rows → options_of words ≡ given
unfolding options_of
as_matched words rows given h e f = rw (matches_there words h) (ap options_in (same_rows words rows e) ∙ sym f)

-- options that are there, or that the words are wrong
pub given_or_wrong : (given : Option Options) → GivesOptions (ok_or given WrongWords) given
given_or_wrong (Some options) = refl
given_or_wrong None = refl
