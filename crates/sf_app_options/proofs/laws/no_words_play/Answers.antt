use Rattle.std.proofs.Common.{refl}
use Rattle.clap.specs.Faults.{walk_fault, defaults_fault}
use Rattle.sf_app_options.specs.Options.{options_of, options_in, options_from, run_of, number_of, is_set, intake_of}
use Rattle.sf_app_options.specs.Command.{has_matches, rows_given}
use Rattle.sf_app_options.proofs.laws.no_words_play.Goals as goal

pub returns : goal.returns
unfolding options_of options_in options_from run_of number_of is_set intake_of has_matches rows_given walk_fault defaults_fault
returns c = refl
