-- The numbers of the causes, as a record has them.
use Rattle.std.specs.Prelude.{ℕ}
use Rattle.sf_script_words.specs.declared.fault.Cause.{Cause}
use Rattle.sf_script_words.specs.declared.fault.Cause.TheVariants as cause

-- each cause has a number of its own
abbrev pub number_of : Cause → ℕ
number_of cause.NotUtf8 = 1
number_of cause.UnknownWord = 2
number_of cause.BadWord = 3
number_of cause.MissingWord = 4
number_of cause.ExtraWord = 5
number_of cause.OutOfOrder = 6
number_of cause.Undefined = 7
number_of cause.Twice = 8
number_of cause.Limit = 9
number_of cause.Unended = 10
number_of cause.WrongVersion = 11
