use Rattle.std.proofs.Common.{◌≡◌, ◌≤◌, ◌<◌, ◌^◌, drop, length}
use Rattle.sf_script_words.specs.Numbers.{digits_after}
use Rattle.sf_script_words.proofs.numbers.decimal.Given as goal

abbrev pub invariant-loop-digit : goal.invariant-loop-digit
invariant-loop-digit l = record {
  value : digits_after 0 l.word ≡ digits_after l.number (drop l.digit-index l.word);
  small : l.number < 10 ^ l.digit-index;
  short : length l.word ≤ 20;
}
