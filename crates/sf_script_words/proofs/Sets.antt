-- Sets of lemmas that functions name.
use Rattle.sf_script_words.proofs.TextLemmas.{length-words_of}

pub ruleset word_counts = length-words_of
