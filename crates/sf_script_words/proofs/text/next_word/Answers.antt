use Rattle.std.proofs.Common.{◌∙◌, sym}
use Rattle.std.proofs.lemmas.Bool.{eqb-true, eqb-false}
use Rattle.sf_script_words.proofs.TextLemmas.{no_word, first_word}
use Rattle.sf_script_words.proofs.text.next_word.Goals as goal

pub returns-then-is_empty-clause-words : goal.returns-then-is_empty-clause-words
returns-then-is_empty-clause-words c = no_word _ _ _ c.blank_length.ensures.count c.split_at.ensures.back (eqb-true _ _ (sym c.is_empty.ensures ∙ c.if-is_empty.true))

pub returns-clause-words : goal.returns-clause-words
returns-clause-words c =
    rw (c.split_at-2.ensures.front, c.split_at-2.ensures.back)
    (first_word _ _ _ _ c.blank_length.ensures.count c.split_at.ensures.back (eqb-false _ _ (sym c.is_empty.ensures ∙ c.if-is_empty.false)) c.word_length.ensures.count)
