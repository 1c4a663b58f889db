use Rattle.std.proofs.Common.{◌∙◌, sym}
use Rattle.std.proofs.lemmas.Bool.{eqb-true, eqb-false}
use Rattle.sf_script_words.proofs.TextLemmas.{no_line, first_line}
use Rattle.sf_script_words.proofs.text.next_line.Goals as goal

pub returns-then-is_empty-clause-lines : goal.returns-then-is_empty-clause-lines
returns-then-is_empty-clause-lines c = no_line _ (eqb-true _ _ (sym c.is_empty.ensures ∙ c.if-is_empty.true))

pub returns-clause-lines : goal.returns-clause-lines
returns-clause-lines c =
    rw (c.split_at.ensures.front, c.without_first.ensures)
    (first_line _ _ _ (eqb-false _ _ (sym c.is_empty.ensures ∙ c.if-is_empty.false)) c.line_length.ensures.count c.split_at.ensures.back)
