use Rattle.std.proofs.Common.{◌∙◌, sym}
use Rattle.sf_script.proofs.PartLemmas.{fences_at-more, known-push}
use Rattle.sf_script.proofs.parts.fences.Goals as goal

pub loop-word-preserved : goal.loop-word-preserved
loop-word-preserved c = record {
  given =
      fences_at-more _ _ _ _ _ _ _ _ _ _ _ c.in-Some.ensures.words c.in-Some-next_word.ensures.words c.in-Some-next_word-2.ensures.words (sym c.is.ensures ∙ c.if-not-is.false) c.in_ok-number.ensures.given c.in_ok-push.ensures.ok
      ∙ c.loop-word.invariant.given;
  known = known-push _ _ _ _ c.in_ok-push.ensures.ok c.loop-word.invariant.known c.in_ok-number.ensures.declared;
}
