use Rattle.std.proofs.Common.{sym, ◌∙◌, ap}
use Rattle.sf_record_sums.specs.declared.progress.Progress.{Progress}
use Rattle.sf_record_sums.specs.Steps.{after, start}
use Rattle.sf_record_sums.specs.Summaries.{nothing}
use Rattle.sf_record_sums.proofs.TallyLemmas.{after-append}
use Rattle.sf_record_sums.proofs.tally.TallySink.write.Goals as goal

pub invariant_of-self : goal.invariant_of-self
invariant_of-self c =
    c.advanced-self-inside.ensures ∙ ap (λ (p : Progress). after p c.args.piece.now) c.self.invariant
    ∙ sym (after-append (start nothing) c.self.inside.past.bytes c.args.piece.now) ∙ sym (ap (after (start nothing)) c.with-self-inside.ensures)
