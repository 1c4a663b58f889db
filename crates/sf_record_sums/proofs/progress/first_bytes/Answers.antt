use Rattle.std.proofs.Common.{sym, ◌∙◌}
use Rattle.sf_record_sums.proofs.TallyLemmas.{plain_after}
use Rattle.sf_record_sums.proofs.progress.first_bytes.Goals as goal

pub returns-else-is_at_pixels-clause-after : goal.returns-else-is_at_pixels-clause-after
returns-else-is_at_pixels-clause-after c = plain_after _ _ c.args.bytes.now c.requires.some (sym c.is_at_pixels.ensures ∙ c.if-is_at_pixels.false) c.one_byte.ensures
