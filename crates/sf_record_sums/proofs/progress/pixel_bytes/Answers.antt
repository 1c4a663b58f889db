use Rattle.std.proofs.Common.{sym}
use Rattle.sf_record_sums.proofs.TallyLemmas.{pixels_after}
use Rattle.sf_record_sums.proofs.progress.pixel_bytes.Goals as goal

pub returns : goal.returns
returns c = rw c.with_bytes-pixel_sum.ensures (sym (pixels_after c.args.progress c.args.bytes.now c.requires.skipped c.requires.within))
