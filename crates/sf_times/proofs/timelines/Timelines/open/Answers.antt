use Rattle.std.proofs.Common.{rules}
use Rattle.sf_times.proofs.Keeps.{opens}
use Rattle.sf_times.proofs.timelines.Timelines.open.Goals as goal

pub of_words-requires : goal.of_words-requires
of_words-requires c = opens _ (search rules)
