use Rattle.std.proofs.Common.{ap, map, Err}
use Rattle.std.specs.String.{string_bytes}
use Rattle.clap.specs.Words.{found_of, rows_of}
use Rattle.sf_app_options.proofs.MatchLemmas.{as_matched, given_or_wrong, none_wrong}
use Rattle.sf_app_options.proofs.options.Options.read.Goals as goal

pub returns-in-Err-clause-given : goal.returns-in-Err-clause-given
returns-in-Err-clause-given c = none_wrong (map string_bytes c.args.words.now) c.in-Err.fault (λ e. c.in-Err.ensures.wrong (ap Err e))

pub returns-in-Ok-clause-given : goal.returns-in-Ok-clause-given
returns-in-Ok-clause-given c =
    let words = map string_bytes c.args.words.now in
    let asked = as_matched words (rows_of (found_of c.in-Ok.matches)) c.options_in.result c.in-Ok.ensures.right c.in-Ok.ensures.given c.options_in.ensures.given in
    rw (asked, c.ok_or.ensures.value) (given_or_wrong c.options_in.result)
