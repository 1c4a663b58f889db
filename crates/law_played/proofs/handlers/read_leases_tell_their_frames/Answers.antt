use Rattle.law_played.proofs.LeaseLemmas.{plain_arrivals, plain_frame}
use Rattle.law_played.proofs.handlers.read_leases_tell_their_frames.Goals as goal

pub returns-clause-plain : goal.returns-clause-plain
returns-clause-plain c = plain_frame

pub returns-clause-arrivals : goal.returns-clause-arrivals
returns-clause-arrivals c = plain_arrivals
