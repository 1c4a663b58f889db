-- What an event of a caller is while something that the caller sent is on its way.
use Rattle.law_draws.specs.sf_surface.Tokens.{ReadLeaseOf}
use Rattle.law_draws.specs.sf_token.Pending.{Arrival}
use Rattle.law_threads.specs.Cuts.{Event, Forwards, Moves, Returns, with_sent}

-- while it is on its way
abbrev pub meanwhile : {B : Type 0} → Arrival ReadLeaseOf → Event B → Event B
meanwhile sent (Moves local spot) = Moves (with_sent sent local) spot
meanwhile sent (Returns lease spot) = Returns lease spot
meanwhile sent (Forwards arrived spot) = Forwards arrived spot
