-- Of each actor its calls on each queue in the whole run.
use Rattle.std.specs.Prelude.{ℕ, List}
use Rattle.law_draws.specs.sf_actor.Desks.{mark_among}
use Rattle.law_draws.specs.sf_actor.Known.{Call, own_calls}
use Rattle.law_threads.specs.Cuts.{Whole}

abbrev pub calls_in : {B : Type 0} → Whole B → ℕ → ℕ → List (Call B)
calls_in whole = λ actor queue. own_calls actor (mark_among whole.marks queue) (whole.view.calls queue)
