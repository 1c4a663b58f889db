use Rattle.std.proofs.Common.{ap, sym, ◌∙◌, true≢false}
use Rattle.test_leases.specs.Pages.{PageOf}
use Rattle.sf_commit.specs.Handlers.{HandlerOf}
use Rattle.test_commit.proofs.compositor.step.Goals as goal

pub vsync-requires-clause-fits : goal.vsync-requires-clause-fits
vsync-requires-clause-fits c = λ alive. record { pending = λ k d h j e l. tt; on = λ k d h. tt; kept = λ k d h. tt }

pub vsync-requires-clause-brought : goal.vsync-requires-clause-brought
vsync-requires-clause-brought c = λ k d h j e l. tt

pub returns-in-Ok-clause-alive : goal.returns-in-Ok-clause-alive
returns-in-Ok-clause-alive c = λ alive. c.in-Ok.ensures.decides.alive

pub returns-in-Ok-clause-last : goal.returns-in-Ok-clause-last
returns-in-Ok-clause-last c = λ alive. ap (λ (h : HandlerOf PageOf). h.last) c.in-Ok.ensures.decides.settled.state

pub returns-in-Err-clause-alive : goal.returns-in-Err-clause-alive
returns-in-Err-clause-alive c = λ alive. absurd (true≢false (sym c.in-Err.ensures.stops.spent ∙ alive))

pub returns-in-Err-clause-last : goal.returns-in-Err-clause-last
returns-in-Err-clause-last c = λ alive. absurd (true≢false (sym c.in-Err.ensures.stops.spent ∙ alive))

pub returns-in-Ok-clause-lent : goal.returns-in-Ok-clause-lent
returns-in-Ok-clause-lent c = ap (λ (h : HandlerOf PageOf). h.lent) c.in-Ok.ensures.decides.settled.state

pub returns-in-Err-clause-lent : goal.returns-in-Err-clause-lent
returns-in-Err-clause-lent c = c.in-Err.ensures.stops.lent
