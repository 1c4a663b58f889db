use Rattle.std.proofs.Common.{take}
use Rattle.std.specs.Prelude.{All}
use Rattle.sf_calls.specs.Histories.{IsLegal}
use Rattle.sf_live_compositor.specs.sf_surface.Histories.{Answers}
use Rattle.sf_live_compositor.specs.sf_surface.Objects.{ObjectOf, mark_of}
use Rattle.sf_live.proofs.threads.legal_each.Given as goal

abbrev pub invariant-loop-object : goal.invariant-loop-object
invariant-loop-object g l = All (λ (object : ObjectOf g.row.B.Denot). IsLegal (Answers (mark_of object)) object.calls) (take l.object-index l.fn.queues)
