use Rattle.std.proofs.Common.{take}
use Rattle.std.specs.List.{All}
use Rattle.sf_commit.specs.sf_calls.Histories.{IsLegal}
use Rattle.sf_actor_steps.specs.sf_surface.Histories.{Answers}
use Rattle.sf_actor_steps.specs.sf_surface.Objects.{ObjectOf, mark_of}
use Rattle.sf_actor_set.proofs.compositing.legal_each.Given as goal

abbrev pub invariant-loop-object : goal.invariant-loop-object
invariant-loop-object g l = All (λ (object : ObjectOf g.row.B.Denot). IsLegal (Answers (mark_of object)) object.calls) (take l.object-index l.fn.queues)
