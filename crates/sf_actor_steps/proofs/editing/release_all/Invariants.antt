use Rattle.std.proofs.Common.{◌≡◌}
use Rattle.sf_actor_steps.proofs.EditingLemmas.{ReleasesRest}
use Rattle.sf_actor_steps.proofs.editing.release_all.Given as goal

abbrev pub invariant-loop-buffer : goal.invariant-loop-buffer
invariant-loop-buffer g l =
    (g.D.Desk.home l.desk ≡ g.D.Desk.home l.fn.desk)
    × ReleasesRest (g.D.Desk.home l.fn.desk) l.fn.by.0 l.fn.step_number l.fn.replaced.items l.buffer-iterator.rest.items (g.D.Desk.view l.fn.desk) (g.D.Desk.view l.desk)
