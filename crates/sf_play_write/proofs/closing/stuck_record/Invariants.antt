use Rattle.std.proofs.Common.{◌≡◌, take}
use Rattle.sf_play_write.specs.Closings.{stuck_at}
use Rattle.sf_play_write.proofs.closing.stuck_record.Given as goal

abbrev pub invariant-loop-actor : goal.invariant-loop-actor
invariant-loop-actor g l = l.list.items ≡ stuck_at (take l.actor-index l.fn.actors)
