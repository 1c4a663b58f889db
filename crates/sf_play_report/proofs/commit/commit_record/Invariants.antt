use Rattle.std.proofs.Common.{◌≡◌, map, take}
use Rattle.law_played.specs.Commits.{buffer_shown}
use Rattle.sf_play_report.proofs.commit.commit_record.Given as goal

abbrev pub invariant-loop-buffer : goal.invariant-loop-buffer
invariant-loop-buffer l = l.buffers.items ≡ map buffer_shown (take l.buffer-index l.fn.commit.buffers)
