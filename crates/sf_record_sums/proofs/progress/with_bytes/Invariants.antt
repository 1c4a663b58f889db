use Rattle.std.proofs.Common.{◌≡◌, drop}
use Rattle.sf_record_sums.specs.Steps.{added_up}
use Rattle.sf_record_sums.proofs.progress.with_bytes.Given as goal

-- what the bytes that are left add to the sum
abbrev pub invariant-loop-byte : goal.invariant-loop-byte
invariant-loop-byte l = added_up l.sum (drop l.byte-index l.bytes) ≡ added_up l.fn.before l.bytes
