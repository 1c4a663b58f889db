use Rattle.std.specs.Io.KnownBytes.{Keeps}
use Rattle.sf_io.proofs.adapters.flush_through.Given as goal

-- no try so far put a byte
abbrev pub invariant-tries : goal.invariant-tries
invariant-tries g l = Keeps (g.T.Write.contents l.fn.writer) (g.T.Write.contents l.writer)
