use Rattle.std.proofs.Common.{◌≡◌, length}
use Rattle.std.specs.Io.KnownBytes.{Keeps}
use Rattle.sf_io.proofs.adapters.read_through.Given as goal

-- no try so far took a byte
abbrev pub invariant-tries : goal.invariant-tries
invariant-tries g l = record {
  room : length l.buf ≡ length l.initial.buf;
  kept : Keeps (g.T.Read.remaining l.fn.reader) (g.T.Read.remaining l.reader);
}
