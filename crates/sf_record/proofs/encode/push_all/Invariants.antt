use Rattle.std.proofs.Common.{◌≡◌, ◌++◌, All, length}
use Rattle.std.specs.List.{flat_map}
use Rattle.sf_record.proofs.encode.push_all.Given as goal

-- what is left to write, and to fit
abbrev pub invariant-loop-rest : goal.invariant-loop-rest
invariant-loop-rest g l = record {
  written : l.out.items ++ flat_map g.T.Encode.bytes l.rest ≡ l.fn.out.items ++ flat_map g.T.Encode.bytes l.items;
  fitting : All g.T.Encode.fits l.rest → All g.T.Encode.fits l.items;
}

abbrev pub decreases-loop-rest : goal.decreases-loop-rest
decreases-loop-rest g l = length l.rest
