use Rattle.std.proofs.Common.{◌++◌, List, Option, map, subst, sym}
use Rattle.sf_view.specs.sf_picture.declared.picture.Picture.{Picture}
use Rattle.sf_commit.proofs.LendLemmas.{there_left}
use Rattle.sf_commit.specs.Lending.{AreThere, read_of}
use Rattle.sf_commit.proofs.lending.take_back.Goals as goal

pub leave_all-requires-clause-there : goal.leave_all-requires-clause-there
leave_all-requires-clause-there g c =
    subst (λ (slots : List (Option Picture)). AreThere g.L.Lease slots c.args.returned.kept.items) (sym c.spread.ensures.slots)
    (there_left g.L.Lease _ c.args.returned.kept.items (map read_of c.args.on.now) c.requires.lends)

pub collect-contents-requires-clause-there : goal.collect-contents-requires-clause-there
collect-contents-requires-clause-there g c =
    c.leave_all.ensures.left (map read_of c.args.on.now)
    (subst (λ (slots : List (Option Picture)). AreThere g.L.Lease slots (c.args.returned.kept.items ++ map read_of c.args.on.now)) (sym c.spread.ensures.slots) c.requires.lends)
