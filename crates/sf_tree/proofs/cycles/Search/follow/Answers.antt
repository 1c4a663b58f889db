use Rattle.std.proofs.Common.{◌≡◌, sym, arith, false}
use Rattle.std.proofs.lemmas.Grind.{common_steps}
use Rattle.std.specs.Prelude.{eqb, slice_index_or}
use Rattle.sf_tree.proofs.SearchKnowledge.{GoesOn-new}
use Rattle.sf_tree.proofs.cycles.Search.follow.Goals as goal

pub returns-clause-on : goal.returns-clause-on
returns-clause-on c _ steps k way low s =
    let other : eqb c.in-Some.next.0 c.args.first.0 ≡ false = grind (arith, common_steps) in
    let unmarked : slice_index_or c.args.self.now.marks.items c.in-Some-index_of.place false ≡ false = sym (rw c.if-index.false at c.index.ensures) in
    rw (c.in-Some.is, c.in_ok-push.ensures.items) (GoesOn-new steps c.args.layers.now c.args.first c.args.self.now.found.items c.args.self.now.marks.items c.in-Some.next c.in-Some-index_of.place k s other (sym c.in-Some-index_of.ensures.place) unmarked (rw c.in-Some.is at way) low)
