use Rattle.std.proofs.Common.{ap, ◌∙◌}
use Rattle.sf_intake.specs.Posts.{Post}
use Rattle.sf_intake.specs.declared.protocol.Knows.{Knows}
use Rattle.sf_intake.proofs.Keeps.{tales, learns, compares}
use Rattle.sf_intake.proofs.intake.Intake.compare.Goals as goal

pub another-tale-requires-clause-rule : goal.another-tale-requires-clause-rule
another-tale-requires-clause-rule g c = tales g.N.LeaseHome.holds _ _ c.requires.taker

pub absorb-requires-clause-rule : goal.absorb-requires-clause-rule
absorb-requires-clause-rule g c = learns g.N.LeaseHome.holds _ _ _ _ c.requires.sender.1

pub len_as-requires-clause-rule : goal.len_as-requires-clause-rule
len_as-requires-clause-rule g c = compares g.N.LeaseHome.holds _ _ (ap (λ (k : Knows (Post g.row.L.Denot)). k.sends) c.absorb.ensures.rule ∙ c.requires.sender.0)
