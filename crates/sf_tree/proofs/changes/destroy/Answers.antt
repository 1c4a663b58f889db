use Rattle.sf_tree.proofs.changes.destroy.Goals as goal

pub returns-in-Ok-clause-back : goal.returns-in-Ok-clause-back
returns-in-Ok-clause-back c = λ first back. c.in-Ok.ensures.ok c.remove.new.self first back
