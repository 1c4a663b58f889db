use Rattle.test_layers.proofs.read.read_turn.Goals as goal

pub returns-in-Ok-clause-eye : goal.returns-in-Ok-clause-eye
returns-in-Ok-clause-eye c = c.close.ensures.keeps c.args.page (c.open-pixels.ensures.keeps c.args.page c.requires)

pub returns-in-Err-clause-eye : goal.returns-in-Err-clause-eye
returns-in-Err-clause-eye c = c.open-pixels.ensures.keeps c.args.page c.requires
