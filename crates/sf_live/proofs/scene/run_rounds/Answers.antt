use Rattle.sf_live.proofs.scene.run_rounds.Goals as goal

pub returns : goal.returns
returns g c = c.write_rounds-written.ensures
