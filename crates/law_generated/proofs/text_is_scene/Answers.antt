use Rattle.law_generated.proofs.SceneLemmas as scenes
use Rattle.law_generated.proofs.text_is_scene.Goals as goal

pub returns : goal.returns
returns c = scenes.text_is_scene c.args.number
