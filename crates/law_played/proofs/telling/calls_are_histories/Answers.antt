use Rattle.law_played.proofs.Parts.{are_histories}
use Rattle.law_played.proofs.telling.calls_are_histories.Goals as goal
use Rattle.std.proofs.Common.{refl}
use Rattle.law_played.specs.SceneActors.{histories_over}

pub returns : goal.returns
returns g c = λ actors released calls releases. are_histories actors.scene actors.ofs actors.home actors.view released (histories_over actors) actors.are calls releases refl
