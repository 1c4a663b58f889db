use Rattle.law_played.proofs.Parts.{arrive_in_order}
use Rattle.law_played.proofs.telling.arrivals_come_in_order.Goals as goal
use Rattle.std.proofs.Common.{refl}
use Rattle.law_played.specs.SceneActors.{entries_over}

pub returns : goal.returns
returns g c = λ actors theirs numbered. arrive_in_order actors.scene actors.ofs actors.home actors.view (entries_over actors) actors.are theirs numbered refl
