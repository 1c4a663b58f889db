use Rattle.law_played.proofs.LeaseLemmas.{all_back}
use Rattle.law_played.proofs.handlers.releases_give_back_what_goes.Goals as goal

pub returns : goal.returns
returns g c = λ frame plain v. all_back g.L.Lease frame plain v.decides.end.stage.gone v.told.releases v.decides.settled.releases
