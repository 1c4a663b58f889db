use Rattle.sf_play.proofs.ActionKeepsPlayer.{ends_run}
use Rattle.sf_play.proofs.laws.what_stands_at_its_end_fits.Goals as goal

pub returns : goal.returns
returns g c = λ table scene so player stands. ends_run table scene so player stands.stands stands.at_end stands.knows stands.own
