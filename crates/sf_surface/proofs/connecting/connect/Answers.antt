use Rattle.sf_surface.proofs.ConnectLemmas.{connects}
use Rattle.sf_surface.proofs.connecting.connect.Goals as goal

pub returns : goal.returns
returns g c = connects g.B.TableName.table c.args.slots.now c.connect.new.q c.args.by c.connect.result c.answer.result c.requires.sound c.connect.ensures.unchanged c.connect.ensures.done c.connect.ensures.history c.answer.ensures
