use Rattle.sf_surface.proofs.ConnectLemmas.{disconnects}
use Rattle.sf_surface.proofs.connecting.disconnect.Goals as goal

pub returns : goal.returns
returns g c = disconnects g.B.TableName.table c.args.slots.now c.disconnect.new.q c.args.by c.disconnect.result c.answer.result c.requires.sound c.disconnect.ensures.unchanged c.disconnect.ensures.done c.disconnect.ensures.history c.answer.ensures
