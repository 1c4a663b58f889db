use Rattle.sf_surface.proofs.SamePictures.{tells_same}
use Rattle.sf_surface.proofs.plain.is_same.Goals as goal

pub returns : goal.returns
returns c = tells_same c.is_same.result c.args.a.now c.args.b.now c.is_same.ensures
