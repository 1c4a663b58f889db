use Rattle.std.proofs.Common.{arith}
use Rattle.sf_surface.proofs.values.Room.four_with.Goals as goal

pub put_points-requires-clause-room : goal.put_points-requires-clause-room
put_points-requires-clause-room c = λ some. let had = c.requires some in omega (arith, had)
