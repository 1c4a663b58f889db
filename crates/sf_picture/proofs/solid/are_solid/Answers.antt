use Rattle.std.proofs.Common.{w8}
use Rattle.std.proofs.lemmas.Simd.{below_from_Fits}
use Rattle.sf_picture.proofs.SolidLemmas.{alpha_highest}
use Rattle.sf_picture.proofs.solid.are_solid.Goals as goal

pub returns : goal.returns
returns c = λ yes j h. alpha_highest c.args.pixels c.fits-pixels.0 (below_from_Fits w8 c.args.pixels c.fits-pixels.1) j h (c.are_highest.ensures yes j h)
