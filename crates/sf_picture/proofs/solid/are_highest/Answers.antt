use Rattle.std.proofs.Common.{◌≡◌, ◌∙◌, ltb, map, sym, arith, w32}
use Rattle.std.proofs.lemmas.Bool.{eqb-true, ltb-false}
use Rattle.std.proofs.lemmas.Simd.{bitmask_splat}
use lib.Lanes.{mask_l}
use Rattle.sf_picture.proofs.SolidLemmas.{empty_mask}
use Rattle.sf_picture.proofs.solid.are_highest.Goals as goal

pub returns : goal.returns
returns c = λ yes j h.
    let none : mask_l (map (λ x. ltb x 4278190080) c.args.words) ≡ 0 = sym (bitmask_splat w32 ltb c.args.words 16 4278190080 c.fits-words.0 (omega arith)) ∙ eqb-true _ 0 yes in
    ltb-false _ 4278190080 (empty_mask (λ x. ltb x 4278190080) c.args.words j none (omega (arith, c.fits-words.0, h)))
