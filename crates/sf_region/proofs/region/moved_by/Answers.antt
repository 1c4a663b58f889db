use Rattle.std.proofs.Common.{refl, rules, arith}
use Rattle.std.proofs.lemmas.Int.{ints}
use mir.Syntax.{w32}
use mir.Val.{SFits}
use Rattle.sf_region.specs.Points.{moved}
use Rattle.sf_region.proofs.SameLemmas.{rect_by}
use Rattle.sf_region.proofs.region.moved_by.Goals as goal

pub returns : goal.returns
unfolding moved
returns c =
    let across : SFits w32 c.args.rect.now.x = search rules in
    let down : SFits w32 c.args.rect.now.y = search rules in
    rect_by _ _ (omega (arith, ints, c.requires.left, c.requires.right)) (omega (arith, ints, c.requires.top, c.requires.bottom)) refl refl
