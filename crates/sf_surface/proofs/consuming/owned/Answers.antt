use Rattle.std.proofs.Common.{◌∙◌, ap, refl, sym}
use Rattle.sf_surface.specs.Tokens.{LooseOf}
use Rattle.sf_surface.proofs.LooseLemmas.{right_moved}
use Rattle.sf_surface.proofs.consuming.owned.Goals as goal

pub invariant_of-result : goal.invariant_of-result
invariant_of-result g c =
    let wide = c.requires.wide ∙ ap (λ (l : LooseOf). l.held.width) (sym c.loose.view_is) in
    let high = c.requires.high ∙ ap (λ (l : LooseOf). l.held.height) (sym c.loose.view_is) in
    record {
      right = right_moved g.B.TableName.table c.loose.inside.held c.args.held c.loose.inside.turn wide high c.loose.invariant;
      shows = λ some. absurd (some refl);
    }
