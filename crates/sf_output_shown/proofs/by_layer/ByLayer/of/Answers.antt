use Rattle.std.proofs.Common.{◌∙◌, List, ap}
use Rattle.sf_base.specs.declared.ids.LayerId.{LayerId}
use Rattle.sf_output_shown.specs.ByLayer.{first_for}
use Rattle.sf_output_shown.proofs.by_layer.ByLayer.of.Goals as goal

pub returns : goal.returns
returns g c =
    c.copied.ensures ∙ (c.get.ensures.value ∙ (c.self.invariant c.args.id.0 ∙ ap (λ (notes : List (LayerId × g.row.T.Denot)). first_for notes c.args.id) c.self.view_is))
