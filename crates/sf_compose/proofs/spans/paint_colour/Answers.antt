use Rattle.sf_base.specs.Paint.{painted}
use Rattle.sf_compose.proofs.SpanLemmas.{PaintsSpan-part}
use Rattle.sf_compose.proofs.spans.paint_colour.Goals as goal

pub returns : goal.returns
returns c = PaintsSpan-part _ _ _ _ (λ i under. painted under c.args.colour c.args.alpha) c.requires.ordered c.requires.within c.blend_colour.ensures.len c.blend_colour.ensures.each_pixel
