use Rattle.std.proofs.Common.{◌≡◌, ◌+◌, ◌*◌, slice_index, subst}
use Rattle.sf_rows.proofs.ByteWords.{scaled_of}
use Rattle.sf_rows.proofs.lanes.scaled.Goals as goal

pub returns-clause-each : goal.returns-clause-each
returns-clause-each c =
    scaled_of c.in_turn.result c.args.a c.args.factors c.even_channels.result c.odd_channels.result c.even_channels.ensures.len c.odd_channels.ensures.len c.fits-factors.0
    c.even_channels.ensures.each c.odd_channels.ensures.each
    (λ j h. subst (λ z. slice_index c.in_turn.result (2 * j) ≡ slice_index z j) c.products.ensures.value (c.in_turn.ensures.even j h))
    (λ j h. subst (λ z. slice_index c.in_turn.result (2 * j + 1) ≡ slice_index z j) c.products-2.ensures.value (c.in_turn.ensures.odd j h))
