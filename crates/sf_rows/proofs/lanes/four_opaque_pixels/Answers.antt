use Rattle.std.proofs.Common.{◌≡◌, ◌≤◌, ◌+◌, ◌*◌, ◌∙◌, slice_index, subst, refl, arith}
use Rattle.std.proofs.lemmas.Simd.{bytes_below, Each1-get_or}
use Rattle.sf_rows.specs.inner.Channels.{mix, opaque_source}
use Rattle.sf_rows.proofs.ByteWords.{joined_of}
use Rattle.sf_rows.proofs.RowLemmas.{opaque_of, opaque_small}
use Rattle.sf_rows.proofs.lanes.four_opaque_pixels.Goals as goal

pub returns-clause-each : goal.returns-clause-each
returns-clause-each c = λ k h.
    let at : slice_index c.in_turn.result k ≡ mix c.args.alpha (slice_index c.four_opaque-source.result k) (slice_index c.args.dst k) =
    joined_of (mix c.args.alpha) c.in_turn.result c.four_opaque-source.result c.args.dst
    c.even_channels.result c.odd_channels.result c.even_channels-2.result c.odd_channels-2.result
    c.even_channels.ensures.len c.odd_channels.ensures.len c.even_channels-2.ensures.len c.odd_channels-2.ensures.len
    c.even_channels.ensures.each c.odd_channels.ensures.each c.even_channels-2.ensures.each c.odd_channels-2.ensures.each
    (λ j h. subst (λ z. slice_index c.in_turn.result (2 * j) ≡ slice_index z j) c.mixed.ensures.value (c.in_turn.ensures.even j h))
    (λ j h. subst (λ z. slice_index c.in_turn.result (2 * j + 1) ≡ slice_index z j) c.mixed-2.ensures.value (c.in_turn.ensures.odd j h)) k h in
    let source = c.four_opaque-source.ensures.each k h in
    let small : opaque_source c.args.src k ≤ 255 =
    opaque_small c.args.src (λ k h. Each1-get_or (λ x. x ≤ 255) c.args.src k 0 (omega (arith, c.fits-src.0, h)) (bytes_below c.args.src c.fits-src.1)) k h in
    at ∙ opaque_of c.args.dst c.args.src c.args.alpha k (slice_index c.four_opaque-source.result k) (slice_index c.args.dst k)
    (omega (arith, c.ranges.alpha.fits)) (omega (arith, source, small))
    (Each1-get_or (λ x. x ≤ 255) c.args.dst k 0 (omega (arith, c.fits-dst.0, h)) (bytes_below c.args.dst c.fits-dst.1)) source refl
