use Rattle.std.proofs.Common.{◌<◌, ◌+◌, ◌-◌, ◌*◌, ◌/◌, ◌∙◌, ℕ, refl, sym, arith, slice_index, length}
use Rattle.std.proofs.lemmas.List.Edits.{length-between}
use Rattle.sf_base.specs.Bytes.{pixel_in}
use Rattle.sf_base.specs.Paint.{painted}
use Rattle.sf_compose.proofs.SolidLemmas.{painted_whole}
use Rattle.sf_compose.proofs.SpanLemmas.{moved_back, PaintsSpan-part, PaintsSpan-touched}
use Rattle.sf_compose.proofs.spans.copy_pixels.Goals as goal

pub returns-clause-touched : goal.returns-clause-touched
returns-clause-touched c = PaintsSpan-touched _ _ _ _ (λ i under. pixel_in c.copy_solid.new.dst (i - c.args.start))
    (PaintsSpan-part _ _ _ _ (λ i under. pixel_in c.copy_solid.new.dst (i - c.args.start)) c.requires.ordered c.requires.within c.copy_solid.ensures.size (λ k low. rw (moved_back c.args.start k) refl))

pub returns-clause-copied : goal.returns-clause-copied
returns-clause-copied c = λ yes ground.
    let small : (k : ℕ) → slice_index c.args.row.now k < 256 = λ k. (c.type_inv.row k).fits in
    PaintsSpan-part _ _ _ _ (λ i under. painted (ground i) (pixel_in c.args.row.now (i - c.args.start)) 255) c.requires.ordered c.requires.within c.copy_solid.ensures.size
    (λ k low.
    let a = c.copy_solid.ensures.copied yes in
    let below : k < length c.args.row.now / 4 = omega (arith, low, c.requires.same, length-between c.args.frame.now (4 * c.args.start) (4 * c.args.end) c.requires.within) in
    rw (moved_back c.args.start k)
    (a.same k below ∙ sym (painted_whole (ground (c.args.start + k)) (pixel_in c.args.row.now k) (omega (arith, small (4 * k))) (omega (arith, small (4 * k + 1))) (omega (arith, small (4 * k + 2))) (a.solid k below))))
