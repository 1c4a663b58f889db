use Rattle.std.proofs.Common.{◌+◌, ◌-◌, ◌*◌, ◌∙◌, ap, arith, pos, refl, neg_ℤ, ◌+ℤ◌, length}
use Rattle.std.proofs.lemmas.List.Edits.{length-between}
use Rattle.sf_base.specs.Bytes.{pixel_in}
use Rattle.sf_damage.specs.sf_view.Contents.{unsigned}
use Rattle.sf_compose.proofs.CropLemmas.{row_pixel, crop_room}
use Rattle.sf_compose.proofs.SpanLemmas.{pixel_between}
use Rattle.sf_compose.proofs.crop.crop_row.Goals as goal

pub pixels_from-requires : goal.pixels_from-requires
pixels_from-requires c =
    let room = crop_room c.args.picture.now c.args.crop.rect c.args.crop.place.0 c.args.crop.place.1 c.args.y c.args.left c.args.right c.crop_start-from.result c.requires.crop c.requires.ordered c.requires.first c.requires.last c.requires.down c.crop_start-from.ensures.number in
    omega (arith, c.bytes.ensures.size, room, c.requires.ordered)

pub returns-clause-size : goal.returns-clause-size
returns-clause-size c =
    let room = crop_room c.args.picture.now c.args.crop.rect c.args.crop.place.0 c.args.crop.place.1 c.args.y c.args.left c.args.right c.crop_start-from.result c.requires.crop c.requires.ordered c.requires.first c.requires.last c.requires.down c.crop_start-from.ensures.number in
    let long = length-between c.bytes.result.now (4 * c.crop_start-from.result) (4 * (c.crop_start-from.result + (c.args.right - c.args.left))) (omega (arith, c.bytes.ensures.size, room)) in
    ap length c.pixels_from.ensures ∙ omega (arith, long)

pub returns-clause-pixels : goal.returns-clause-pixels
returns-clause-pixels c = λ k low.
    rw c.pixels_from.ensures
    (pixel_between c.bytes.result.now c.crop_start-from.result (c.crop_start-from.result + (c.args.right - c.args.left)) k (omega (arith, low))
    ∙ (ap (λ n. pixel_in c.bytes.result.now (n + k)) c.crop_start-from.ensures.number
    ∙ row_pixel c.args.picture.now c.bytes.result.now c.args.crop.rect c.args.crop.place.0 c.args.crop.place.1 c.args.y c.args.left c.args.right
    (unsigned ((pos c.args.left +ℤ neg_ℤ c.args.crop.place.0) +ℤ c.args.crop.rect.x)) (unsigned ((pos c.args.y +ℤ neg_ℤ c.args.crop.place.1) +ℤ c.args.crop.rect.y)) k
    c.bytes.ensures c.requires.crop c.requires.ordered c.requires.first c.requires.last c.requires.down refl refl low))
