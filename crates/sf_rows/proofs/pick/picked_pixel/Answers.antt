use Rattle.std.proofs.Common.{◌≡◌, ◌∙◌, ap, subst, rules, pos, to_z, of_z, w32, ℤ}
use Rattle.sf_base.specs.Bytes.{pixel_in}
use Rattle.sf_rows.specs.Pixels.{picked}
use Rattle.sf_rows.proofs.PickLemmas.{number_room, same_number}
use Rattle.sf_rows.proofs.pick.picked_pixel.Goals as goal

pub get_pixel-requires : goal.get_pixel-requires
get_pixel-requires c =
    let fits : to_z w32 (of_z w32 c.args.step) ≡ c.args.step = search rules in
    number_room c.args.src.now c.number_at.result (picked c.args.first c.args.step c.args.k) c.requires.whole (subst (λ (z : ℤ). pos c.number_at.result ≡ picked c.args.first z c.args.k) fits c.number_at.ensures) c.requires.inside

pub returns : goal.returns
returns c = λ j is.
    let fits : to_z w32 (of_z w32 c.args.step) ≡ c.args.step = search rules in
    c.get_pixel.ensures ∙ ap (pixel_in c.args.src.now) (same_number c.number_at.result j (picked c.args.first c.args.step c.args.k) (subst (λ (z : ℤ). pos c.number_at.result ≡ picked c.args.first z c.args.k) fits c.number_at.ensures) is)
