use Rattle.std.proofs.Common.{arith, ◌≡◌, ◌<◌, ◌∙◌, ◌^◌, ap, sym, subst, length, ◌+ℤ◌, ◌*ℤ◌, to_z, of_z, w64, pos}
use lib.IntN.{nat_abs}
use lib.Dec.{T}
use lib.Signed.{non_neg}
use mir.Val.{Fits}
use Rattle.sf_rows.specs.Pixels.{picked}
use Rattle.sf_rows.proofs.PickLemmas.{number_fits, number_is, number_whole}
use Rattle.sf_rows.proofs.pick.number_at.Goals as goal

is_number : (c : goal.After-from-2) → to_z w64 (of_z w64 (to_z w64 (of_z w64 c.from.result) +ℤ to_z w64 (of_z w64 (to_z w64 (of_z w64 c.from-2.result) *ℤ to_z w64 c.args.k)))) ≡ picked c.args.first c.args.step c.args.k
is_number c =
    let room : length c.args.src.now < 2 ^ 63 = omega arith in
    let small : c.args.first < 2 ^ 32 = omega arith in
    number_is c.args.src.now c.args.first c.args.step c.from.result c.from-2.result c.args.k small c.ranges.step c.requires.few room c.from.ensures c.from-2.ensures c.requires.inside

pub overflow_cast-result : goal.overflow_cast-result
overflow_cast-result c = subst (λ z. T (non_neg z) × Fits w64 (nat_abs z)) (sym (is_number c)) (number_fits c.args.src.now _ (omega arith) c.requires.inside)

pub returns : goal.returns
returns c = ap (λ z. pos (nat_abs z)) (is_number c) ∙ number_whole c.args.src.now _ c.requires.inside
