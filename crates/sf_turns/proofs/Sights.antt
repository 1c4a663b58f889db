-- What a note tells a turn.
use Rattle.std.proofs.Common.{◌≡◌, ℕ, ◌≤◌, [], ◌∷◌, ◌++◌, ap, arith}
use Rattle.atomic_table.specs.Table.{Me}
use Rattle.sf_turns.specs.declared.protocol.Knows.{Knows}
use Rattle.sf_turns.specs.declared.protocol.Home.{Home}
use Rattle.sf_base.specs.Points.{greatest}
use Rattle.sf_turns.specs.Rule.{seen_note}
use Rattle.sf_turns.specs.Views.{SeatView, Observes}
use Rattle.sf_base.proofs.PointLemmas.{greatest-last, value_here}

pub seen_enough : {P T : Type 0} (b n k : ℕ) (v w : SeatView) (m : Me (Home P T) (Knows T)) → Observes v b n w → m ≡ (seen_note w.seen, []) → k ≤ n → k ≤ greatest b m.0.seen
seen_enough {P} {T} b n k v w m sees is le =
    let M : Type 0 = Me (Home P T) (Knows T) in
    let a : greatest b m.0.seen ≡ greatest b w.seen = ap (λ (z : M). greatest b z.0.seen) is in
    let c : greatest b w.seen ≡ greatest b (v.seen ++ (b, n) ∷ []) = ap (λ (z : SeatView). greatest b z.seen) sees.0 in
    let d = value_here b n in omega (arith, greatest-last b v.seen (b, n))
