use Rattle.std.proofs.Common.{ap, arith, subst, ℕ}
use Rattle.sf_base.specs.Points.{greatest}
use Rattle.sf_turns.specs.Views.{SeatView}
use Rattle.sf_base.proofs.PointLemmas.{greatest-last, value_here}
use Rattle.sf_txn.specs.Counts.{HasRisen}
use Rattle.sf_surface.specs.Tokens.{ReadLeaseOf, Right}
use Rattle.sf_surface.proofs.Seen.{seen_on}
use Rattle.sf_surface.proofs.reading.ReadLeaseLease.drawn.Goals as goal

pub returns-clause-keeps : goal.returns-clause-keeps
returns-clause-keeps g c = λ other known.
    seen_on other.turn.buffer other.turn.number _ _ _ (ap (λ (v : SeatView). v.seen) c.ready.ensures.observed.1.0) known

pub returns-clause-looks : goal.returns-clause-looks
returns-clause-looks g c =
    subst (λ (l : ReadLeaseOf). HasRisen l.turn.loads c.ready.new.self.loads) c.self.view_is
    (ap (λ (t : Right). t.loads) c.ready.ensures.counted)

pub returns-clause-known : goal.returns-clause-known
returns-clause-known g c =
    let o = c.ready.ensures.observed in
    let n : ℕ = o.0 in
    let b : ℕ = c.self.inside.turn.buffer in
    let number = ap (λ (t : Right). t.number) c.ready.ensures.counted in
    let buffer = ap (λ (t : Right). t.buffer) c.ready.ensures.counted in
    let seen = ap (λ (v : SeatView). greatest b v.seen) o.1.0 in
    let same = ap (λ (z : ℕ). greatest z c.ready.new.seat.seen) buffer in
    let here = value_here b n in
    let least = o.1.1 in
    let last = greatest-last b c.args.eye.now.seen (b, n) in (
      λ yes. (let le = o.2.0 yes in omega (arith, le, number, seen, same, here, last)),
      λ known. o.2.1 (omega (arith, known, least, number, seen, same, here, last)),
    )
