use Rattle.std.proofs.Common.{◌≡◌, ℕ, arith, refl, sym, ap, subst, ◌∙◌}
use Rattle.sf_turns.specs.Views.{Observes, IssuedView}
use Rattle.sf_turns.proofs.Sights.{seen_enough}
use Rattle.sf_turns.proofs.owed.Owed.enter.Goals as goal

pub enter-p-requires-clause-token : goal.enter-p-requires-clause-token
enter-p-requires-clause-token g c =
    let at : c.self.inside.parts.value.buffer ≡ c.deref.result.now.buffer = (let e = c.deref.ensures in cc) in
    let nth : c.self.inside.parts.value.number ≡ c.deref-2.result.now.number = (let e = c.deref-2.ensures in cc) in
    (_, c.self.invariant.0.2, refl, at, seen_enough _ _ _ _ _ _ c.load_leaves.ensures.observed c.note-note.ensures.note.1 (omega arith))

pub returns-clause-observed : goal.returns-clause-observed
returns-clause-observed g c =
    let n = c.load_leaves.result in
    let o = c.load_leaves.ensures.observed in
    let is : c.self.inside.parts.value.buffer ≡ c.deref.result.now.buffer = (let e = c.deref.ensures in cc) in
    let nth : c.self.inside.parts.value.number ≡ c.deref-2.result.now.number = (let e = c.deref-2.ensures in cc) in
    let at : c.deref.result.now.buffer ≡ c.args.self.buffer = sym is ∙ ap (λ (t : IssuedView g.row.P-Stamp.Denot). t.buffer) c.self.view_is in
    let its : c.self.inside.parts.value.number ≡ c.args.self.number = ap (λ (t : IssuedView g.row.P-Stamp.Denot). t.number) c.self.view_is in
    let enough = seen_enough _ _ n _ _ _ o c.note-note.ensures.note.1 (omega arith) in
    let few = c.enter-p.ensures.counted _ c.self.invariant.0.2 in
    (n, subst (λ (b : ℕ). Observes c.args.seat.now b n c.note-note.new.self) at (c.note-note.ensures.same ∙ o.0, o.1, o.2, o.3), omega (arith, enough, few))
