use Rattle.std.proofs.Common.{◌≡◌, Some, sym, ◌∙◌, subst, refl}
use Rattle.sf_calls.proofs.Keeps.{HandsOut, hands_out}
use Rattle.sf_calls.proofs.lock.CallLock.close.Goals as goal

pub held-requires : goal.held-requires
held-requires g c =
    let f = c.close_with-closed.ensures.values.2 in
    let k = hands_out g.O.Object.history g.O.Object.mark g.O.Object.answers _ f.0 f.1.0 _ _ f.1.1 _ _ c.last.view_is c.requires.first c.last.invariant.3 c.requires.took_all _ _ f.4 c.take-slot.ensures.value in
    (k.0, k.1)

pub returns : goal.returns
returns g c =
    let f = c.close_with-closed.ensures.values.2 in
    let k = hands_out g.O.Object.history g.O.Object.mark g.O.Object.answers _ f.0 f.1.0 _ _ f.1.1 _ _ c.last.view_is c.requires.first c.last.invariant.3 c.requires.took_all _ _ f.4 c.take-slot.ensures.value in
    let z : Some k.0 ≡ Some c.held.result = sym k.1 ∙ c.held.ensures in
    let same : k.0 ≡ c.held.result = cc in
    let h = subst (HandsOut g.O.Object.history g.O.Object.mark g.O.Object.answers c.self.inside.table.shared.key.0.value c.args.last) same k.2 in
    record { ok = refl; history = h.seen; mark = h.marked; legal = h.legal; taken = h.taken; since = h.since; callers = h.callers }
