use Rattle.std.proofs.Common.{◌≡◌, ◌++◌, ◌∙◌, length, take, drop, sym, ap}
use Rattle.std.specs.List.{AllZip}
use Rattle.std.proofs.lemmas.List.{take_at}
use Rattle.sf_txn.specs.Leases.{IsLookedBuffer}
use Rattle.sf_txn.proofs.BufferLooks.{IsTransaction-looked}
use Rattle.sf_txn.proofs.transaction.Transaction.look.Goals as goal

pub invariant_of-self : goal.invariant_of-self
invariant_of-self g c =
    let size : length c.look_all.new.buffers ≡ c.self.inside.buffers.len = c.look_all.auto.buffers ∙ (ap length c.deref_mut.ensures.value ∙ sym c.self.inside.buffers.ok.0) in
    let back : take c.self.inside.buffers.len (c.look_all.new.buffers ++ drop (length c.look_all.new.buffers) c.self.inside.buffers.items) ≡ c.look_all.new.buffers = take_at c.look_all.new.buffers _ _ size in
    let looked : AllZip (IsLookedBuffer g.L.Lease) c.self.inside.buffers.items c.look_all.new.buffers = rw c.deref_mut.ensures.value at c.look_all.ensures.looked in
    rw back (IsTransaction-looked g.L.Lease _ c.look_all.new.buffers c.self.invariant looked)
