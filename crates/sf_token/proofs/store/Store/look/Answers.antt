use Rattle.std.proofs.Common.{◌∙◌, ap, subst, sym, nat_eq, ℕ, List}
use Rattle.std.specs.List.{IsDistinct}
use Rattle.slab.specs.Slab.{get}
use Rattle.sf_token.specs.Loads.{AllLeases}
use Rattle.sf_token.specs.Pending.{Arrival}
use Rattle.sf_token.specs.inner.Rooms.{AreLooked}
use Rattle.sf_token.specs.Slots.{picked}
use Rattle.sf_token.proofs.LookLemmas.{fits_rooms}
use Rattle.sf_token.proofs.StoreLemmas.{AreFiled-looked, all_taken, distinct_keys}
use Rattle.sf_token.proofs.store.Store.look.Goals as goal

pub rooms_for-requires : goal.rooms_for-requires
rooms_for-requires g c = all_taken (get c.self.inside.slots) c.self.inside.keys.entries c.self.invariant.0

pub look_each-requires-clause-fits : goal.look_each-requires-clause-fits
look_each-requires-clause-fits g c =
    let pending = ap (picked (get c.self.inside.slots)) c.in_ok-rooms.ensures.keys ∙ c.self.view_is in
    fits_rooms (g.L.Lease.fits (g.L.Lease.mark c.args.eye.now)) (get c.self.inside.slots) c.in_ok-rooms.rooms.items
    (subst (λ (list : List (Arrival g.row.L.Denot)). AllLeases (g.L.Lease.fits (g.L.Lease.mark c.args.eye.now)) list) (sym pending) c.requires.fits)

pub look_each-requires-clause-distinct : goal.look_each-requires-clause-distinct
look_each-requires-clause-distinct g c =
    subst (λ (keys : List ℕ). IsDistinct nat_eq keys) (sym c.in_ok-rooms.ensures.keys)
    (distinct_keys (get c.self.inside.slots) c.self.inside.keys.entries c.self.invariant.0 c.self.invariant.1)

pub invariant_of-self : goal.invariant_of-self
invariant_of-self g c =
    let f = get c.self.inside.slots in
    let new = get c.look_each.new.slots in
    let looked = subst (λ (list : List ℕ). AreLooked g.L.Lease c.args.eye.now c.look_each.new.eye f new list c.look_each.new.looks.items) c.in_ok-rooms.ensures.keys c.look_each.ensures in
    (AreFiled-looked g.L.Lease f new c.self.inside.keys.entries looked.kept looked.looked c.self.invariant.0, c.self.invariant.1)
