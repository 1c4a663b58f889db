use Rattle.std.proofs.Common.{rules, ◌≡◌, ◌∙◌, ◌∷◌, [], ◌++◌, ℕ, List, ap, append_assoc, arith, map, nat_eq, subst, sym}
use Rattle.std.specs.List.{IsDistinct}
use Rattle.std.specs.Vec.Iter.{into_iter_items}
use Rattle.slab.specs.Slab.{get}
use Rattle.sf_token.specs.declared.looking.Room.{Room}
use Rattle.sf_token.proofs.LookLemmas.{AreLooked-more, AreLooked-nil, apart_at, same_all, same_left}
use Rattle.sf_token.proofs.looking.look_each.Goals as goal

pub loop-room-init : goal.loop-room-init
loop-room-init g c =
    let items : into_iter_items c.into_iter-room-iterator.result ≡ c.args.rooms.items = search rules in
    record {
      can = tt;
      finite = tt;
      looked = ([], ap (λ (rooms : List Room). map (λ (room : Room). room.key) rooms) items, rw c.requires.empty (AreLooked-nil g.L.Lease c.args.eye.now (get c.args.slots.now)));
      same = same_all (get c.args.slots.now) _;
      rooms = rw items c.requires.rooms;
      fits = rw items c.requires.fits;
      room = search rules;
    }

pub loop-room-preserved : goal.loop-room-preserved
loop-room-preserved g c =
    let h = c.loop-room.invariant in
    let steps = c.in-Some.ensures.steps in
    let done = h.looked.0 in
    let key = c.in-Some.room.key in
    let rest = map (λ (room : Room). room.key) (into_iter_items c.next.new.self) in
    let all = ap (λ (rooms : List Room). done ++ map (λ (room : Room). room.key) rooms) (sym steps.0) ∙ h.looked.1 in
    let apart = apart_at done key rest (subst (λ (keys : List ℕ). IsDistinct nat_eq keys) (sym all) c.requires.distinct) in
    let same = rw steps.0 at h.same in
    let looked = AreLooked-more g.L.Lease c.args.eye.now c.loop-room.eye c.look_in.new.eye (get c.args.slots.now) (get c.loop-room.slots) (get c.look_in.new.slots) done key
    c.loop-room.looks.items c.look_in.result apart.0 same.0 h.looked.2 c.look_in.ensures.looked c.look_in.ensures.others c.look_in.ensures.eye in
    record {
      can = tt;
      finite = tt;
      looked = (done ++ key ∷ [], append_assoc done (key ∷ []) rest ∙ all, rw c.push_reserved.ensures.items looked);
      same = same_left (get c.args.slots.now) (get c.loop-room.slots) (get c.look_in.new.slots) key c.look_in.ensures.others _ apart.1 same.1;
      rooms = (rw steps.0 at h.rooms).1;
      fits = (rw steps.0 at h.fits).1;
      room = omega (arith, h.room, steps.1, c.push_reserved.ensures.len, c.push_reserved.ensures.capacity);
    }
