use Rattle.std.proofs.Common.{◌∙◌, ◌<◌, ◌+◌, List, Option, ap, drop, get_or, length, map, refl, subst, sym, arith}
use Rattle.std.specs.Option.{is_some, unwrap_or}
use Rattle.std.proofs.lemmas.List.{drop_more, take_all}
use Rattle.std.proofs.lemmas.List.Elements.{All-head}
use Rattle.sf_view.specs.sf_picture.declared.picture.Picture.{Picture}
use Rattle.sf_commit.proofs.LendLemmas.{taken_is, there_rest}
use Rattle.sf_commit.proofs.ListLemmas.{empty_of, map_more}
use Rattle.sf_commit.proofs.SettleLemmas.{some_here}
use Rattle.sf_commit.specs.Inside.{cleared}
use Rattle.sf_commit.specs.Leases.{pictures, pictures_here}
use Rattle.sf_commit.specs.Lending.{AreThere, IsThere, read_of}
use Rattle.sf_commit.specs.OnLayers.{OnLayer}
use Rattle.sf_commit.proofs.lending.collect.Goals as goal

pub taken_at-taken-requires : goal.taken_at-taken-requires
taken_at-taken-requires g c =
    let i = c.loop-reading.reading-index in
    let on = c.args.on.now in
    let one = get_or on i c.reading-item.result in
    let next = drop_more on i c.reading-item.result c.loop-reading-test.true in
    λ none. subst (λ (ps : List Picture). 0 < length ps) (sym (c.loop-reading.invariant.stayed ∙ ap (pictures_here g.L.Lease) next))
    (some_here one.place (g.L.Lease.picture one.lease) (pictures_here g.L.Lease (drop (i + 1) on)) (sym (ap (λ (x : OnLayer g.row.L.Denot). x.place) (c.reading.view_is ∙ c.reading-item.is)) ∙ none))

pub take_painted-requires : goal.take_painted-requires
take_painted-requires g c =
    let i = c.loop-reading.reading-index in
    let on = c.args.on.now in
    let one = get_or on i c.reading-item.result in
    let rest = drop (i + 1) on in
    let next = drop_more on i c.reading-item.result c.loop-reading-test.true in
    let there = subst (λ (xs : List (OnLayer g.row.L.Denot)). AreThere g.L.Lease c.loop-reading.slots.items (map read_of xs)) next c.loop-reading.invariant.there in
    let taken = taken_is c.loop-reading.slots.items c.taken_at-taken.result one.place (g.L.Lease.picture one.lease) (pictures_here g.L.Lease rest) c.taken_at-taken.new.pixels.rest.items
    (c.taken_at-taken.ensures.place ∙ ap (λ (x : OnLayer g.row.L.Denot). x.place) (c.reading.view_is ∙ c.reading-item.is))
    (c.taken_at-taken.ensures.here ∙ (c.loop-reading.invariant.stayed ∙ ap (pictures_here g.L.Lease) next))
    (All-head (IsThere g.L.Lease c.loop-reading.slots.items) (read_of one) (map read_of rest) there.there) in
    ap (λ (o : Option Picture). is_some o) taken.0

pub loop-reading-preserved : goal.loop-reading-preserved
loop-reading-preserved g c =
    let i = c.loop-reading.reading-index in
    let on = c.args.on.now in
    let d = c.reading-item.result in
    let one = get_or on i d in
    let rest = drop (i + 1) on in
    let next = drop_more on i d c.loop-reading-test.true in
    let place = c.taken_at-taken.ensures.place ∙ ap (λ (x : OnLayer g.row.L.Denot). x.place) (c.reading.view_is ∙ c.reading-item.is) in
    let there = subst (λ (xs : List (OnLayer g.row.L.Denot)). AreThere g.L.Lease c.loop-reading.slots.items (map read_of xs)) next c.loop-reading.invariant.there in
    let taken = taken_is c.loop-reading.slots.items c.taken_at-taken.result one.place (g.L.Lease.picture one.lease) (pictures_here g.L.Lease rest) c.taken_at-taken.new.pixels.rest.items
    place (c.taken_at-taken.ensures.here ∙ (c.loop-reading.invariant.stayed ∙ ap (pictures_here g.L.Lease) next))
    (All-head (IsThere g.L.Lease c.loop-reading.slots.items) (read_of one) (map read_of rest) there.there) in
    let shows = ap (λ (o : Option Picture). unwrap_or o c.take_painted.result) (c.take_painted.ensures.taken ∙ taken.0) in
    let many = c.loop-reading.invariant.many in
    let room = c.loop-reading.invariant.room in
    record {
      made = c.push_reserved.ensures.items ∙ map_more (λ (x : OnLayer g.row.L.Denot). g.L.Lease.picture x.lease) on c.loop-reading.contents.items i d c.take_painted.result c.loop-reading-test.true c.loop-reading.invariant.made shows;
      stayed = taken.1;
      there = subst (λ px. AreThere g.L.Lease px (map read_of rest)) (sym (c.take_painted.ensures.left ∙ ap (cleared c.loop-reading.slots.items) place))
          (there_rest g.L.Lease c.loop-reading.slots.items (read_of one) (map read_of rest) there);
      many = c.push_reserved.ensures.len ∙ ap (λ n. n + 1) many;
      room = omega (arith, room, c.push_reserved.ensures.capacity);
      slots = c.take_painted.ensures.room ∙ c.loop-reading.invariant.slots;
    }

pub loop-reading-init : goal.loop-reading-init
loop-reading-init g c = record {
  made = empty_of c.args.room.items (sym c.args.room.ok.0 ∙ c.requires.empty);
  stayed = c.into_iter-stayed.ensures.rest ∙ c.requires.stayed;
  there = c.requires.there;
  many = c.requires.empty;
  room = c.requires.room;
  slots = refl;
}

pub returns-clause-contents : goal.returns-clause-contents
returns-clause-contents g c =
    c.loop-reading.invariant.made ∙ ap (pictures g.L.Lease) (take_all c.loop-reading.reading-index c.args.on.now c.loop-reading-test.false)
