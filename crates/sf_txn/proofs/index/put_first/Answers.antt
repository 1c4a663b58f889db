use Rattle.std.proofs.Common.{◌≡◌, ◌<◌, ◌∙◌, true, false, ap, sym, arith}
use Rattle.std.specs.List.{position_from}
use Rattle.std.proofs.lemmas.Grind.{common_steps}
use Rattle.sf_txn.specs.Places.{is_kept, kept}
use Rattle.sf_txn.specs.Transactions.{replaces, with_ops}
use Rattle.sf_txn.proofs.Fronts.{first-indexed, front-inside, kept-first}
use Rattle.sf_txn.proofs.MergedOperations.{found-none, found-replaces, merged-first, merged-gone, merged-replaced, room-any, room-kept}
use Rattle.sf_txn.proofs.Places.{apart-kept}
use Rattle.sf_txn.proofs.index.put_first.Goals as goal

pub returns-then-not-is_kept-clause-items : goal.returns-then-not-is_kept-clause-items
returns-then-not-is_kept-clause-items c =
    let gone : is_kept c.args.operation ≡ false = sym c.is_kept.ensures ∙ c.if-not-is_kept.true in
    λ earlier h. merged-gone earlier c.args.operation (kept c.args.items.now.items) gone

pub returns-then-not-is_kept-clause-room : goal.returns-then-not-is_kept-clause-room
returns-then-not-is_kept-clause-room c = λ earlier h. room-any earlier c.args.operation c.args.index.now.front h

pub returns-then-is_some-clause-items : goal.returns-then-is_some-clause-items
returns-then-is_some-clause-items c =
    let s = c.args.operation in
    let items = c.args.items.now.items in
    let here : is_kept s ≡ true = sym c.is_kept.ensures ∙ c.if-not-is_kept.false in
    let layer : 0 < s.0.0 = grind (arith, common_steps, here) in
    let place = c.place_of.ensures ∙ ap (position_from (replaces s) 0) c.deref.ensures.value in
    let gone = found-replaces s items c.place_of.result layer place (sym c.is_some.ensures ∙ c.if-is_some.true) in
    λ earlier h. merged-replaced earlier s (kept items) here h (apart-kept items c.requires.indexed.apart) gone

pub returns-then-is_some-clause-room : goal.returns-then-is_some-clause-room
returns-then-is_some-clause-room c = λ earlier h. room-any earlier c.args.operation c.args.index.now.front h

pub index_mut-requires : goal.index_mut-requires
index_mut-requires c =
    let here : is_kept c.args.operation ≡ true = sym c.is_kept.ensures ∙ c.if-not-is_kept.false in
    omega (arith, c.requires.room here, front-inside c.args.index.now.front c.args.items.now.items c.requires.indexed.front, c.args.items.now.ok.0)

pub returns-clause-items : goal.returns-clause-items
returns-clause-items c =
    let s = c.args.operation in
    let items = c.args.items.now.items in
    let here : is_kept s ≡ true = sym c.is_kept.ensures ∙ c.if-not-is_kept.false in
    let layer : 0 < s.0.0 = grind (arith, common_steps, here) in
    let first = kept-first s c.args.index.now.front items layer (c.requires.room here) c.requires.indexed.front in
    λ earlier h. ap (with_ops (kept earlier)) first ∙ merged-first earlier s (kept items) here h

pub returns-clause-indexed : goal.returns-clause-indexed
returns-clause-indexed c =
    let s = c.args.operation in
    let items = c.args.items.now.items in
    let here : is_kept s ≡ true = sym c.is_kept.ensures ∙ c.if-not-is_kept.false in
    let layer : 0 < s.0.0 = grind (arith, common_steps, here) in
    let place = c.place_of.ensures ∙ ap (position_from (replaces s) 0) c.deref.ensures.value in
    let none = found-none s items c.place_of.result place (sym c.is_some.ensures ∙ c.if-is_some.false) in
    first-indexed s items c.args.index.now c.note.new.places layer (c.requires.room here) c.requires.indexed none c.note.ensures

pub returns-clause-room : goal.returns-clause-room
returns-clause-room c =
    let here : is_kept c.args.operation ≡ true = sym c.is_kept.ensures ∙ c.if-not-is_kept.false in
    λ earlier h. omega (arith, room-kept earlier c.args.operation c.args.index.now.front here h)
