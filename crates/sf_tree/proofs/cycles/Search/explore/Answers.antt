use Rattle.std.proofs.Common.{◌≡◌, ◌<◌, sym, ap, ◌∙◌, refl, arith, Ok, get_or, length, length-append}
use Rattle.sf_tree.specs.inner.Search.{steps_along, relative_along, GoesOn, Grows}
use Rattle.sf_tree.proofs.Lookups.{layer_of-none}
use Rattle.sf_tree.proofs.SearchSteps.{HasSteps, HasSteps-place, first_way, second_way, way_back, IsFollowed-grows, IsExplored-both, any_default}
use Rattle.sf_tree.proofs.cycles.Search.explore.Goals as goal

pub returns-in_default-clause-explored : goal.returns-in_default-clause-explored
returns-in_default-clause-explored c _ d =
    let from : get_or c.args.self.now.found.items c.args.index d ≡ c.index-from.result.now = any_default c.args.self.now.found.items c.args.index d c.index-from.result.now c.requires.inside ∙ sym c.index-from.ensures in
    rw (from, layer_of-none c.args.layers.now c.index-from.result.now (sym c.index_of.ensures.place ∙ c.in_default.is)) tt

pub returns-then-branch-clause-back : goal.returns-then-branch-clause-back
returns-then-branch-clause-back c _ =
    let steps : HasSteps c.args.along c.args.layers.now (get_or c.args.self.now.found.items c.args.index c.index-from.result.now) c.parent_step.result (relative_along c.args.along c.at-layer.result) =
    rw (sym c.index-from.ensures) (HasSteps-place c.args.along c.args.layers.now c.index-from.result.now c.in-Some.place c.at-layer.result c.parent_step.result _ c.in-Some.ensures.place c.at-layer.ensures c.parent_step.ensures refl) in
    way_back c.args.along c.args.layers.now c.args.first _ c.parent_step.result (c.follow.ensures.back (c.in_ok-follow.was ∙ ap Ok c.if-branch.true)) (first_way c.args.along c.args.layers.now c.args.first c.args.self.now.found.items c.args.self.now.marks.items c.args.index c.index-from.result.now c.parent_step.result _ c.requires.search c.requires.inside steps)

pub follow-requires-2 : goal.follow-requires-2
follow-requires-2 c =
    let steps : HasSteps c.args.along c.args.layers.now (get_or c.args.self.now.found.items c.args.index c.index-from.result.now) c.parent_step.result c.relative_step.result =
    rw (sym c.index-from.ensures) (HasSteps-place c.args.along c.args.layers.now c.index-from.result.now c.in-Some.place c.at-layer.result c.parent_step.result c.relative_step.result c.in-Some.ensures.place c.at-layer.ensures c.parent_step.ensures c.relative_step.ensures) in
    (c.follow.ensures.on (c.in_ok-follow.was ∙ ap Ok c.if-branch.false) (steps_along c.args.along) c.args.index (first_way c.args.along c.args.layers.now c.args.first c.args.self.now.found.items c.args.self.now.marks.items c.args.index c.index-from.result.now c.parent_step.result c.relative_step.result c.requires.search c.requires.inside steps) c.requires.inside c.requires.search).search.marked

pub returns-clause-back : goal.returns-clause-back
returns-clause-back c back =
    let steps : HasSteps c.args.along c.args.layers.now (get_or c.args.self.now.found.items c.args.index c.index-from.result.now) c.parent_step.result c.relative_step.result =
    rw (sym c.index-from.ensures) (HasSteps-place c.args.along c.args.layers.now c.index-from.result.now c.in-Some.place c.at-layer.result c.parent_step.result c.relative_step.result c.in-Some.ensures.place c.at-layer.ensures c.parent_step.ensures c.relative_step.ensures) in
    way_back c.args.along c.args.layers.now c.args.first _ c.relative_step.result (c.follow-2.ensures.back back) (second_way c.args.along c.args.layers.now c.args.first c.args.self.now.found.items c.args.self.now.marks.items c.args.index c.index-from.result.now c.parent_step.result c.relative_step.result c.requires.search c.requires.inside steps)

pub returns-clause-search : goal.returns-clause-search
returns-clause-search c on =
    let steps : HasSteps c.args.along c.args.layers.now (get_or c.args.self.now.found.items c.args.index c.index-from.result.now) c.parent_step.result c.relative_step.result =
    rw (sym c.index-from.ensures) (HasSteps-place c.args.along c.args.layers.now c.index-from.result.now c.in-Some.place c.at-layer.result c.parent_step.result c.relative_step.result c.in-Some.ensures.place c.at-layer.ensures c.parent_step.ensures c.relative_step.ensures) in
    let one : GoesOn (steps_along c.args.along) c.args.layers.now c.args.first c.follow.new.self.found.items c.follow.new.self.marks.items c.parent_step.result =
    c.follow.ensures.on (c.in_ok-follow.was ∙ ap Ok c.if-branch.false) (steps_along c.args.along) c.args.index (first_way c.args.along c.args.layers.now c.args.first c.args.self.now.found.items c.args.self.now.marks.items c.args.index c.index-from.result.now c.parent_step.result c.relative_step.result c.requires.search c.requires.inside steps) c.requires.inside c.requires.search in
    let grows : Grows c.args.self.now.found.items c.follow.new.self.found.items = c.follow.ensures.grows (c.in_ok-follow.was ∙ ap Ok c.if-branch.false) in
    let inside : c.args.index < length c.follow.new.self.found.items = rw grows.1 (omega (arith, length-append c.args.self.now.found.items grows.0)) in
    (c.follow-2.ensures.on on (steps_along c.args.along) c.args.index (second_way c.args.along c.args.layers.now c.args.first c.args.self.now.found.items c.args.self.now.marks.items c.args.index c.index-from.result.now c.parent_step.result c.relative_step.result c.requires.search c.requires.inside steps) inside one.search).search

pub returns-clause-explored : goal.returns-clause-explored
returns-clause-explored c on d =
    let steps : HasSteps c.args.along c.args.layers.now (get_or c.args.self.now.found.items c.args.index c.index-from.result.now) c.parent_step.result c.relative_step.result =
    rw (sym c.index-from.ensures) (HasSteps-place c.args.along c.args.layers.now c.index-from.result.now c.in-Some.place c.at-layer.result c.parent_step.result c.relative_step.result c.in-Some.ensures.place c.at-layer.ensures c.parent_step.ensures c.relative_step.ensures) in
    let one : GoesOn (steps_along c.args.along) c.args.layers.now c.args.first c.follow.new.self.found.items c.follow.new.self.marks.items c.parent_step.result =
    c.follow.ensures.on (c.in_ok-follow.was ∙ ap Ok c.if-branch.false) (steps_along c.args.along) c.args.index (first_way c.args.along c.args.layers.now c.args.first c.args.self.now.found.items c.args.self.now.marks.items c.args.index c.index-from.result.now c.parent_step.result c.relative_step.result c.requires.search c.requires.inside steps) c.requires.inside c.requires.search in
    let grows : Grows c.args.self.now.found.items c.follow.new.self.found.items = c.follow.ensures.grows (c.in_ok-follow.was ∙ ap Ok c.if-branch.false) in
    let inside : c.args.index < length c.follow.new.self.found.items = rw grows.1 (omega (arith, length-append c.args.self.now.found.items grows.0)) in
    let two : GoesOn (steps_along c.args.along) c.args.layers.now c.args.first c.follow-2.new.self.found.items c.follow-2.new.self.marks.items c.relative_step.result =
    c.follow-2.ensures.on on (steps_along c.args.along) c.args.index (second_way c.args.along c.args.layers.now c.args.first c.args.self.now.found.items c.args.self.now.marks.items c.args.index c.index-from.result.now c.parent_step.result c.relative_step.result c.requires.search c.requires.inside steps) inside one.search in
    rw (any_default c.args.self.now.found.items c.args.index d c.index-from.result.now c.requires.inside)
    (IsExplored-both c.args.along c.args.layers.now c.args.first _ c.follow-2.new.self.found.items c.parent_step.result c.relative_step.result steps (IsFollowed-grows c.args.layers.now c.args.first c.follow.new.self.found.items c.follow-2.new.self.found.items c.parent_step.result (c.follow-2.ensures.grows on) one.followed) two.followed)
