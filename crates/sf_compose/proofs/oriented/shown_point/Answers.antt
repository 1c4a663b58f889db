use Rattle.std.proofs.Common.{◌≡◌, ◌∙◌, sym, rules, true, false, pos, neg_ℤ, ◌+ℤ◌, to_z, of_z, w32}
use Rattle.sf_compose.specs.inner.Orientations.{along}
use Rattle.sf_compose.proofs.OrientationLemmas.{across_in, column_shown, down_in, row_shown}
use Rattle.sf_compose.proofs.oriented.shown_point.Goals as goal

pub distance-right-requires : goal.distance-right-requires
distance-right-requires c =
    let fits : to_z w32 (of_z w32 c.args.oriented.place.0) ≡ c.args.oriented.place.0 = search rules in
    rw fits (across_in c.args.oriented.crop c.args.oriented.orient c.args.oriented.place (pos c.args.x) (pos c.args.y) true (sym c.is_sideways.ensures ∙ c.if-is_sideways.true) c.requires.inside)

pub distance-down-requires : goal.distance-down-requires
distance-down-requires c =
    let fits : to_z w32 (of_z w32 c.args.oriented.place.1) ≡ c.args.oriented.place.1 = search rules in
    rw fits (down_in c.args.oriented.crop c.args.oriented.orient c.args.oriented.place (pos c.args.x) (pos c.args.y) true (sym c.is_sideways.ensures ∙ c.if-is_sideways.true) c.requires.inside)

pub distance-right-requires-else-is_sideways : goal.distance-right-requires-else-is_sideways
distance-right-requires-else-is_sideways c =
    let fits : to_z w32 (of_z w32 c.args.oriented.place.0) ≡ c.args.oriented.place.0 = search rules in
    rw fits (across_in c.args.oriented.crop c.args.oriented.orient c.args.oriented.place (pos c.args.x) (pos c.args.y) false (sym c.is_sideways.ensures ∙ c.if-is_sideways.false) c.requires.inside)

pub distance-down-requires-else-is_sideways : goal.distance-down-requires-else-is_sideways
distance-down-requires-else-is_sideways c =
    let fits : to_z w32 (of_z w32 c.args.oriented.place.1) ≡ c.args.oriented.place.1 = search rules in
    rw fits (down_in c.args.oriented.crop c.args.oriented.orient c.args.oriented.place (pos c.args.x) (pos c.args.y) false (sym c.is_sideways.ensures ∙ c.if-is_sideways.false) c.requires.inside)

pub returns-then-is_sideways-clause-column : goal.returns-then-is_sideways-clause-column
returns-then-is_sideways-clause-column c =
    let fits : to_z w32 (of_z w32 c.args.oriented.place.1) ≡ c.args.oriented.place.1 = search rules in
    let edge : to_z w32 (of_z w32 c.args.oriented.crop.x) ≡ c.args.oriented.crop.x = search rules in
    let far : pos c.distance-down.result ≡ pos c.args.y +ℤ neg_ℤ c.args.oriented.place.1 = rw fits at c.distance-down.ensures.distance in
    let is : pos c.along.result ≡ along c.is_back_across.result c.args.oriented.crop.x c.args.oriented.crop.width (pos c.distance-down.result) = rw edge at c.along.ensures in
    is ∙ column_shown c.args.oriented.crop c.args.oriented.orient c.args.oriented.place (pos c.args.x) (pos c.args.y) true c.is_back_across.result c.distance-down.result c.requires.orient (sym c.is_sideways.ensures ∙ c.if-is_sideways.true) c.is_back_across.ensures far

pub returns-then-is_sideways-clause-row : goal.returns-then-is_sideways-clause-row
returns-then-is_sideways-clause-row c =
    let fits : to_z w32 (of_z w32 c.args.oriented.place.0) ≡ c.args.oriented.place.0 = search rules in
    let edge : to_z w32 (of_z w32 c.args.oriented.crop.y) ≡ c.args.oriented.crop.y = search rules in
    let far : pos c.distance-right.result ≡ pos c.args.x +ℤ neg_ℤ c.args.oriented.place.0 = rw fits at c.distance-right.ensures.distance in
    let is : pos c.along-then-is_sideways.result ≡ along c.is_back_down.result c.args.oriented.crop.y c.args.oriented.crop.height (pos c.distance-right.result) = rw edge at c.along-then-is_sideways.ensures in
    is ∙ row_shown c.args.oriented.crop c.args.oriented.orient c.args.oriented.place (pos c.args.x) (pos c.args.y) true c.is_back_down.result c.distance-right.result c.requires.orient (sym c.is_sideways.ensures ∙ c.if-is_sideways.true) c.is_back_down.ensures far

pub returns-else-is_sideways-clause-column : goal.returns-else-is_sideways-clause-column
returns-else-is_sideways-clause-column c =
    let fits : to_z w32 (of_z w32 c.args.oriented.place.0) ≡ c.args.oriented.place.0 = search rules in
    let edge : to_z w32 (of_z w32 c.args.oriented.crop.x) ≡ c.args.oriented.crop.x = search rules in
    let far : pos c.distance-right-else-is_sideways.result ≡ pos c.args.x +ℤ neg_ℤ c.args.oriented.place.0 = rw fits at c.distance-right-else-is_sideways.ensures.distance in
    let is : pos c.along-else-is_sideways.result ≡ along c.is_back_across-else-is_sideways.result c.args.oriented.crop.x c.args.oriented.crop.width (pos c.distance-right-else-is_sideways.result) = rw edge at c.along-else-is_sideways.ensures in
    is ∙ column_shown c.args.oriented.crop c.args.oriented.orient c.args.oriented.place (pos c.args.x) (pos c.args.y) false c.is_back_across-else-is_sideways.result c.distance-right-else-is_sideways.result c.requires.orient (sym c.is_sideways.ensures ∙ c.if-is_sideways.false) c.is_back_across-else-is_sideways.ensures far

pub returns-else-is_sideways-clause-row : goal.returns-else-is_sideways-clause-row
returns-else-is_sideways-clause-row c =
    let fits : to_z w32 (of_z w32 c.args.oriented.place.1) ≡ c.args.oriented.place.1 = search rules in
    let edge : to_z w32 (of_z w32 c.args.oriented.crop.y) ≡ c.args.oriented.crop.y = search rules in
    let far : pos c.distance-down-else-is_sideways.result ≡ pos c.args.y +ℤ neg_ℤ c.args.oriented.place.1 = rw fits at c.distance-down-else-is_sideways.ensures.distance in
    let is : pos c.along-else-is_sideways-2.result ≡ along c.is_back_down-else-is_sideways.result c.args.oriented.crop.y c.args.oriented.crop.height (pos c.distance-down-else-is_sideways.result) = rw edge at c.along-else-is_sideways-2.ensures in
    is ∙ row_shown c.args.oriented.crop c.args.oriented.orient c.args.oriented.place (pos c.args.x) (pos c.args.y) false c.is_back_down-else-is_sideways.result c.distance-down-else-is_sideways.result c.requires.orient (sym c.is_sideways.ensures ∙ c.if-is_sideways.false) c.is_back_down-else-is_sideways.ensures far
