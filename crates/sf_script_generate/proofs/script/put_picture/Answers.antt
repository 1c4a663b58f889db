use Rattle.std.proofs.Common.{◌≡◌, ◌+◌}
use Rattle.sf_script_generate.specs.Generator.{after_draws, draw}
use Rattle.sf_script_generate.proofs.DrawLemmas.{drawn_behind, moved_on}
use Rattle.sf_script_generate.proofs.TextLemmas.{and_then}
use Rattle.sf_script_generate.proofs.script.put_picture.Goals as goal

pub returns-clause-text : goal.returns-clause-text
returns-clause-text c =
    let s = c.args.draws.now.state in
    let one : c.below-r.new.self.state ≡ after_draws s 1 = c.below-r.ensures.moved in
    let two : c.below-g.new.self.state ≡ after_draws s 2 = moved_on s 1 1 one c.below-g.ensures.moved in
    let three : c.below-b.new.self.state ≡ after_draws s 3 = moved_on s 2 1 two c.below-b.ensures.moved in
    let four : c.below-x.new.self.state ≡ after_draws s 4 = moved_on s 3 1 three c.below-x.ensures.moved in
    let five : c.below-y.new.self.state ≡ after_draws s 5 = moved_on s 4 1 four c.below-y.ensures.moved in
    let six : c.below-a.new.self.state ≡ after_draws s 6 = moved_on s 5 1 five c.below-a.ensures.moved in
    let seven : c.below-r-2.new.self.state ≡ after_draws s 7 = moved_on s 6 1 six c.below-r-2.ensures.moved in
    let eight : c.below-g-2.new.self.state ≡ after_draws s 8 = moved_on s 7 1 seven c.below-g-2.ensures.moved in
    let g : c.below-g.result ≡ draw s 1 256 = drawn_behind s 1 256 one c.below-g.ensures.drawn in
    let b : c.below-b.result ≡ draw s 2 256 = drawn_behind s 2 256 two c.below-b.ensures.drawn in
    let x : c.below-x.result ≡ draw s 3 17 = drawn_behind s 3 17 three c.below-x.ensures.drawn in
    let y : c.below-y.result ≡ draw s 4 17 = drawn_behind s 4 17 four c.below-y.ensures.drawn in
    let a : c.below-a.result ≡ draw s 5 256 = drawn_behind s 5 256 five c.below-a.ensures.drawn in
    let most = c.below-a.result + 1 in
    let r' : c.below-r-2.result ≡ draw s 6 most = drawn_behind s 6 most six c.below-r-2.ensures.drawn in
    let g' : c.below-g-2.result ≡ draw s 7 most = drawn_behind s 7 most seven c.below-g-2.ensures.drawn in
    let b' : c.below-b-2.result ≡ draw s 8 most = drawn_behind s 8 most eight c.below-b-2.ensures.drawn in
    rw (← c.below-r.ensures.drawn, ← g, ← b, ← x, ← y, ← a, ← r', ← g', ← b') (and_then c.in_ok-put_numbered.ensures (and_then c.in_ok-put_fill.ensures c.in_ok-put_glass.ensures))

pub returns-clause-draws : goal.returns-clause-draws
returns-clause-draws c =
    let s = c.args.draws.now.state in
    moved_on s 8 1 (moved_on s 7 1 (moved_on s 6 1 (moved_on s 5 1 (moved_on s 4 1 (moved_on s 3 1 (moved_on s 2 1 (moved_on s 1 1
    c.below-r.ensures.moved c.below-g.ensures.moved) c.below-b.ensures.moved) c.below-x.ensures.moved) c.below-y.ensures.moved) c.below-a.ensures.moved) c.below-r-2.ensures.moved) c.below-g-2.ensures.moved) c.below-b-2.ensures.moved
