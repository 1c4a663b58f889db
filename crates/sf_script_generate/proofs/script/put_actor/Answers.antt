use Rattle.std.proofs.Common.{◌≡◌}
use Rattle.sf_script_generate.specs.Generator.{after_draws, draw}
use Rattle.sf_script_generate.proofs.DrawLemmas.{drawn_behind, moved_on}
use Rattle.sf_script_generate.proofs.TextLemmas.{and_then}
use Rattle.sf_script_generate.proofs.script.put_actor.Goals as goal

pub returns-clause-text : goal.returns-clause-text
returns-clause-text c =
    let s = c.args.draws.now.state in
    let two : c.below-x.new.self.state ≡ after_draws s 2 = moved_on s 1 1 c.below.ensures.moved c.below-x.ensures.moved in
    let three : c.below-y.new.self.state ≡ after_draws s 3 = moved_on s 2 1 two c.below-y.ensures.moved in
    let four : c.below-2.new.self.state ≡ after_draws s 4 = moved_on s 3 1 three c.below-2.ensures.moved in
    let x : c.below-x.result ≡ draw s 1 129 = drawn_behind s 1 129 c.below.ensures.moved c.below-x.ensures.drawn in
    let y : c.below-y.result ≡ draw s 2 89 = drawn_behind s 2 89 two c.below-y.ensures.drawn in
    let z : c.below-2.result ≡ draw s 3 5 = drawn_behind s 3 5 three c.below-2.ensures.drawn in
    let alpha : c.below-3.result ≡ draw s 4 256 = drawn_behind s 4 256 four c.below-3.ensures.drawn in
    rw (← c.below.ensures.drawn, ← x, ← y, ← z, ← alpha) (and_then c.in_ok-put_numbered.ensures (and_then c.in_ok-put_numbered-2.ensures (and_then c.in_ok-put_numbered-3.ensures (and_then c.in_ok-put_pair.ensures
    (and_then c.in_ok-put.ensures (and_then c.in_ok-put_numbered-4.ensures (and_then c.in_ok-put_position.ensures (and_then c.in_ok-put_pair-2.ensures (and_then c.in_ok-put_pair-3.ensures c.in_ok-put_numbered-5.ensures)))))))))

pub returns-clause-draws : goal.returns-clause-draws
returns-clause-draws c =
    let s = c.args.draws.now.state in
    moved_on s 4 1 (moved_on s 3 1 (moved_on s 2 1 (moved_on s 1 1 c.below.ensures.moved c.below-x.ensures.moved) c.below-y.ensures.moved) c.below-2.ensures.moved) c.below-3.ensures.moved
