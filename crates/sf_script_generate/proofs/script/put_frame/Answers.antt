use Rattle.std.proofs.Common.{◌≡◌}
use Rattle.sf_script_generate.specs.Generator.{after_draws, draw}
use Rattle.sf_script_generate.proofs.DrawLemmas.{drawn_behind, moved_on}
use Rattle.sf_script_generate.proofs.TextLemmas.{and_then}
use Rattle.sf_script_generate.proofs.script.put_frame.Goals as goal

pub returns-clause-text : goal.returns-clause-text
returns-clause-text c =
    let s = c.args.draws.now.state in
    let two : c.below-x.new.self.state ≡ after_draws s 2 = moved_on s 1 1 c.below-picture.ensures.moved c.below-x.ensures.moved in
    let x : c.below-x.result ≡ draw s 1 129 = drawn_behind s 1 129 c.below-picture.ensures.moved c.below-x.ensures.drawn in
    let y : c.below-y.result ≡ draw s 2 89 = drawn_behind s 2 89 two c.below-y.ensures.drawn in
    rw (← c.below-picture.ensures.drawn, ← x, ← y) (and_then c.in_ok-put_numbered.ensures (and_then c.in_ok-put.ensures (and_then c.in_ok-put_numbered-2.ensures (and_then c.in_ok-put_numbered-3.ensures
    (and_then c.in_ok-put_numbered-4.ensures (and_then c.in_ok-put-2.ensures (and_then c.in_ok-put_numbered-5.ensures (and_then c.in_ok-put_position.ensures c.in_ok-put_numbered-6.ensures))))))))

pub returns-clause-draws : goal.returns-clause-draws
returns-clause-draws c =
    let s = c.args.draws.now.state in
    moved_on s 2 1 (moved_on s 1 1 c.below-picture.ensures.moved c.below-x.ensures.moved) c.below-y.ensures.moved
