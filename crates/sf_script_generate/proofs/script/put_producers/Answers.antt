use Rattle.std.proofs.Common.{arith, sym, ◌≡◌, ◌*◌, ◌-◌, ◌+◌}
use Rattle.sf_script_generate.specs.Generator.{producer_lines}
use Rattle.sf_script_generate.proofs.DrawLemmas.{after_none, moved_on}
use Rattle.sf_script_generate.proofs.PartLemmas.{more_parts, no_parts, stands_behind}
use Rattle.sf_script_generate.proofs.TextLemmas.{both}
use Rattle.sf_script_generate.proofs.script.put_producers.Goals as goal

pub loop-a-init : goal.loop-a-init
loop-a-init c = (no_parts _ _ _ _ _, sym (after_none c.args.draws.now.state ((5 + 3 * c.args.frames) * 0) (omega arith)))

pub loop-a-preserved : goal.loop-a-preserved
loop-a-preserved c =
    let s = c.args.draws.now.state in
    let a = c.loop-a.a in
    let y = c.loop-a.draws.state in
    let frames = c.args.frames in
    let next : a + 1 - 1 ≡ a - 1 + 1 = omega arith in
    let begun = c.in_ok-put_actor.ensures in
    let shown = rw (begun.draws) at c.in_ok-put_frames.ensures.text in
    let whole = both _ _ begun.text shown in
    let moved = moved_on y 5 (3 * frames) begun.draws c.in_ok-put_frames.ensures.draws in (
      more_parts (producer_lines frames) (5 + 3 * frames) s 1 (a - 1) _ a y next (omega arith) c.loop-a.invariant.1 c.loop-a.invariant.0 whole,
      stands_behind (5 + 3 * frames) s (a - 1) _ next c.loop-a.invariant.1 moved,
    )

pub returns : goal.returns
returns c =
    let done : c.loop-a.a - 1 ≡ 4 = omega arith in
    rw (done) at c.loop-a.invariant.0
