use Rattle.std.proofs.Common.{arith, sym, ◌*◌}
use Rattle.sf_script_generate.specs.Generator.{frame_lines}
use Rattle.sf_script_generate.proofs.DrawLemmas.{after_none}
use Rattle.sf_script_generate.proofs.PartLemmas.{more_parts, no_parts, stands_behind}
use Rattle.sf_script_generate.proofs.script.put_frames.Goals as goal

pub loop-init : goal.loop-init
loop-init c = (no_parts _ _ _ _ _, sym (after_none c.args.draws.now.state (3 * 0) (omega arith)))

pub loop-preserved : goal.loop-preserved
loop-preserved c =
    let s = c.args.draws.now.state in
    let n = c.loop.counter in (
      more_parts (λ y k. frame_lines y c.args.a) 3 s 0 n _ n c.loop.draws.state (omega arith) (omega arith) c.loop.invariant.1 c.loop.invariant.0 c.in_ok-put_frame.ensures.text,
      stands_behind 3 s n _ (omega arith) c.loop.invariant.1 c.in_ok-put_frame.ensures.draws,
    )
