use Rattle.std.proofs.Common.{arith, sym, ◌≡◌, ◌*◌, ◌-◌, ◌+◌}
use Rattle.sf_script_generate.specs.Generator.{picture_lines}
use Rattle.sf_script_generate.proofs.DrawLemmas.{after_none}
use Rattle.sf_script_generate.proofs.PartLemmas.{more_parts, no_parts, stands_behind}
use Rattle.sf_script_generate.proofs.script.put_pictures.Goals as goal

pub loop-p-init : goal.loop-p-init
loop-p-init c = (no_parts _ _ _ _ _, sym (after_none c.args.draws.now.state (9 * 0) (omega arith)))

pub loop-p-preserved : goal.loop-p-preserved
loop-p-preserved c =
    let s = c.args.draws.now.state in
    let p = c.loop-p.p in
    let next : p + 1 - 1 ≡ p - 1 + 1 = omega arith in (
      more_parts picture_lines 9 s 1 (p - 1) _ p c.loop-p.draws.state next (omega arith) c.loop-p.invariant.1 c.loop-p.invariant.0 c.in_ok-put_picture.ensures.text,
      stands_behind 9 s (p - 1) _ next c.loop-p.invariant.1 c.in_ok-put_picture.ensures.draws,
    )

pub returns-clause-text : goal.returns-clause-text
returns-clause-text c =
    let done : c.loop-p.p - 1 ≡ 8 = omega arith in
    rw (done) at c.loop-p.invariant.0

pub returns-clause-draws : goal.returns-clause-draws
returns-clause-draws c =
    let done : c.loop-p.p - 1 ≡ 8 = omega arith in
    rw (done) at c.loop-p.invariant.1
