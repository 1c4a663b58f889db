use Rattle.std.proofs.Common.{◌≡◌, ◌*◌, ◌-◌}
use Rattle.std.specs.String.{string_bytes}
use Rattle.sf_script_generate.specs.Lines.{GrowsBy}
use Rattle.sf_script_generate.specs.Generator.{after_draws, parts_from, picture_lines}
use Rattle.sf_script_generate.proofs.script.put_pictures.Given as goal

abbrev pub invariant-loop-p : goal.invariant-loop-p
invariant-loop-p l =
    GrowsBy (parts_from picture_lines 9 l.fn.draws.state 1 (l.p - 1)) (string_bytes l.fn.text) (string_bytes l.text) × (l.draws.state ≡ after_draws l.fn.draws.state (9 * (l.p - 1)))
