use Rattle.std.proofs.Common.{◌≡◌, ◌+◌, ◌*◌, ◌-◌}
use Rattle.std.specs.String.{string_bytes}
use Rattle.sf_script_generate.specs.Lines.{GrowsBy}
use Rattle.sf_script_generate.specs.Generator.{after_draws, parts_from, producer_lines}
use Rattle.sf_script_generate.proofs.script.put_producers.Given as goal

abbrev pub invariant-loop-a : goal.invariant-loop-a
invariant-loop-a l =
    GrowsBy (parts_from (producer_lines l.frames) (5 + 3 * l.frames) l.fn.draws.state 1 (l.a - 1)) (string_bytes l.fn.text) (string_bytes l.text)
    × (l.draws.state ≡ after_draws l.fn.draws.state ((5 + 3 * l.frames) * (l.a - 1)))
