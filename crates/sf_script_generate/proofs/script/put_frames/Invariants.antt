use Rattle.std.proofs.Common.{◌≡◌, ◌*◌}
use Rattle.std.specs.String.{string_bytes}
use Rattle.sf_script_generate.specs.Lines.{GrowsBy}
use Rattle.sf_script_generate.specs.Generator.{after_draws, frames_from}
use Rattle.sf_script_generate.proofs.script.put_frames.Given as goal

abbrev pub invariant-loop : goal.invariant-loop
invariant-loop l =
    GrowsBy (frames_from l.fn.draws.state l.a l.counter) (string_bytes l.fn.text) (string_bytes l.text) × (l.draws.state ≡ after_draws l.fn.draws.state (3 * l.counter))
