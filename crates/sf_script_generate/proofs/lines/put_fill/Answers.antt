use Rattle.std.proofs.Common.{false}
use Rattle.std.proofs.lemmas.Fmt.{hex_byte}
use Rattle.sf_script_generate.specs.Lines.{fill_line, hex}
use Rattle.sf_script_generate.proofs.TextLemmas.{one}
use Rattle.sf_script_generate.proofs.lines.put_fill.Goals as goal

pub returns : goal.returns
unfolding fill_line hex
returns c =
    let r = hex_byte false c.args.r c.requires.bytes.0 in
    let g = hex_byte false c.args.g c.requires.bytes.1 in
    let b = hex_byte false c.args.b c.requires.bytes.2 in
    one (rw (c.in_radix.ensures, c.laid_out.ensures, c.in_radix-2.ensures, c.laid_out-2.ensures, c.in_radix-3.ensures, c.laid_out-3.ensures, r, g, b) at c.in_ok-writeln.ensures.bytes)
