use Rattle.std.proofs.Common.{false}
use Rattle.std.proofs.lemmas.List.{append_assoc}
use Rattle.std.proofs.lemmas.Fmt.{hex_byte}
use Rattle.sf_script_generate.specs.Lines.{glass_line, hex}
use Rattle.sf_script_generate.proofs.TextLemmas.{one}
use Rattle.sf_script_generate.proofs.lines.put_glass.Goals as goal

pub returns : goal.returns
unfolding glass_line hex
returns c =
    let r = hex_byte false c.args.colour.r c.requires.bytes.0 in
    let g = hex_byte false c.args.colour.g c.requires.bytes.1 in
    let b = hex_byte false c.args.colour.b c.requires.bytes.2 in
    let a = hex_byte false c.args.colour.a c.requires.bytes.3 in
    let told = rw (c.in_radix.ensures, c.laid_out.ensures, c.in_radix-2.ensures, c.laid_out-2.ensures, c.in_radix-3.ensures, c.laid_out-3.ensures, c.in_radix-4.ensures, c.laid_out-4.ensures, r, g, b, a) at c.in_ok-writeln.ensures.bytes in
    one (simp append_assoc told)
