use Rattle.sf_script_generate.proofs.TextLemmas.{and_then}
use Rattle.sf_script_generate.proofs.script.put_first.Goals as goal

pub returns : goal.returns
returns c = and_then c.in_ok-put.ensures (and_then c.in_ok-put-2.ensures (and_then c.in_ok-put_numbered.ensures (and_then c.in_ok-put_numbered-2.ensures (and_then c.in_ok-put_numbered-3.ensures c.in_ok-put_numbered-4.ensures))))
