use Rattle.sf_script_generate.specs.Generator.{lines_of}
use Rattle.sf_script_generate.proofs.TextLemmas.{both}
use Rattle.sf_script_generate.proofs.script.generate.Goals as goal

pub returns : goal.returns
unfolding lines_of
returns c =
    let shown = rw (c.in_ok-put_pictures.ensures.draws) at c.in_ok-put_producers.ensures in
    let whole = both _ _ (both _ _ (both _ _ c.in_ok-put_first.ensures c.in_ok-put_pictures.ensures.text) shown) c.in_ok-put.ensures in
    let text = rw (c.new-text.ensures.bytes) at whole.grown in
    rw (c.into_bytes.ensures.value) text
