use Rattle.std.proofs.Common.{ap, ◌∙◌}
use Rattle.std.specs.List.{position}
use Rattle.std.specs.Prelude.{find}
use Rattle.sf_txn.specs.Buffers.{Buffer}
use Rattle.sf_txn.specs.Transactions.{is_for}
use Rattle.sf_txn.proofs.lists.put_buffer.Goals as goal

pub returns-clause-replaced : goal.returns-clause-replaced
returns-clause-replaced g c =
    let layer = c.buffer.inside.layer in
    c.take_at-replaced.ensures.taken (is_for layer) (c.place_of_buffer-place.ensures ∙ ap (position (is_for layer)) c.deref.ensures.value)
    ∙ ap (λ (b : Buffer g.row.L.Denot). find (is_for b.layer) c.args.buffers.now.items) c.buffer.view_is
