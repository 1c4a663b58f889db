use Rattle.std.proofs.Common.{◌≡◌, length, arith}
use Rattle.sf_txn.proofs.Fronts.{last-indexed}
use Rattle.sf_txn.proofs.index.put_last.Goals as goal

pub returns-clause-indexed : goal.returns-clause-indexed
returns-clause-indexed c =
    let items = c.args.items.now.items in
    let last : c.len-last.result ≡ length items = omega (arith, c.len-last.ensures, c.empty_at.ensures.len, c.args.items.now.ok.0) in
    rw (c.append.ensures.items, c.empty_at.ensures.items) (last-indexed c.args.operation c.len-last.result _ items c.args.index.now c.note.new.places last c.requires.indexed c.note.ensures)
