use Rattle.std.proofs.Common.{◌∙◌, ◌++◌, List, ap, sym, arith}
use Rattle.std.proofs.lemmas.Bool.{eqb-true}
use Rattle.std.proofs.lemmas.List.{append-nil}
use Rattle.sf_txn.specs.Buffers.{Buffer}
use Rattle.sf_txn.specs.Transactions.{all_replaced, with_buffers}
use Rattle.sf_txn.proofs.Distinct.{none_here, replaced-none, with_buffers-none}
use Rattle.sf_txn.proofs.lists.merge_buffers.Goals as goal

pub returns-then-is_empty-clause-buffers : goal.returns-then-is_empty-clause-buffers
returns-then-is_empty-clause-buffers g c =
    let none = none_here c.args.buffers.now.items (omega (arith, eqb-true _ _ (sym c.is_empty.ensures ∙ c.if-is_empty.true), c.args.buffers.now.ok.0)) in
    sym (with_buffers-none c.args.more.items c.requires.apart) ∙ ap (λ (bs : List (Buffer g.row.L.Denot)). with_buffers bs c.args.more.items) (sym none)

pub returns-then-is_empty-clause-replaced : goal.returns-then-is_empty-clause-replaced
returns-then-is_empty-clause-replaced g c =
    let none = none_here c.args.buffers.now.items (omega (arith, eqb-true _ _ (sym c.is_empty.ensures ∙ c.if-is_empty.true), c.args.buffers.now.ok.0)) in
    let replaced = c.args.replaced.now.items in
    sym (append-nil replaced) ∙ (ap (λ (bs : List (Buffer g.row.L.Denot)). replaced ++ bs) (sym (replaced-none c.args.more.items c.requires.apart))
    ∙ ap (λ (bs : List (Buffer g.row.L.Denot)). replaced ++ all_replaced bs c.args.more.items) (sym none))
